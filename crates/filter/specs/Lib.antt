-- The definitions that the contracts of `filter` cite: the plain evaluation, how near a pattern is to a midpoint of
-- two f32s, and when what the filter finds is right.
pub mod Midpoints
pub mod Plain
pub mod Right
