-- The definitions that the contracts of `slow_filter` cite.
pub mod Subnormal
pub mod NearOne
pub mod PlainSlow
