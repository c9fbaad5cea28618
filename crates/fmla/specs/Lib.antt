-- The definitions that the contracts of `fmla` cite.
pub mod Fmla
