-- The definitions that the contracts of `whole` cite.
pub mod Whole
