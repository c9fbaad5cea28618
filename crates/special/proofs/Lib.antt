-- The laws that the proofs of this crate and of those above it cite.
pub mod Classes
pub mod Rule
pub mod Ranks
pub mod Tabled
