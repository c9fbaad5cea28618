-- The laws that the proofs of this crate and of those above it cite.
pub mod Exponent
pub mod Squaring
pub mod Tiny
pub mod Quotient
