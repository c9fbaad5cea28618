-- The laws that the proofs of this crate cite.
pub mod Order
pub mod Lo
pub mod Settled
