-- The laws that the proofs of this crate and of those above it cite, and examples of the definitions.
pub mod Laws
pub mod Examples
