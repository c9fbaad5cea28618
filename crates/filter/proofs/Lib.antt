-- The laws that the proofs of this crate cite.
pub mod Limits
pub mod Relative
pub mod Factor
pub mod Logarithm
pub mod Polynomial
pub mod Switches
pub mod NotZero
pub mod Power
pub mod Accepted
pub mod Middle
pub mod OneStep
pub mod Times
pub mod Near
pub mod Edges
pub mod Settled
