-- The definitions that the contracts of `floats` cite, and that the crates above it build on.
pub mod Operations
pub mod Narrowing
pub mod SubnormalSum
pub mod OnBits
