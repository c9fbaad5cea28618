-- The laws that the proofs of this crate and of those above it cite.
pub mod Scaled
pub mod Clamped
pub mod Coefficients
pub mod ExpSize
pub mod LogSize
pub mod Logs
pub mod LowPart
pub mod OnePlusParts
pub mod LogCases
pub mod Exponent
pub mod Steps
