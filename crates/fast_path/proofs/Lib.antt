-- The laws that the proofs of this crate and of those above it cite.
pub mod Lifted
pub mod Field
pub mod Index
pub mod OnePlus
pub mod Midpoints
pub mod Coefficients
pub mod InverseRange
pub mod InverseSlot
pub mod PowerSlot
pub mod Halved
pub mod MinusOne
pub mod Reduced
pub mod LogSize
