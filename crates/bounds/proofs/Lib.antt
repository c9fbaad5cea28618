-- The laws that the crates above cite.
pub mod Values
pub mod Operation
pub mod Sums
pub mod Split
pub mod Dekker
pub mod Scales
pub mod Distances
pub mod Grids
pub mod Compared
pub mod Exactly
pub mod OwnScale
pub mod Apart
pub mod Nearest
