-- The laws of `batch`, and demand 3.
pub mod NotFive
pub mod Carrying
pub mod EverySeries
pub mod InPieces
pub mod Room
pub mod Example
