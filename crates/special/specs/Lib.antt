-- The definitions that the contracts of `special` cite: special operands, and the ranks that code and proof share.
pub mod Special
pub mod Rank
pub mod Operands
