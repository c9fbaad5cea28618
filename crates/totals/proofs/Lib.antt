-- The laws of `totals`.
pub mod Room
