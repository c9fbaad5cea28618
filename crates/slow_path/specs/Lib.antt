-- The definitions that the contracts of `slow_path` cite: the table path in double-doubles.
pub mod Slow
