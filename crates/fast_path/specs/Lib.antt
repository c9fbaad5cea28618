-- The definitions that the contracts of `fast_path` cite: the table path as far as the fast answer, and the edges of t.
pub mod Scaling
pub mod Fast
pub mod Edges
