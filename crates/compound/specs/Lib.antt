-- The definitions that the contracts of `compound` cite, by the sections of document 01: the answer, the choice of
-- the route, and the starred pairs. Special operands, whole exponents and the table path (its tables, fast, slow) are
-- crates below.
pub mod Answer
pub mod Route
pub mod Starred
