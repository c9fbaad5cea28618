-- The laws of `replies`, and an answer as the definitions write it.
pub mod Examples
pub mod Lengths
pub mod Patterns
