-- The laws of `scan`: where line feeds are, and lines cut off one by one.
pub mod Cutting
pub mod Eights
