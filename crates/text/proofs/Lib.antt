-- The laws of `text`.
pub mod Put
pub mod Numerals
pub mod Words
