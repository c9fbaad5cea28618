-- Text: lists of bytes, and numbers as digits.
pub mod Bytes
pub mod Digits
