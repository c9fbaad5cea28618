-- The laws of `fade`.
pub mod Feeds
pub mod Tries
pub mod Turns
pub mod Whole
