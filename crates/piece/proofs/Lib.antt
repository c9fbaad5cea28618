-- The laws of `piece`.
pub mod FirstLine
pub mod Replied
pub mod OneFeed
