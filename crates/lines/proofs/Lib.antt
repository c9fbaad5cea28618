-- The laws of `lines`, and lines as the definitions read them.
pub mod Examples
pub mod Ids
pub mod Reading
pub mod BothWays
