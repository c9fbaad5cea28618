-- The laws of `state`.
pub mod Holds
pub mod Unbroken
