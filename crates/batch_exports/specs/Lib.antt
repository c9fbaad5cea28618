-- The definitions that the contracts of `batch_exports` cite.
pub mod Handed
