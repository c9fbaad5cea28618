-- Document 01, "Batch lines and the reader's state": the state, and how a piece carries it on.
pub mod Holding
pub mod Carry
