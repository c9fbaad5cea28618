-- Document 01, "One pair, one answer": the definitions that the contracts of `fade` cite.
pub mod Run
pub mod Stream
pub mod Task
