-- Document 01: complete lines and the unfinished tail.
pub mod Complete
