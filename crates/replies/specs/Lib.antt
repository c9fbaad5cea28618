-- Document 01, "Batch lines and the reader's state": the answers to lines.
pub mod Reply
