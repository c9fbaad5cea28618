-- Document 01, "Batch lines and the reader's state": the input lines.
pub mod Format
pub mod Fields
