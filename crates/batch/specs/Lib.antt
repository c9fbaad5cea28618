-- Document 01, "Batch lines and the reader's state", and the mission's demand 3: the definitions that the contracts
-- of `batch` cite.
pub mod Feed
pub mod Series
pub mod Input
pub mod Example
