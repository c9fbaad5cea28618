-- Document 01, "One pair, one answer": the line of totals.
pub mod Totals
