-- Document 01, "Batch lines and the reader's state": a piece of input, answered and counted.
pub mod Tally
pub mod Piece
pub mod PieceReplies
