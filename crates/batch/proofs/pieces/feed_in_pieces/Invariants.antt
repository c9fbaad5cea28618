-- The calls so far, and what they have taken and written.
use Rattle.std.proofs.Common.{List}
use Rattle.batch.specs.Series.{Call}
use Rattle.batch.proofs.InPieces.{Come}
use Rattle.batch.proofs.pieces.feed_in_pieces.Given as goal

abbrev pub invariant-loop-piece : goal.invariant-loop-piece
invariant-loop-piece l = (cs : List Call) × Come l.input l.initial.out l.out l.state l.piece-iterator.rest.now l.at cs
