-- `is_short` meets its contract: room for any answers is enough, and else the answers are measured. Assumes nothing.
use Rattle.std.proofs.Common.{arith}
use Rattle.std.proofs.lemmas.Bool.Decides.{nat_tests}
use Rattle.piece.proofs.Replied.{answers_length}
use Rattle.piece.proofs.measure.is_short.Goals as goal

pub returns-else-not-has_room : goal.returns-else-not-has_room
returns-else-not-has_room c = let n = answers_length c.args.piece.now c.args.held in grind (arith, nat_tests)
