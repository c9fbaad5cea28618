-- `next` meets its contract: after the first reply come those to the other lines. Assumes nothing.
use Rattle.std.proofs.Common.{arith}
use Rattle.std.proofs.lemmas.Grind.{common_steps}
use Rattle.piece.specs.Piece.{replies}
use Rattle.piece.proofs.piece_replies.PieceRepliesIterator.next.Goals as goal

pub returns-in_err-line-clause-steps : goal.returns-in_err-line-clause-steps
unfolding replies
returns-in_err-line-clause-steps c = grind (arith, common_steps)

pub returns-clause-steps : goal.returns-clause-steps
unfolding replies
returns-clause-steps c = grind (arith, common_steps)

pub returns-clause-goes : goal.returns-clause-goes
unfolding replies
returns-clause-goes c = grind (arith, common_steps)
