-- `room_left` meets its contract: what is left of the replies decides about what is left of the room. Assumes nothing.
use Rattle.std.proofs.Common.{◌≡◌, ◌+◌, length}
use Rattle.scan.specs.Complete.{lines_from}
use Rattle.piece.specs.Piece.{joined_answers, replies}
use Rattle.piece.specs.PieceReplies.{to_come}
use Rattle.piece.proofs.measure.room_left.Given as goal

abbrev pub invariant-loop-reply : goal.invariant-loop-reply
invariant-loop-reply l =
    (goal.iterator-loop-reply).can_next l.reply-iterator
    × (goal.iterator-loop-reply).is_finite l.reply-iterator
    × (l.left + length (joined_answers (replies (lines_from l.fn.held l.fn.piece))) ≡ l.room + length (joined_answers (to_come l.reply-iterator)))
