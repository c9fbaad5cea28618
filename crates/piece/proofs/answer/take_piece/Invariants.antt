-- `take_piece` meets its contract: as far as it has come, the replies are written and counted. Assumes nothing.
use Rattle.std.proofs.Common.{◌≡◌, ℕ, List, ◌++◌, length, map}
use Rattle.text.specs.Bytes.{put}
use Rattle.replies.specs.Reply.{Reply, reply_of}
use Rattle.state.specs.declared.Tallies.{Tallies}
use Rattle.piece.specs.Tally.{tallies_with}
use Rattle.piece.specs.Piece.{joined_answers}
use Rattle.piece.specs.PieceReplies.{to_come, to_hold}
use Rattle.piece.proofs.answer.take_piece.Given as goal

-- of the replies `all`, `done` are written and counted, and `left` are to come
pub record Done (all : List Reply) (t₀ : Tallies) (out₀ : List ℕ) (done left : List Reply) (out : List ℕ) (place : ℕ) (t : Tallies) : Type 0 where
  pub all_are : all ≡ done ++ left
  pub out_is : out ≡ put out₀ 0 (joined_answers done)
  pub place_is : place ≡ length (joined_answers done)
  pub tallies_are : t ≡ tallies_with t₀ done

abbrev pub invariant-loop-reply : goal.invariant-loop-reply
invariant-loop-reply l =
    Done (to_come l.initial.replies) l.initial.tallies l.initial.out (map reply_of l.yielded) (to_come l.replies) l.out l.at l.tallies
    × (to_hold l.replies ≡ to_hold l.initial.replies)

abbrev pub decreases-loop-reply : goal.decreases-loop-reply
decreases-loop-reply l = length (to_come l.replies)
