-- What is kept for answers is enough for those to any piece. Assumes nothing.
use Rattle.std.proofs.Common.{ℕ, ◌+◌, ◌*◌, ◌≤◌, ◌≡◌, false, List, length, arith}
use Rattle.std.proofs.lemmas.Grind.{common_steps}
use Rattle.std.specs.Prelude.{Ok, Err}
use Rattle.state.specs.declared.State.{State}
use Rattle.state.specs.declared.Tail.{Tail}
use Rattle.batch.specs.declared.Refused.TheVariants.{NoRoom}
use Rattle.state.specs.Holding.{over_long, held_line, broken}
use Rattle.piece.specs.Piece.{answer_growth, answer_lines, added}
use Rattle.batch.specs.Feed.{verdict}
use Rattle.scan.proofs.Cutting.{line_feeds_within}
use Rattle.piece.proofs.Replied.{answers_length}
use Rattle.state.proofs.Unbroken.{count_most}

-- the line that a tail holds is no longer than the mark says
held_line_most : (t : Tail) → t.count ≤ over_long → length (held_line t) ≤ over_long
unfolding held_line
held_line_most t h = grind (arith, common_steps)

-- so the answers to a piece have at most as many bytes as a tail, the piece, and some more for each of its bytes
answers_most : (s : State) (p : List ℕ) → broken s ≡ false → length (answer_lines (added s p)) ≤ over_long + length p + answer_growth * length p
unfolding added
answers_most s p h = omega (arith, answers_length p (held_line s.tail), held_line_most s.tail (count_most s h), line_feeds_within p)

-- 7 does not come where the output has room for so many
pub never_seven : (s : State) (p : List ℕ) (room : ℕ) → over_long + length p + answer_growth * length p ≤ room → verdict s p room ≡ Err NoRoom → ⊥
unfolding verdict
never_seven s p room h e = grind (arith, common_steps, answers_most)

-- an accepted feed wrote no more than the output has
pub wrote_within : (s : State) (p : List ℕ) (room n : ℕ) → verdict s p room ≡ Ok n → n ≤ room
unfolding verdict
wrote_within s p room n e = grind (arith, common_steps)
