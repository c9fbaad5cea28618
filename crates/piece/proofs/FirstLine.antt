-- A piece whose first line carries on the one that is held: its replies, and what is held after it. Assumes nothing.
use Rattle.std.proofs.Common.{◌≡◌, ℕ, ◌≤◌, List, [], ◌∷◌, ◌++◌, length, take, drop, sym, ap, ◌∙◌, arith, append-nil, zero-add}
use lib.Seq.{take_all}
use Rattle.replies.specs.Reply.{Reply, reply_to}
use Rattle.scan.specs.Complete.{lines_from, rest_from, lines, rest, line_end}
use Rattle.state.specs.Holding.{as_held}
use Rattle.state.specs.Carry.{carry_on, carry_end}
use Rattle.piece.specs.Piece.{replies}
use Rattle.scan.proofs.Cutting.{FirstLine, NoLine, no_line, first_line, line_end_within}
use Rattle.state.proofs.Holds.{as_held_twice}
use Rattle.piece.proofs.Replied.{reply_as_held}

-- `line` is what is held, `so`, carried on from the start of p up to `end`
module _ (so p line : List ℕ) (end : ℕ) (e : line ≡ carry_on so p 0) (f : end ≡ carry_end p 0) where
  its_end : end ≡ line_end p
  its_end = f ∙ zero-add (line_end p)

  its_held : line ≡ as_held (so ++ take end p)
  unfolding carry_on
  its_held = e ∙ ap (λ (k : ℕ). as_held (so ++ take k p)) (sym its_end)

  -- it stops within the piece
  pub end_within : end ≤ length p
  end_within = omega (arith, its_end, line_end_within p)

  -- it stops at the end: there is no reply, and it is held
  module _ (h : length p ≤ end) where
    none : NoLine so p
    none = no_line p so (omega (arith, its_end, line_end_within p))

    pub no_replies : [] ≡ replies (lines_from so p)
    unfolding replies
    no_replies = sym (ap replies none.no_lines)

    pub all_held : as_held (line ++ []) ≡ as_held (rest_from so p)
    all_held =
        ap as_held (append-nil line ∙ its_held ∙ ap (λ (k : List ℕ). as_held (so ++ k)) (take_all end p h) ∙ ap as_held (sym none.all_rest))
        ∙ as_held_twice (rest_from so p)

  -- it stops at a line feed, and `others` follow
  module _ (b : ℕ) (others : List ℕ) (h : drop end p ≡ b ∷ others) where
    first : FirstLine so p (take (line_end p) p) others
    first = first_line p so b others (rw its_end at h)

    pub first_reply : (r : Reply) → r ≡ reply_to line → r ∷ replies (lines others) ≡ replies (lines_from so p)
    unfolding replies
    first_reply r a =
        ap (λ (k : Reply). k ∷ replies (lines others)) (a ∙ ap reply_to its_held ∙ reply_as_held (so ++ take end p) ∙ rw its_end) ∙ sym (ap replies first.its_lines)

    pub others_held : as_held ([] ++ rest others) ≡ as_held (rest_from so p)
    others_held = ap as_held (sym first.its_rest)
