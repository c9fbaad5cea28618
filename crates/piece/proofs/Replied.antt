-- Answer lines and tallies over a list of lines, one line at a time. Assumes nothing.
use Rattle.std.proofs.Common.{◌≡◌, ℕ, suc, lit<, ◌+◌, ◌*◌, ◌≤◌, Bool, true, false, cond, List, [], ◌∷◌, ◌++◌, length, eqb, refl, sym, ap, ◌∙◌, arith, length-append, append-nil, map, add-zero, zero-add, add_assoc}
use Rattle.compound.specs.declared.Route.{Route}
use Rattle.compound.specs.declared.Route.TheVariants.{Rule as rule, Whole as whole, Edge as edge, Fast as fast, Slow as slow}
use Rattle.replies.specs.Reply.{Reply, answer, bad, reply_to, answer_line}
use Rattle.replies.proofs.Lengths.{over_long_lem, answer_length}
use Rattle.state.specs.declared.Tallies.{Tallies}
use Rattle.scan.specs.Complete.{line_feed, lines_from, rest_from, line_feeds}
use Rattle.state.specs.Holding.{as_held, zero_tallies, total}
use Rattle.scan.proofs.Cutting.{line_feeds_nil, line_feeds_first}
use Rattle.state.proofs.Holds.{Fits, short, long, fits, as_held_short, as_held_long}
use Rattle.piece.specs.Tally.{tallies_with, tallies_of}
use Rattle.piece.specs.Piece.{answer_growth, replies, joined_answers, answer_lines}
use Rattle.std.proofs.lemmas.List.{length-map, map-append}
use Rattle.std.proofs.lemmas.List.Concat.{flat_map-append}
use Rattle.std.proofs.lemmas.List.Sums.{sum_by-append}

-- ---- answer lines
-- those of two lists of replies, and of two lists of lines
pub joined_append : (a b : List Reply) → joined_answers (a ++ b) ≡ joined_answers a ++ joined_answers b
unfolding joined_answers
joined_append a b = flat_map-append answer_line a b

pub replies_append : (a b : List (List ℕ)) → replies (a ++ b) ≡ replies a ++ replies b
unfolding replies
replies_append a b = map-append reply_to a b

pub answer_append : (a b : List (List ℕ)) → answer_lines (a ++ b) ≡ answer_lines a ++ answer_lines b
unfolding answer_lines
answer_append a b = ap joined_answers (replies_append a b) ∙ joined_append (replies a) (replies b)

-- those of one reply more
pub joined_push : (rs : List Reply) (r : Reply) → joined_answers (rs ++ r ∷ []) ≡ joined_answers rs ++ answer_line r
unfolding joined_answers
joined_push rs r = joined_append rs (r ∷ []) ∙ ap (λ (k : List ℕ). joined_answers rs ++ k) (append-nil (answer_line r))

-- how long they are
pub length_first : (r : Reply) (rs : List Reply) → length (joined_answers (r ∷ rs)) ≡ length (answer_line r) + length (joined_answers rs)
unfolding joined_answers
length_first r rs = length-append (answer_line r) (joined_answers rs)

pub length_none : length (joined_answers []) ≡ 0
unfolding joined_answers
length_none = refl

pub length_all : (ls : List (List ℕ)) → length (answer_lines ls) ≡ length (joined_answers (replies ls))
unfolding answer_lines
length_all ls = refl

pub ruleset length_steps = (length_first, length_none, length_all)

-- ---- tallies
-- replies are counted in any grouping, and no reply changes nothing
pub tallies_append : (t : Tallies) (a b : List Reply) → tallies_with t (a ++ b) ≡ tallies_with (tallies_with t a) b
unfolding tallies_with
tallies_append t a b = simp (sum_by-append, add_assoc)

pub tallies_none : (t : Tallies) → tallies_with t [] ≡ t
unfolding tallies_with
tallies_none t = simp add-zero

-- each reply is counted once
total_first : (t : Tallies) (r : Reply) → total (tallies_with t (r ∷ [])) ≡ total t + 1
unfolding total tallies_with
total_first t (answer d o) = by o.via
  where
    by : (v : Route) → total (tallies_with t (answer d (record { via = v; value = o.value }) ∷ [])) ≡ total t + 1
    by rule = omega arith
    by whole = omega arith
    by edge = omega arith
    by fast = omega arith
    by slow = omega arith
total_first t (bad n) = omega arith

pub total_with : (t : Tallies) (rs : List Reply) → total (tallies_with t rs) ≡ total t + length rs
total_with t [] = ap total (tallies_none t) ∙ sym (add-zero (total t))
total_with t (r ∷ rs) = omega (arith, ap total (tallies_append t (r ∷ []) rs), total_with (tallies_with t (r ∷ [])) rs, total_first t r)

-- and so is each line
pub total_lines : (t : Tallies) (ls : List (List ℕ)) → total (tallies_with t (replies ls)) ≡ total t + length ls
unfolding replies
total_lines t ls = total_with t (map reply_to ls) ∙ ap (λ (n : ℕ). total t + n) (length-map ls reply_to)

pub total_tallies_of : (ls : List (List ℕ)) → total (tallies_of (replies ls)) ≡ length ls
unfolding total
total_tallies_of ls = total_lines zero_tallies ls ∙ zero-add (length ls)

-- an over-long line has the same answer as what stands for it
pub reply_as_held : (l : List ℕ) → reply_to (as_held l) ≡ reply_to l
reply_as_held l = by (fits l)
  where
    by : Fits l → reply_to (as_held l) ≡ reply_to l
    by (short h) = ap reply_to (as_held_short l h)
    by (long h) = over_long_lem (as_held l) (rw (as_held_long l h) (lit< tt)) ∙ sym (over_long_lem l h)

-- Answers to a tail's line and a piece: an answer line is at most five bytes longer than its line, each with its line feed, and that is one of the piece's.
pub answers_length : (p so : List ℕ) → length (answer_lines (lines_from so p)) + length (rest_from so p) ≤ length so + length p + answer_growth * line_feeds p
unfolding lines_from rest_from answer_lines replies joined_answers
answers_length [] so = omega (arith, line_feeds_nil)
answers_length (b ∷ p) so = by (eqb b line_feed) refl (answers_length p []) (answers_length p (so ++ b ∷ [])) (line_feeds_first b p)
  where
    by : (t : Bool) → eqb b line_feed ≡ t → length (answer_lines (lines_from [] p)) + length (rest_from [] p) ≤ 0 + length p + answer_growth * line_feeds p
        → length (answer_lines (lines_from (so ++ b ∷ []) p)) + length (rest_from (so ++ b ∷ []) p) ≤ length (so ++ b ∷ []) + length p + answer_growth * line_feeds p
        → line_feeds (b ∷ p) ≡ cond (eqb b line_feed) 1 0 + line_feeds p
        → length (answer_lines (cond t (so ∷ lines_from [] p) (lines_from (so ++ b ∷ []) p))) + length (cond t (rest_from [] p) (rest_from (so ++ b ∷ []) p)) ≤ length so + suc (length p) + answer_growth * line_feeds (b ∷ p)
    by true e h g f = let n : line_feeds (b ∷ p) ≡ 1 + line_feeds p = rw e at f in omega (arith, length-append (answer_line (reply_to so)) (answer_lines (lines_from [] p)), answer_length so)
    by false e h g f = let n : line_feeds (b ∷ p) ≡ 0 + line_feeds p = rw e at f in omega (arith, length-append so (b ∷ []))
