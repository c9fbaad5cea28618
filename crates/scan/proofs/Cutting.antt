-- Complete lines and the unfinished tail: cut at the first line feed, and cut anywhere. Assumes nothing.
use Rattle.std.proofs.Common.{◌≡◌, ℕ, suc, ◌+◌, ◌≤◌, Bool, true, false, not, cond, List, [], ◌∷◌, ◌++◌, length, take, drop, eqb, refl, sym, ◌∙◌, arith, append-nil}
use lib.Seq.{append_snoc, drop-nil}
use Rattle.std.proofs.lemmas.List.Sums.{count_by-le-length, prefix_len-le-length, sum_by-append, sum_by-cons}
use Rattle.std.proofs.lemmas.Bool.Decides.{nat_tests}
use Rattle.scan.specs.Complete.{line_feed, lines_from, rest_from, lines, rest, line_feeds, line_end}

-- a line's end lies within the list, and there are no more line feeds than bytes
pub line_end_within : (l : List ℕ) → line_end l ≤ length l
unfolding line_end
line_end_within l = prefix_len-le-length (λ b. not (eqb b line_feed)) l

pub line_feeds_within : (l : List ℕ) → line_feeds l ≤ length l
unfolding line_feeds
line_feeds_within l = count_by-le-length (λ b. eqb b line_feed) l

-- line feeds add up
pub line_feeds_append : (p q : List ℕ) → line_feeds (p ++ q) ≡ line_feeds p + line_feeds q
unfolding line_feeds
line_feeds_append p q = sum_by-append (λ b. cond (eqb b line_feed) 1 0) p q

pub line_feeds_nil : line_feeds [] ≡ 0
unfolding line_feeds
line_feeds_nil = refl

pub line_feeds_first : (b : ℕ) (l : List ℕ) → line_feeds (b ∷ l) ≡ cond (eqb b line_feed) 1 0 + line_feeds l
unfolding line_feeds
line_feeds_first b l = sum_by-cons (λ b. cond (eqb b line_feed) 1 0) b l

-- `l`, after the bytes `so` of a line, has no line feed
pub record NoLine (so l : List ℕ) : Type 0 where
  pub no_lines : lines_from so l ≡ []
  pub all_rest : rest_from so l ≡ so ++ l
  pub no_line_feeds : line_feeds l ≡ 0

-- `l`, after the bytes `so` of a line, ends that line with `line` and a line feed, and `left` follows
pub record FirstLine (so l line left : List ℕ) : Type 0 where
  pub its_lines : lines_from so l ≡ (so ++ line) ∷ lines left
  pub its_rest : rest_from so l ≡ rest left
  pub its_line_feeds : line_feeds l ≡ line_feeds left + 1

-- a list whose first line feed is its end has none
pub no_line : (l so : List ℕ) → line_end l ≡ length l → NoLine so l
unfolding lines_from rest_from line_feeds line_end
no_line [] so e = record { no_lines = refl; all_rest = sym (append-nil so); no_line_feeds = refl }
no_line (b ∷ l) so e =
    let r = no_line l (so ++ b ∷ []) in
    record {
      no_lines = grind (arith, nat_tests);
      all_rest = grind (arith, nat_tests, append_snoc);
      no_line_feeds = grind (arith, nat_tests, line_feeds_first);
    }

-- a line feed ends the line, and another byte makes it longer
end_here : (b : ℕ) (l : List ℕ) → eqb b line_feed ≡ true → line_end (b ∷ l) ≡ 0
unfolding line_end
end_here b l h = rw h

end_later : (b : ℕ) (l : List ℕ) → eqb b line_feed ≡ false → line_end (b ∷ l) ≡ suc (line_end l)
unfolding line_end
end_later b l h = rw h (omega arith)

-- a list in which something follows what stands before its first line feed is cut there
pub first_line : (l so : List ℕ) (b : ℕ) (left : List ℕ) → drop (line_end l) l ≡ b ∷ left → FirstLine so l (take (line_end l) l) left
unfolding lines_from rest_from lines rest
first_line [] so b left e = absurd (let z : ◌≡◌ {A = List ℕ} [] (b ∷ left) = rw drop-nil at e in cc)
first_line (a ∷ l) so b left e = by (eqb a line_feed) refl (first_line l (so ++ a ∷ []) b left)
  where
    by : (t : Bool) → eqb a line_feed ≡ t → (drop (line_end l) l ≡ b ∷ left → FirstLine (so ++ a ∷ []) l (take (line_end l) l) left) → FirstLine so (a ∷ l) (take (line_end (a ∷ l)) (a ∷ l)) left
    by true h r =
        let f : l ≡ left = (let z : a ∷ l ≡ b ∷ left = rw (end_here a l h) at e in cc) in
        record {
          its_lines = rw (h, end_here a l h, append-nil, f);
          its_rest = rw (h, f);
          its_line_feeds = grind (arith, nat_tests, line_feeds_first);
        }
    by false h r =
        let f : FirstLine (so ++ a ∷ []) l (take (line_end l) l) left = r (rw (end_later a l h) at e) in
        record {
          its_lines = rw (h, end_later a l h) (f.its_lines ∙ rw append_snoc);
          its_rest = rw h f.its_rest;
          its_line_feeds = grind (arith, nat_tests, line_feeds_first);
        }

-- as many lines as line feeds
pub length_lines : (l so : List ℕ) → length (lines_from so l) ≡ line_feeds l
unfolding lines_from
length_lines [] so = sym line_feeds_nil
length_lines (b ∷ l) so = grind (arith, nat_tests, line_feeds_first, length_lines l [], length_lines l (so ++ b ∷ []))

-- a list cut anywhere: its lines are those of the first part, and then those of the second after what the first leaves
pub lines_append : (p q so : List ℕ) → lines_from so (p ++ q) ≡ lines_from so p ++ lines_from (rest_from so p) q
unfolding lines_from rest_from
lines_append [] q so = refl
lines_append (b ∷ p) q so = grind (arith, nat_tests, lines_append p q [], lines_append p q (so ++ b ∷ []))

pub rest_append : (p q so : List ℕ) → rest_from so (p ++ q) ≡ rest_from (rest_from so p) q
unfolding rest_from
rest_append [] q so = refl
rest_append (b ∷ p) q so = grind (arith, nat_tests, rest_append p q [], rest_append p q (so ++ b ∷ []))

-- what a list leaves unfinished has no line feed
pub line_feeds_rest : (l so : List ℕ) → line_feeds so ≡ 0 → line_feeds (rest_from so l) ≡ 0
unfolding rest_from line_feeds
line_feeds_rest [] so e = e
line_feeds_rest (b ∷ l) so e = grind (arith, nat_tests, line_feeds_append, line_feeds_first, line_feeds_rest l [], line_feeds_rest l (so ++ b ∷ []))
