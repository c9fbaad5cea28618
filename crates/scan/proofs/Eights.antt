-- Going through a list of bytes eight by eight. Assumes nothing.
use Rattle.std.proofs.Common.{◌≡◌, ℕ, zero, suc, ◌+◌, ◌*◌, ◌≤◌, Bool, true, false, not, ◌||◌, List, [], ◌∷◌, length, take, drop, eqb, cond, refl, sym, ap, ◌∙◌, arith}
use Rattle.std.specs.List.{fold, list_any, position_or_len, position}
use Rattle.std.specs.Simd.{first_chunks}
use Rattle.std.specs.Option.{unwrap_or}
use Rattle.std.proofs.Common.{take-append-drop, length-drop}
use lib.Seq.{drop-drop, length-take-le}
use borrow.Author.Tests.{eq-eqb}
use Rattle.std.proofs.lemmas.List.Folds.{prefix_len-append}
use Rattle.std.proofs.lemmas.List.Sums.{prefix_len-le-length}
use Rattle.std.proofs.lemmas.Bool.Decides.{nat_tests}
use Rattle.scan.specs.Complete.{line_feed, line_end}

-- a test that is carried on over all bytes of a list
pub found_by_fold : (p : ℕ → Bool) (l : List ℕ) (found : Bool) → fold (λ f b. f || p b) found l ≡ (found || list_any p l)
found_by_fold p [] true = refl
found_by_fold p [] false = refl
found_by_fold p (b ∷ l) true = found_by_fold p l true
found_by_fold p (b ∷ l) false = found_by_fold p l (p b)

-- the place of the first that passes, or the length
pub place_or_len : {X : Type 0} (p : X → Bool) (l : List X) → unwrap_or (position p l) (length l) ≡ position_or_len p l
place_or_len p l = let w = prefix_len-le-length (λ x. not (p x)) l in grind (arith, nat_tests)

-- bytes with no line feed are all before the first
none_found : (p : ℕ → Bool) (l : List ℕ) → list_any p l ≡ false → position_or_len p l ≡ length l
none_found p [] e = refl
none_found p (b ∷ l) e = grind (arith, none_found p l)

-- eight bytes with a line feed or without
abbrev pub has : List ℕ → Bool
has = list_any (λ b. eqb b line_feed)

-- eight without are passed over
passed : (l : List ℕ) → 8 ≤ length l → has (take 8 l) ≡ false → line_end l ≡ 8 + line_end (drop 8 l)
unfolding line_end
passed l h e =
    ap line_end (sym (take-append-drop 8 l))
    ∙ prefix_len-append (λ b. not (eqb b line_feed)) (take 8 l) (drop 8 l)
    ∙ rw (none_found (λ b. eqb b line_feed) (take 8 l) e, eq-eqb (length (take 8 l)) (length (take 8 l)) refl, length-take-le 8 l h)

-- c bytes at the front of l are before its first line feed
pub record Before (l : List ℕ) (c : ℕ) : Type 0 where
  pub within : c ≤ length l
  pub line_later : line_end l ≡ c + line_end (drop c l)

-- those of the groups of eight before the first that has one are
pub near_end : (k : ℕ) (l : List ℕ) → k * 8 ≤ length l → Before l (8 * position_or_len has (first_chunks 8 k l))
near_end zero l h = record { within = omega arith; line_later = omega arith }
near_end (suc k) l h = by (has (take 8 l)) refl (near_end k (drop 8 l) (omega (arith, length-drop 8 l)))
  where
    by : (t : Bool) → has (take 8 l) ≡ t → Before (drop 8 l) (8 * position_or_len has (first_chunks 8 k (drop 8 l))) → Before l (8 * cond (not t) (1 + position_or_len has (first_chunks 8 k (drop 8 l))) 0)
    by true e r = record { within = omega arith; line_later = omega arith }
    by false e r = later (position_or_len has (first_chunks 8 k (drop 8 l))) r
      where
        later : (n : ℕ) → Before (drop 8 l) (8 * n) → Before l (8 * (1 + n))
        later n r =
            let q : 8 + 8 * n ≡ 8 * (1 + n) = omega arith in
            let p : line_end l ≡ 8 + line_end (drop 8 l) = passed l (omega arith) e in
            let d : line_end (drop (8 * n) (drop 8 l)) ≡ line_end (drop (8 * (1 + n)) l) = ap line_end (drop-drop (8 * n) 8 l) ∙ ap (λ (j : ℕ). line_end (drop j l)) q in
            record { within = omega (arith, length-drop 8 l); line_later = omega (arith, p, d, r.line_later) }
