-- What proves `Reduction::of`: for a t from -150 to 128 the index of the power is inside the table, and for one that is not 0 what is left over its nearest whole number k is the same whether k
-- is +0 or -0 (`part_is`). And a t that has a size is not 0 (`not_zero`). Assumes nothing.
use Rattle.std.proofs.Common.{◌≡◌, ℕ, zero, suc, ◌+◌, ◌*◌, ◌^◌, ◌<◌, ◌≤◌, Bool, true, false, ◌&&◌, ◌||◌, T, pos, sym, refl, ◌∙◌, subst, inl, inr, true≢false, lt_irrefl, zero-lt-suc, zero-mul, mul-pos, eqb, ne_eqb, lit<, arith}
use mathlib.Core.Bool.{beq}
use lib.Ieee.{Float, nan, inf, fin, binary64, up, down, fits, lt, eq}
use lib.Ieee.Fits.{up_pos}
use Rattle.floats.specs.Operations.{◌⊕◌, ◌⊖◌}
use Rattle.floats.specs.OnBits.{absolute}
use Rattle.floats.specs.Narrowing.{nearest_whole}
use Rattle.floats.proofs.Laws.Cast.{whole_fits}
use Rattle.floats.proofs.Laws.SmallWhole.{plus_zero, small_of_size, NotMinusZero, left_over}
use Rattle.floats.proofs.Laws.Units.{exponent}
use Rattle.special.specs.Special as Special
use Rattle.fast_path.specs.Edges.{lower_edge, upper_edge}
use Rattle.fast_path.specs.Fast.{power_place, power_index}
pub use Rattle.fast_path.proofs.Index.{cast_defined, cast_read}
use Rattle.fast_path.proofs.Index.{exponent_small, distance_index, distance_below}
use Rattle.bounds.proofs.Values.{mag}
use Rattle.filter.specs.Plain.{part_of}

not_minus_zero : (t : Float) → eq t Special.zero ≡ false → NotMinusZero t
unfolding eq
not_minus_zero nan h = tt
not_minus_zero (inf s) h = tt
not_minus_zero (fin false m e) h = inl refl
not_minus_zero (fin true zero e) h = absurd (true≢false (sym (level (0 * up e * 1) (0 * 1 * down e) (omega arith) (omega arith)) ∙ h))
  where
    level : (a b : ℕ) → a ≡ 0 → b ≡ 0 → (eqb a b && (false || eqb a 0)) ≡ true
    level a b x y = rw (x, y) refl
not_minus_zero (fin true (suc m) e) h = inr (zero-lt-suc m)

module _ (t : Float) (f : T (fits binary64 t)) (above : T (lt lower_edge t)) (below : T (lt t upper_edge)) where
  pub whole_small : T (lt (absolute t) (fin false 1 (pos 51)))
  whole_small = small_of_size 1000 t (lit< tt) (exponent_small t above below)

  pub index_below : power_index (part_of t) < 33
  unfolding part_of
  index_below = distance_below t f above below

  pub index_place : 0x10010 ≤ power_place (part_of t)
  unfolding part_of
  index_place = (distance_index t f above below).0

pub part_is : (t : Float) → eq t Special.zero ≡ false → t ⊖ (nearest_whole t ⊕ plus_zero) ≡ part_of t
unfolding part_of
part_is t other = left_over t (nearest_whole t) (whole_fits t) (not_minus_zero t other)

pub ruleset reduction = (whole_small, index_below, index_place, part_is, cast_defined, cast_read)

-- ---- from the size
pub not_zero : (t : Float) → 0 < mag t → eq t Special.zero ≡ false
unfolding eq
not_zero nan h = refl
not_zero (inf s) h = refl
not_zero (fin s zero e) h = absurd (none s h)
  where
    none : (s : Bool) → 0 < mag (fin s zero e) → ⊥
    none false h = lt_irrefl 0 (subst (λ (n : ℕ). 0 < n + 0) (zero-mul (2 ^ exponent 1074 e)) h)
    none true h = lt_irrefl 0 (subst (λ (n : ℕ). 0 < 0 + n) (zero-mul (2 ^ exponent 1074 e)) h)
not_zero (fin s (suc m) e) h = apart (suc m * up e * 1) (0 * down e) (differ (suc m * up e) (down e) (mul-pos (zero-lt-suc m) (up_pos e)))
  where
    apart : (a b : ℕ) → (a ≡ b → ⊥) → (eqb a b && (beq s false || eqb a 0)) ≡ false
    apart a b h = rw (ne_eqb a b h) refl

    differ : (a b : ℕ) → 0 < a → a * 1 ≡ 0 * b → ⊥
    differ a b g h = omega arith
