-- The answers of the route `whole` are plain (`whole_plain`). Of two values with a clear sign, only 0 and infinity have a NaN for a product. All
-- factors of the power are on the same side of 1: from 1 up no product is 0, and up to 1 none is infinite. Assumes nothing.
use mathlib.Core.Path.{◌≡◌, refl, sym, subst}
use mathlib.Core.Logic.{◌⊎◌, inl, inr}
use mathlib.Core.Bool.{Bool, true, false, cond}
use Prim.Native.Nat.{ℕ, zero, suc, ◌*◌, ◌/◌, ◌%◌, ◌≤◌, ◌<◌}
use native.Mathlib.Nat.{mul-pos, mul-le-mul}
use native.Mathlib.Omega.{arith}
use borrow.Author.Tests.{ne_eqb}
use lib.Dec.{T, eqb, leb, lit<}
use lib.IntN.{ℤ}
use lib.Ieee.{Float, nan, inf, fin, binary64, up, down, add, mul, div, lt, le, fits, to_unsigned}
use lib.Ieee.Fits.{down_pos}
use lib.Ieee.Positive.{above, above_of_le}
use Rattle.floats.specs.Operations.{◌⊕◌, ◌⊗◌, ◌⊘◌}
use Rattle.floats.specs.Narrowing.{narrowed}
use Rattle.floats.specs.OnBits.{absolute}
use Rattle.floats.proofs.Laws.Compare.{at_most}
use Rattle.floats.proofs.Laws.Order.{le_either, clear, clear_both, round_clear, round_at_most, round_at_least}
use Rattle.floats.proofs.Laws.Sums.{add_turned}
use Rattle.special.specs.Special as Special
use Rattle.special.specs.Special.{one, minus_one}
use Rattle.whole.specs.Whole.{is_whole, is_tiny, tiny, squarings, whole_power, whole}
use Rattle.fast_path.proofs.OnePlus.{sum_clear}
use Rattle.whole.proofs.Tiny.{tiny_is_one}
use Rattle.answers.proofs.Signs.Plain.{Plain, plain_one, plain_narrowed, either}

-- ---- products of values from 1 up
-- such a value has a clear sign
from_one_clear : (x : Float) → T (le one x) → T (clear x)
from_one_clear x h = go x (above_of_le one x tt h)
  where
    go : (x : Float) → T (above x) → T (clear x)
    go nan a = absurd a
    go (inf s) a = a
    go (fin true m e) a = absurd a
    go (fin false m e) a = tt

-- and is not 0
from_one_some : (n : ℕ) (d : ℤ) → T (le one (fin false n d)) → n ≡ 0 → ⊥
unfolding le
from_one_some n d h e = no (down d) (up d) n (down_pos d) (at_most (1 * 1 * down d) (n * up d * 1) h) e
  where
    no : (D U n : ℕ) → 0 < D → 1 * 1 * D ≤ n * U * 1 → n ≡ 0 → ⊥
    no D U n p h e = omega (arith, subst (λ (k : ℕ). 1 * 1 * D ≤ k * U * 1) e h)

fraction_pos : (e d : ℤ) → 0 < down e * down d
fraction_pos e d = mul-pos (down_pos e) (down_pos d)

from_one_product : (x y : Float) → T (le one x) → T (le one y) → T (le one (x ⊗ y))
unfolding le mul fits
from_one_product x y h k =
    clear_both (λ (x y : Float). T (le one x) → T (le one y) → T (le one (x ⊗ y)))
    (λ h k. tt)
    (λ n d h k. infinite n (from_one_some n d k))
    (λ m e h k. infinite m (from_one_some m e h))
    (λ m e n d h k. round_at_least binary64 one (m * up e * (n * up d)) (down e * down d) 1 1 (fraction_pos e d) (lit< tt) tt (refl, refl)
    (together (down e) (m * up e) (down d) (n * up d) (at_most (1 * 1 * down e) (m * up e * 1) h) (at_most (1 * 1 * down d) (n * up d * 1) k)))
    x y (from_one_clear x h) (from_one_clear y k) h k
  where
    infinite : (n : ℕ) → (n ≡ 0 → ⊥) → T (le one (cond (eqb n 0) nan (inf false)))
    infinite n h = subst (λ (b : Bool). T (le one (cond b nan (inf false)))) (sym (ne_eqb n 0 h)) tt

    together : (D M E N : ℕ) → 1 * 1 * D ≤ M * 1 → 1 * 1 * E ≤ N * 1 → 1 * (D * E) ≤ M * N * 1
    together D M E N h k =
        let p : D * E ≤ M * N = mul-le-mul (omega (arith, h)) (omega (arith, k)) in
        omega (arith, p)

-- ---- products of values up to 1
abbrev ToOne : Float → Type 0
ToOne x = T (clear x) × T (le x one)

to_one_product : (x y : Float) → ToOne x → ToOne y → ToOne (x ⊗ y)
unfolding le mul fits
to_one_product x y h k =
    clear_both (λ (x y : Float). T (le x one) → T (le y one) → ToOne (x ⊗ y))
    (λ h k. absurd h)
    (λ n d h k. absurd h)
    (λ m e h k. absurd k)
    (λ m e n d h k. (
      round_clear binary64 (m * up e * (n * up d)) (down e * down d),
      round_at_most binary64 one (m * up e * (n * up d)) (down e * down d) 1 1 (fraction_pos e d) (lit< tt) tt (refl, refl)
          (together (down e) (m * up e) (down d) (n * up d) (at_most (m * up e * 1) (1 * 1 * down e) h) (at_most (n * up d * 1) (1 * 1 * down d) k)),
    ))
    x y h.0 k.0 h.1 k.1
  where
    together : (D M E N : ℕ) → M * 1 ≤ 1 * 1 * D → N * 1 ≤ 1 * 1 * E → M * N * 1 ≤ 1 * (D * E)
    together D M E N h k =
        let p : M * N ≤ D * E = mul-le-mul (omega (arith, h)) (omega (arith, k)) in
        omega (arith, p)

-- ---- the power
-- what holds of 1, of s and of any product of two values of which it holds, holds of the power
module _ (P : Float → Type 0) (at_one : P one) (product : (x y : Float) → P x → P y → P (x ⊗ y)) where
  of_squarings : (turns n : ℕ) (s acc : Float) → P s → P acc → P (squarings turns n s acc)
  unfolding squarings
  of_squarings zero n s acc p q = q
  of_squarings (suc turns) n s acc p q =
      let r = product s s p p in
      either P (leb n 1) acc _ q (of_squarings turns (n / 2) (s ⊗ s) _ r (either P (eqb (n / 2 % 2) 1) (acc ⊗ (s ⊗ s)) acc (product acc (s ⊗ s) q r) q))

  of_power : (s : Float) (n : ℕ) → P s → P (whole_power s n)
  unfolding whole_power
  of_power s n p = of_squarings 4 n s _ p (either P (eqb (n % 2) 1) s one p at_one)

-- a value with a clear sign is at least 1 or at most 1
power_clear : (s : Float) (n : ℕ) → T (clear s) → T (clear (whole_power s n))
power_clear s n c = go (le_either one s tt c)
  where
    go : T (le one s) ⊎ T (le s one) → T (clear (whole_power s n))
    go (inl h) = from_one_clear (whole_power s n) (of_power (λ (x : Float). T (le one x)) (unfold le in tt) from_one_product s n h)
    go (inr h) = (of_power ToOne (tt, (unfold le in tt)) to_one_product s n (c, h)).0

-- 1 over a value with a clear sign
reciprocal_clear : (x : Float) → T (clear x) → T (clear (one ⊘ x))
unfolding div
reciprocal_clear nan c = absurd c
reciprocal_clear (inf true) c = absurd c
reciprocal_clear (inf false) c = tt
reciprocal_clear (fin true n d) c = absurd c
reciprocal_clear (fin false n d) c = either (λ (x : Float). T (clear x)) (eqb n 0) (inf false) _ tt (round_clear binary64 (1 * 1 * down d) (n * up d * 1))

-- ---- x + 1 for an x above -1
one_more_clear : (x : Float) → T (lt minus_one x) → T (clear (x ⊕ one))
unfolding lt add
one_more_clear nan h = absurd h
one_more_clear (inf true) h = absurd h
one_more_clear (inf false) h = tt
one_more_clear (fin s m e) h = subst (λ (y : Float). T (clear y)) (add_turned binary64 one (fin s m e)) (sum_clear binary64 s m e h)

-- ---- the answers
pub whole_plain : (x y : Float) → T (lt minus_one x) → is_whole x y ≡ true → Plain (whole x y)
unfolding whole
whole_plain x y h e = go (is_tiny x) refl (whole_power (x ⊕ one) (to_unsigned 32 (absolute y))) (power_clear (x ⊕ one) (to_unsigned 32 (absolute y)) (one_more_clear x h))
  where
    go : (b : Bool) → is_tiny x ≡ b → (acc : Float) → T (clear acc) → Plain (cond b (tiny x y) (narrowed (cond (lt y Special.zero) (one ⊘ acc) acc)))
    go true k acc c = subst Plain (sym (tiny_is_one x y e k)) plain_one
    go false k acc c = plain_narrowed _ (either (λ (r : Float). T (clear r)) (lt y Special.zero) (one ⊘ acc) acc (reciprocal_clear acc c) c)
