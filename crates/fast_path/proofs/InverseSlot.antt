-- The index of the inverse: t lies in the slot of its index i, from (i + 45)/64 to (i + 46)/64 and a little more, so that r × t for the inverse r of that index is
-- within 1/64 of 1 and a little more, by a test that is computed over the table; and so is what `dd_fmla` gives for r × t - 1 (`inverse_slot`). Assumes
-- nothing.
use Rattle.std.proofs.Common.{rules, ◌≡◌, ℕ, ◌+◌, ◌-◌, ◌*◌, ◌/◌, ◌^◌, ◌<◌, ◌≤◌, Bool, ◌&&◌, T, leb, sym, refl, ap, ◌∙◌, subst, le_trans, le_of_eq, le_of_lt, le_antisymm, mul-pos, arith, lit<}
use lib.Ieee.{Float, binary64, fits, to_bits, of_bits}
use Rattle.floats.specs.Operations.{◌⊕◌, ◌⊗◌, f64}
use Rattle.double_double.specs.DoubleDouble.{dd_fmla}
use Rattle.tables.specs.Tables.{entry, log2p1_compoundf_inv}
use Rattle.tables.proofs.Entries.{carried}
use Rattle.special.specs.Special.{minus_one}
use Rattle.fast_path.specs.Fast.{inverse_index, HasInverse}
use Rattle.bounds.proofs.Values.{plus, less}
use Rattle.bounds.proofs.Operation.{Small}
use Rattle.bounds.proofs.Scales.{S, S_pos, unit, unit_left, Bound, at, ok, product_k, tested, fmla_small}
use Rattle.bounds.proofs.Distances.{sum_off}
use Rattle.bounds.proofs.Compared.{Positive, between, tested_positive, positive_at, positive_bound, positive_sum, positive_mul, product_fits, place_in_64ths, quotient}

-- ---- t, from its index
abbrev two : Float
two = f64 0x4000000000000000

two_is : Positive (2 ^ 54) (2 ^ 54) two
unfolding of_bits fits
two_is = tested_positive (2 ^ 54) (2 ^ 54) two tt

-- with X for t + 2, s for the scale and k for i times it
slot_of : (X C p s k : ℕ) → C ≡ 2 ^ 54 * s → (k + 173 * s) * 2 ^ 47 ≤ X → X ≤ (k + 174 * s) * 2 ^ 47 → X ≤ C + p + 4 * s → C + p ≤ X + 4 * s
    → ((k + 45 * s) * 2 ^ 47 ≤ p + 4 * s) × (p ≤ (k + 46 * s) * 2 ^ 47 + 4 * s)
slot_of X C p s k c l m g h = (omega arith, omega arith)

-- ---- the inverse
-- r of index k is a number a, and times the slot's ends it is within 1/64 of 1 and 2^-29
abbrev lowest : ℕ
lowest = 63 * 2 ^ 47 - 2 ^ 24

abbrev highest : ℕ
highest = 65 * 2 ^ 47 + 2 ^ 24

abbrev number : ℕ → ℕ
number k = plus (entry log2p1_compoundf_inv k) / 2 ^ 1021

abbrev fits_slot : ℕ → Bool
fits_slot k =
    between (number k) (number k) (entry log2p1_compoundf_inv k) && leb (number k) (3 * 2 ^ 52) && ok (number k) && ok ((k + 46) * 2 ^ 47 + 4) && product_fits (number k) ((k + 45) * 2 ^ 47 - 4) lowest
    && leb (product_k (number k) ((k + 46) * 2 ^ 47 + 4)) highest

-- the inverse of index k, and its product with what lies in its slot
record FitsSlot (k : ℕ) (r : Float) : Type 0 where
  of_r : ℕ
  positive : Positive of_r of_r r
  small : T (leb of_r (3 * 2 ^ 52))
  r_ok : T (ok of_r)
  slot_ok : T (ok ((k + 46) * 2 ^ 47 + 4))
  low : T (product_fits of_r ((k + 45) * 2 ^ 47 - 4) lowest)
  high : T (leb (product_k of_r ((k + 46) * 2 ^ 47 + 4)) highest)

inverse_fits : (k : ℕ) → k < 46 → FitsSlot k (entry log2p1_compoundf_inv k)
unfolding entry log2p1_compoundf_inv of_bits fits
inverse_fits k h =
    let n = number k in
    let o = six (between n n (entry log2p1_compoundf_inv k)) (leb n (3 * 2 ^ 52)) (ok n) (ok ((k + 46) * 2 ^ 47 + 4)) (product_fits n ((k + 45) * 2 ^ 47 - 4) lowest) (leb (product_k n ((k + 46) * 2 ^ 47 + 4)) highest) (carried 46 fits_slot tt k h) in
    record { of_r = n; positive = tested_positive n n (entry log2p1_compoundf_inv k) o.0; small = o.1; r_ok = o.2; slot_ok = o.3; low = o.4; high = o.5 }
  where
    six : (a b c d e f : Bool) → T (a && b && c && d && e && f) → T a × T b × T c × T d × T e × T f
    six a b c d e f h = search rules

-- at most 3/2
pub inverse_size : (k : ℕ) → k < 46 → Bound S (3 * 2 ^ 52) (entry log2p1_compoundf_inv k)
inverse_size k h =
    let r = inverse_fits k h in
    at (3 * 2 ^ 52) (positive_bound r.positive) r.small

-- -1
pub minus_one_is : Bound S (2 ^ 53) minus_one × (plus minus_one ≡ 0) × (less minus_one ≡ 2 ^ 53 * S)
unfolding fits S
minus_one_is = (tested (2 ^ 53) minus_one tt, refl, refl)

-- the product less 1
off_one : (p n q m s : ℕ) → n ≡ 0 → q ≡ 0 → m ≡ 2 ^ 53 * s → lowest * s ≤ p → p ≤ highest * s → Small (p + q) (n + m) ((2 ^ 47 + 2 ^ 24) * s)
off_one p n q m s a b c l h = record { upper = omega arith; lower = omega arith }

module _ (t : Float) (b : Positive (2 ^ 52) (3 * 2 ^ 52) t) (has : HasInverse t) where
  w : Float
  w = t ⊕ two

  i : ℕ
  i = inverse_index t

  sum_is : Positive (2 ^ 54) (2 ^ 55 - 1) w
  unfolding w
  sum_is = positive_at (2 ^ 54) (2 ^ 55 - 1) (positive_sum b two_is tt tt) tt tt

  parts_pos : 0 < 2 ^ 47 * S
  parts_pos = mul-pos (lit< tt) S_pos

  place_is : i + 173 ≡ plus w / (2 ^ 47 * S)
  unfolding i w inverse_index
  place_is = go (to_bits binary64 (t ⊕ two) / 2 ^ 45) (plus (t ⊕ two) / (2 ^ 47 * S)) (place_in_64ths sum_is) has.0
    where
      go : (n q : ℕ) → n ≡ 1023 * 2 ^ 7 + q → 0x2002d ≤ n → n - 0x2002d + 173 ≡ q
      go n q e h = omega arith

  off : Small (plus w + (less t + less two)) (less w + (plus t + plus two)) (4 * S)
  unfolding w
  off = sum_off (positive_bound b) (positive_bound two_is) tt

  in_slot : Positive ((i + 45) * 2 ^ 47 - 4) ((i + 46) * 2 ^ 47 + 4) t
  in_slot =
      let q = quotient (plus w) (2 ^ 47 * S) parts_pos in
      let r = slot_of (plus w) (plus two) (plus t) S (i * S) (le_antisymm two_is.most two_is.least)
      (le_trans (le_of_eq (low_end i S)) (subst (λ (n : ℕ). n * (2 ^ 47 * S) ≤ plus w) (sym place_is) q.0))
      (le_trans (le_of_lt (subst (λ (n : ℕ). plus w < (n + 1) * (2 ^ 47 * S)) (sym place_is) q.1)) (le_of_eq (high_end i S)))
      (over (plus w) (less w) (plus t) (less t) (plus two) (less two) S b.clear two_is.clear sum_is.clear off.upper)
      (under (plus w) (less w) (plus t) (less t) (plus two) (less two) S b.clear two_is.clear sum_is.clear off.lower) in
      record { number = b.number; clear = b.clear; least = low i S (plus t) r.0; most = le_trans r.1 (le_of_eq (high i S)) }
    where
      low_end : (k s : ℕ) → (k * s + 173 * s) * 2 ^ 47 ≡ (k + 173) * (2 ^ 47 * s)
      low_end k s = omega arith

      high_end : (k s : ℕ) → (k + 173 + 1) * (2 ^ 47 * s) ≡ (k * s + 174 * s) * 2 ^ 47
      high_end k s = omega arith

      over : (X n p m C l s : ℕ) → m ≡ 0 → l ≡ 0 → n ≡ 0 → X + (m + l) ≤ n + (p + C) + 4 * s → X ≤ C + p + 4 * s
      over X n p m C l s e f g h = omega arith

      under : (X n p m C l s : ℕ) → m ≡ 0 → l ≡ 0 → n ≡ 0 → n + (p + C) ≤ X + (m + l) + 4 * s → C + p ≤ X + 4 * s
      under X n p m C l s e f g h = omega arith

      low : (k s p : ℕ) → (k * s + 45 * s) * 2 ^ 47 ≤ p + 4 * s → ((k + 45) * 2 ^ 47 - 4) * s ≤ p
      low k s p h = go ((k + 45) * 2 ^ 47 - 4) s p (ap (λ (n : ℕ). n * s) (back (k + 45) (up k)) ∙ spread k s) h
        where
          up : (k : ℕ) → 1 ≤ k + 45
          up k = omega arith

          back : (n : ℕ) → 1 ≤ n → n * 2 ^ 47 - 4 + 4 ≡ n * 2 ^ 47
          back n h = omega arith

          spread : (k s : ℕ) → (k + 45) * 2 ^ 47 * s ≡ (k * s + 45 * s) * 2 ^ 47
          spread k s = omega arith

          go : (a s p : ℕ) {e : ℕ} → (a + 4) * s ≡ e → e ≤ p + 4 * s → a * s ≤ p
          go a s p {e} f h = omega (arith, f, h)

      high : (k s : ℕ) → (k * s + 46 * s) * 2 ^ 47 + 4 * s ≡ ((k + 46) * 2 ^ 47 + 4) * s
      high k s = omega arith

  -- r × t
  pub product_slot : Positive (63 * 2 ^ 47 - 2 ^ 24) (65 * 2 ^ 47 + 2 ^ 24) (entry log2p1_compoundf_inv (inverse_index t) ⊗ t)
  unfolding i
  product_slot =
      let r = inverse_fits i has.1 in
      positive_at lowest highest (positive_mul lowest r.positive in_slot r.r_ok r.slot_ok r.low) tt r.high

  -- r × t - 1
  pub inverse_slot : Bound S (2 ^ 47 + 2 ^ 33) (dd_fmla (entry log2p1_compoundf_inv (inverse_index t)) t minus_one)
  unfolding i
  inverse_slot =
      let m = product_slot in
      let c = minus_one_is in
      at (2 ^ 47 + 2 ^ 33)
      (fmla_small (2 ^ 47 + 2 ^ 24) (unit_left unit) (inverse_size i has.1) (positive_bound b) c.0
      (off_one (plus (entry log2p1_compoundf_inv i ⊗ t)) (less (entry log2p1_compoundf_inv i ⊗ t)) (plus minus_one) (less minus_one) S m.clear c.1 c.2 m.least m.most) tt tt tt) tt
