-- The end of the slow path: where the exponent's rest is a half at most and its second part 2^-31 at most, hi + lo is a number near 1, the power of two that is
-- added to the exponent's field, 1000 at most, reaches neither a NaN's pattern nor the sign, and the answer has a clear sign (`away_clear`). Assumes
-- nothing.
use mathlib.Core.Path.{◌≡◌, sym, ap, ◌∙◌, subst}
use mathlib.Core.Bool.{Bool, true, false, cond}
use Prim.Native.Nat.{ℕ, suc, ◌+◌, ◌-◌, ◌*◌, ◌%◌, ◌^◌, ◌≤◌, ◌<◌}
use native.Mathlib.Nat.{sub-le, add-mul-mod_self_right}
use native.Mathlib.Omega.{arith}
use lib.Dec.{T}
use lib.IntN.{ℤ, pos, negsuc}
use lib.Ieee.{Float, binary64, lt, to_bits}
use Rattle.std.proofs.lemmas.Bool.{cond_both}
use Rattle.floats.specs.Operations.{◌⊕◌, ◌⊖◌, f64}
use Rattle.floats.proofs.Laws.Magnitude.{below_infinity}
use Rattle.floats.proofs.Laws.Order.{clear}
use Rattle.double_double.specs.declared.DoubleDouble.{DoubleDouble}
use Rattle.double_double.specs.DoubleDouble.{from_exact_add}
use Rattle.special.specs.Special.{zero}
use Rattle.fast_path.specs.Scaling.{scaled}
use Rattle.fast_path.proofs.Lifted.{Within}
use Rattle.fast_path.specs.Fast.{power_index, HasPower}
use Rattle.slow_path.specs.Slow.{clamped_index, clamped_k, test_pattern, is_lost, one_towards, rounded_to_odd, scaled_to_f32, exp2_product, err_of, is_small, exp2_away}
use Rattle.slow_path.proofs.Clamped.{index_unclamped, clamped_k_within}
use Rattle.bounds.proofs.Scales.{S, Bound, at, fast_bounds}
use Rattle.bounds.proofs.Compared.{positive_at, positive_add, positive_bits}
use Rattle.answers.proofs.Signs.Plain.{plain_narrowed}
use Rattle.slow_path.proofs.ExpSize.{Product, product_near_one}
use Rattle.fast_path.proofs.PowerSlot.{Slot, power_slot}

-- ---- the pattern, with k added to the exponent's field
abbrev Middle : ℕ → Type 0
Middle v = (1002 * 2 ^ 52 ≤ v) × (v ≤ 1046 * 2 ^ 52)

scaled_below : (v : ℕ) (k : ℤ) → Middle v → Within 1000 k → scaled v k < 2047 * 2 ^ 52
unfolding scaled
scaled_below v (pos k) m h = go m.0 m.1 h
  where
    go : 1002 * 2 ^ 52 ≤ v → v ≤ 1046 * 2 ^ 52 → k ≤ 1000 → (v + k * 2 ^ 52) % 2 ^ 64 < 2047 * 2 ^ 52
    go l u h = omega arith
scaled_below v (negsuc k) m h = go m.0 m.1 h
  where
    gone : (v n : ℕ) → n ≤ 1000 → 1002 * 2 ^ 52 ≤ v → v + n * (2 ^ 64 - 2 ^ 52) ≡ v - n * 2 ^ 52 + n * 2 ^ 64
    gone v n h l = omega arith

    left : (v d : ℕ) → v ≤ 1046 * 2 ^ 52 → d ≤ v → d % 2 ^ 64 < 2047 * 2 ^ 52
    left v d u h = omega arith

    go : 1002 * 2 ^ 52 ≤ v → v ≤ 1046 * 2 ^ 52 → k < 1000 → (v + suc k * (2 ^ 64 - 2 ^ 52)) % 2 ^ 64 < 2047 * 2 ^ 52
    go l u h =
        subst (λ (n : ℕ). n < 2047 * 2 ^ 52) (sym (ap (λ (n : ℕ). n % 2 ^ 64) (gone v (suc k) h l) ∙ add-mul-mod_self_right (v - suc k * 2 ^ 52) (suc k) (2 ^ 64)))
        (left v (v - suc k * 2 ^ 52) u (sub-le v (suc k * 2 ^ 52)))

-- a pattern below the infinity's is that of a value whose sign is clear
below_clear : (n : ℕ) → n < 2047 * 2 ^ 52 → T (clear (f64 n))
below_clear n h = subst (λ (x : Float). T (clear x)) (sym (below_infinity binary64 n h).is) tt

-- ---- one towards lo
towards : (v : ℕ) (b : Bool) → 1003 * 2 ^ 52 ≤ v → v < 1045 * 2 ^ 52 → Middle ((v + cond b 1 (2 ^ 64 - 1)) % 2 ^ 64)
towards v true l u = (omega arith, omega arith)
towards v false l u = (omega arith, omega arith)

rounded_middle : (q : DoubleDouble) (w : ℕ) → 1003 * 2 ^ 52 ≤ to_bits binary64 (q.hi ⊕ q.lo) → to_bits binary64 (q.hi ⊕ q.lo) < 1045 * 2 ^ 52 → Middle (rounded_to_odd q w)
unfolding rounded_to_odd one_towards
rounded_middle q w l u =
    cond_both (is_lost q w (to_bits binary64 (q.hi ⊕ q.lo))) _ _ Middle (λ _. towards (to_bits binary64 (q.hi ⊕ q.lo)) (lt zero q.lo) l u) (λ _. (omega (arith, l), omega (arith, u)))

scaled_clear : (q : DoubleDouble) (err : Float) (k : ℤ) → Product q → Within 1000 k → T (clear (scaled_to_f32 q err k))
unfolding scaled_to_f32
scaled_clear q err k p h =
    let sum = positive_at (2 ^ 50) (2 ^ 55) (positive_add p.hi p.lo tt tt) tt tt in
    let bits = positive_bits sum tt tt in
    let n = rounded_to_odd q (test_pattern q err k) in
    (plain_narrowed (f64 (scaled n k)) (below_clear (scaled n k) (scaled_below n k (rounded_middle q (test_pattern q err k) bits.0 bits.1) h))).is_clear

-- ---- the index, and all of it
-- v.hi is 65/128 at most in size
abbrev shifted : DoubleDouble → Float → DoubleDouble
shifted t k = from_exact_add (t.hi ⊖ k) t.lo

module _ (t : DoubleDouble) (k : Float) (b : Bound S (2 ^ 52) (t.hi ⊖ k)) (c : Bound S (2 ^ 22) t.lo) where
  slot : Slot (shifted t k).hi
  slot = power_slot (shifted t k).hi (at (65 * 2 ^ 46) (fast_bounds b c tt).hi tt)

  -- so the index is inside the table without being cut
  pub index_inside : HasPower (from_exact_add (t.hi ⊖ k) t.lo).hi
  index_inside = (slot.from_0, slot.inside)

  pub away_clear : T (clear (exp2_away t k))
  unfolding exp2_away
  away_clear =
      let v = shifted t k in
      let i = clamped_index v.hi in
      scaled_clear (exp2_product v i) (err_of (is_small k i t.hi)) (clamped_k k)
      (subst (λ (n : ℕ). Product (exp2_product v n)) (index_unclamped v.hi slot.inside) (product_near_one v (power_index v.hi) slot.inside slot.rest (at (2 ^ 8) (fast_bounds b c tt).lo tt)))
      (clamped_k_within k)
