-- 1 + x, as the accurate logarithm has it, and the scale that it multiplies it by: the pattern of 1 + x is one that the table of the scales covers, and
-- the product is 1 + x with its power of two taken out. Assumes nothing.
use Rattle.std.proofs.Common.{◌≡◌, ℕ, suc, ◌+◌, ◌-◌, ◌*◌, ◌/◌, ◌%◌, ◌^◌, ◌<◌, ◌≤◌, Bool, true, false, cond, T, negsuc, neg_ℤ, sym, ap, ◌∙◌, subst, lt_trans, arith, lit<, lit≤}
use lib.Ieee.{Float, fin, binary64, minus, add, mul, le, fits, to_bits, of_bits}
use lib.Ieee.Bits.{of_bits-to_bits}
use lib.Ieee.Fits.{add-fits}
use Rattle.floats.specs.Narrowing.{narrowed}
use Rattle.floats.specs.OnBits.{absolute}
use Rattle.floats.proofs.Laws.Powers.{mul_power}
use Rattle.floats.proofs.Laws.Sums.{add_turned}
use Rattle.double_double.specs.DoubleDouble.{from_exact_add}
use Rattle.tables.specs.Tables.{entry, log2p1_scale}
use Rattle.tables.proofs.Entries.{scale_rule}
use Rattle.special.specs.Special.{one}
use Rattle.special.specs.Operands.{IsBase}
use Rattle.fast_path.specs.Scaling.{scaled, biased, exponent_of}
use Rattle.fast_path.specs.Fast.{HasInverse}
use Rattle.slow_path.specs.Slow.{one_plus}
use Rattle.fast_path.proofs.Field.{biased_near}
use Rattle.fast_path.proofs.Index.{reduced_pattern, reduced_index}
use Rattle.fast_path.proofs.OnePlus.{InScale, sum_bits}

-- ---- the pattern of 1 + x
-- the three forms of the high part
high_part : (P : Float → Type 0) (x : Float) → P (add binary64 one x) → P one → P (add binary64 x one) → P (one_plus x).hi
unfolding one_plus from_exact_add
high_part P x a b c = go (le x one) (le (fin false 1 (negsuc 52)) (absolute (narrowed x)))
  where
    go : (u v : Bool) → P (cond u (cond v (from_exact_add one x) (record { lo = x; hi = one })) (from_exact_add x one)).hi
    go true true = a
    go true false = b
    go false v = c

-- so its high part is from 2^-24 to 2^128 - 2^104
pub one_plus_bits : (x : Float) → IsBase x → InScale (to_bits binary64 (one_plus x).hi)
unfolding to_bits
one_plus_bits x a =
    let b = sum_bits x a.x_fits a.x_finite a.x_above in
    high_part (λ (y : Float). InScale (to_bits binary64 y)) x b (lit≤ tt, lit< tt) (subst (λ (y : Float). InScale (to_bits binary64 y)) (add_turned binary64 one x) b)

-- and its field from 999 to 1151
pub biased_range : (v : ℕ) → InScale v → (999 ≤ biased v) × (biased v ≤ 1151)
biased_range v r = go (biased v) (biased_near v).0 (biased_near v).1 r.0 r.1
  where
    go : (b : ℕ) → v / 2 ^ 52 ≤ b → b ≤ v / 2 ^ 52 + 1 → 999 * 2 ^ 52 ≤ v → v < 1151 * 2 ^ 52 → (999 ≤ b) × (b ≤ 1151)
    go b l u lo hi = (omega arith, omega arith)

-- ---- the scale that goes with the pattern
-- the fields of v and of v with b taken out: x + 1 and y + 1, over the digits t
record Fields (v b : ℕ) : Type 0 where
  x : ℕ
  y : ℕ
  t : ℕ
  whole : suc x * 2 ^ 52 + t ≡ v
  reduced : suc y * 2 ^ 52 + t ≡ v + 1023 * 2 ^ 52 - b * 2 ^ 52
  x_below : suc x < 2047
  y_below : suc y < 2047
  t_below : t < 2 ^ 52
  inside : b + 29 - 1023 < 158
  exponents : x + 29 ≡ y + (b + 29 - 1023)

fields : (v b : ℕ) → InScale v → v / 2 ^ 52 ≤ b → b ≤ v / 2 ^ 52 + 1 → Fields v b
fields v b r g h = go r.0 r.1
  where
    go : 999 * 2 ^ 52 ≤ v → v < 1151 * 2 ^ 52 → Fields v b
    go lo hi = record {
      x = v / 2 ^ 52 - 1;
      y = v / 2 ^ 52 + 1022 - b;
      t = v % 2 ^ 52;
      whole = omega arith;
      reduced = omega arith;
      x_below = omega arith;
      y_below = omega arith;
      t_below = omega arith;
      inside = omega arith;
      exponents = omega arith;
    }

-- the index is inside the table, and the product with the entry is the value of the pattern with its power of two taken out
pub times_scale : (v : ℕ) → 999 * 2 ^ 52 ≤ v → v < 1151 * 2 ^ 52
    → (biased v + 29 - 1023 < 158) × (mul binary64 (of_bits binary64 v) (entry log2p1_scale (biased v + 29 - 1023)) ≡ of_bits binary64 (scaled v (neg_ℤ (exponent_of v))))
times_scale v lo hi =
    let near = biased_near v in
    let f = fields v (biased v) (lo, hi) near.0 near.1 in
    let i = biased v + 29 - 1023 in (
      f.inside,
      ap (λ (s : Float). mul binary64 (of_bits binary64 v) s) (scale_rule i f.inside)
          ∙ ap (λ (n : ℕ). mul binary64 (of_bits binary64 n) (fin false 1 (minus 29 i))) (sym f.whole)
          ∙ mul_power binary64 f.x f.y 29 i f.t f.x_below f.y_below f.t_below f.exponents
          ∙ ap (of_bits binary64) (f.reduced ∙ sym (reduced_pattern v (lt_trans hi (lit< tt))).0),
    )

-- so the entry is inside its table, and what is left has an inverse
pub accurate_index : (x : Float) → IsBase x
    → let v = to_bits binary64 (one_plus x).hi in
    let h = mul binary64 (one_plus x).hi (entry log2p1_scale (biased v + 29 - 1023)) in
    (biased v + 29 - 1023 < 158) × HasInverse h
accurate_index x a =
    let v = to_bits binary64 (one_plus x).hi in
    let b = one_plus_bits x a in
    let s = times_scale v b.0 b.1 in
    let fit : T (fits binary64 (one_plus x).hi) = high_part (λ (y : Float). T (fits binary64 y)) x (add-fits binary64 one x) (unfold fits in tt) (add-fits binary64 x one) in
    let e : of_bits binary64 (scaled v (neg_ℤ (exponent_of v))) ≡ mul binary64 (one_plus x).hi (entry log2p1_scale (biased v + 29 - 1023)) =
    sym s.1 ∙ ap (λ (y : Float). mul binary64 y (entry log2p1_scale (biased v + 29 - 1023))) (of_bits-to_bits binary64 (one_plus x).hi fit) in
    (s.0, subst HasInverse e (reduced_index v (lt_trans b.1 (lit< tt))))
