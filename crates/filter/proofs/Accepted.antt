-- Where the plain pattern is clear of every midpoint of two f32s, the fast path's rounding test passes, and its value narrows to what the plain pattern rounds to
-- (`accepted`). Assumes nothing.
use Rattle.std.proofs.Common.{◌≡◌, ℕ, ◌+◌, ◌-◌, ◌*◌, ◌/◌, ◌%◌, ◌^◌, ◌<◌, ◌≤◌, not, T, ℤ, pos, negsuc, Some, sym, ap, ◌∙◌, arith, lit<, lit≤}
use lib.Ieee.{binary32, nan_bits, of_bits}
use lib.Ieee.Bits.{of_bits-to_bits}
use Rattle.floats.specs.Operations.{f64}
use Rattle.floats.specs.Narrowing.{narrowed}
use Rattle.floats.proofs.Laws.Nan.{number_of_below}
use Rattle.floats.proofs.Laws.Narrow.{normal_magnitude, narrowed_fits}
use Rattle.fast_path.specs.Scaling.{scaled}
use Rattle.fast_path.specs.Fast.{rounding_test}
use Rattle.fast_path.proofs.Lifted.{lifted, lifted_sum, Within}
use Rattle.fast_path.proofs.Midpoints.{clear_of_midpoints}
use Rattle.filter.specs.Plain.{fast_margin}
use Rattle.filter.proofs.Power.{Unscaled}

-- ---- two patterns w and w', where w' is further from every midpoint of two f32s than the two are from each other: both are rounded to one f32
pub clear_narrowed : (margin w w' : ℕ) → 897 * 2 ^ 52 ≤ w → w < 1148 * 2 ^ 52 → w ≤ w' + margin → w' ≤ w + margin → 2 * margin < (w' + (0x10000000 + margin)) % 0x20000000
    → narrowed (f64 w) ≡ of_bits binary32 ((w' + 0x10000000) / 0x20000000 - 0x1c0000000)
clear_narrowed margin w w' l m g h t =
    sym (of_bits-to_bits binary32 (narrowed (f64 w)) (narrowed_fits (f64 w)))
    ∙ ap (of_bits binary32) (normal_magnitude w (omega arith) (omega arith) ∙ (omega arith))

-- the fast path's pattern b, scaled, passes the rounding test, and its value narrows to the f32 that the plain pattern b', scaled, is nearest to
pub record Accepted (b b' : ℕ) (k : ℤ) : Type 0 where
  pub passes : rounding_test (f64 (scaled b k)) (f64 (scaled 0x3d61d00000000000 k)) ≡ Some (f64 (scaled b k))
  pub narrows : narrowed (f64 (scaled b k)) ≡ of_bits binary32 ((scaled b' k + 0x10000000) / 0x20000000 - 0x1c0000000)

-- ---- a pattern from 2^-41 to 2, scaled by 2^k for a k from -124 to 124: nothing wraps
pub within_more : (k : ℤ) → Within 124 k → Within 1000 k
within_more (pos n) h = omega (arith, h)
within_more (negsuc n) h = omega (arith, h)

-- k + 4096 is from 3972 to 4220
pub lifted_low : (k : ℤ) → Within 124 k → 3972 ≤ lifted k
lifted_low (pos n) h = omega (arith, h)
lifted_low (negsuc n) h = omega (arith, h)

pub lifted_high : (k : ℤ) → Within 124 k → lifted k ≤ 4220
lifted_high (pos n) h = omega (arith, h)
lifted_high (negsuc n) h = omega (arith, h)

pub scaled_is : (b : ℕ) (k : ℤ) → Within 124 k → 982 * 2 ^ 52 ≤ b → b < 1024 * 2 ^ 52 → scaled b k + 2 ^ 64 ≡ b + lifted k * 2 ^ 52
scaled_is b k w g h = ap (λ (n : ℕ). n + 2 ^ 64) (sym (lifted_sum b k (within_more k w))) ∙ (omega (arith, lifted_low k w, lifted_high k w))

-- ---- the two patterns w and w', and e of the error
record Patterns (w w' e : ℕ) : Type 0 where
  low : 898 * 2 ^ 52 ≤ w
  high : w < 1148 * 2 ^ 52
  beside : e / 2 ^ 52 + 40 ≤ w / 2 ^ 52
  over : w ≤ w' + 2 ^ 20
  under : w' ≤ w + 2 ^ 20

patterns : (b b' n w w' e : ℕ) → 1022 * 2 ^ 52 ≤ b → b < 1024 * 2 ^ 52 → b ≤ b' + 2 ^ 20 → b' ≤ b + 2 ^ 20 → 3972 ≤ n → n ≤ 4220
    → w + 2 ^ 64 ≡ b + n * 2 ^ 52 → w' + 2 ^ 64 ≡ b' + n * 2 ^ 52 → e + 2 ^ 64 ≡ 0x3d61d00000000000 + n * 2 ^ 52 → Patterns w w' e
patterns b b' n w w' e p q g h l m x y z = record {
  low = omega arith;
  high = omega arith;
  beside = omega arith;
  over = omega arith;
  under = omega arith;
}

-- where w' is more than 2^20 + 2^15 from every midpoint, w is more than 2^15 from each, and no midpoint is between them
module _ (w w' e : ℕ) (p : Patterns w w' e) (t : 2 * fast_margin < (w' + (0x10000000 + fast_margin)) % 0x20000000) where
  clear : 0x6000 < (w + 0x10002000) % 0x20000000
  clear = omega arith

  passed : Some (f64 w) ≡ rounding_test (f64 w) (f64 e)
  passed = clear_of_midpoints w e (omega arith) (omega arith) p.beside clear

  narrowed_is : narrowed (f64 w) ≡ of_bits binary32 ((w' + 0x10000000) / 0x20000000 - 0x1c0000000)
  narrowed_is = clear_narrowed fast_margin w w' (omega arith) p.high (omega arith) (omega arith) t

-- ---- the two together, for the patterns before they are scaled
pub accepted : (b b' : ℕ) (k : ℤ) → Unscaled b → Unscaled b' → b ≤ b' + 2 ^ 20 → b' ≤ b + 2 ^ 20 → Within 124 k → 2 * fast_margin < (scaled b' k + (0x10000000 + fast_margin)) % 0x20000000 → Accepted b b' k
accepted b b' k u v g h w t = record {
  passes = sym (passed (scaled b k) (scaled b' k) (scaled 0x3d61d00000000000 k) p t);
  narrows = narrowed_is (scaled b k) (scaled b' k) (scaled 0x3d61d00000000000 k) p t;
}
  where
    large : (b : ℕ) → Unscaled b → 982 * 2 ^ 52 ≤ b
    large b u = omega (arith, u.low)

    p : Patterns (scaled b k) (scaled b' k) (scaled 0x3d61d00000000000 k)
    p =
        patterns b b' (lifted k) (scaled b k) (scaled b' k) (scaled 0x3d61d00000000000 k) u.low u.high g h (lifted_low k w) (lifted_high k w)
        (scaled_is b k w (large b u) u.high) (scaled_is b' k w (large b' v) v.high) (scaled_is 0x3d61d00000000000 k w (lit≤ tt) (lit< tt))

-- ---- an f32 pattern up to infinity's is that of a number
pub left_number : (n : ℕ) → n ≤ 0x7f800000 → T (not (nan_bits binary32 n))
left_number n h = number_of_below binary32 n (omega (arith, h))
