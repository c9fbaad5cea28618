-- The exponent's field of a pattern, with or without the one more. Assumes nothing.
use Rattle.std.proofs.Common.{ℕ, ◌+◌, ◌*◌, ◌/◌, ◌%◌, ◌^◌, ◌<◌, ◌≤◌, Bool, true, false, cond, T, leb, arith, pos, ◌-ℤ◌, nat_abs, w64, to_z, of_z}
use Rattle.std.proofs.lemmas.Int.{ints}
use borrow.Author.Numbers.{in_float_signed}
use lib.Ieee.{binary64, in_float}
use Rattle.fast_path.specs.Scaling.{biased}

-- it is the field, or one more
pub biased_near : (v : ℕ) → (v / 2 ^ 52 ≤ biased v) × (biased v ≤ v / 2 ^ 52 + 1)
unfolding biased
biased_near v = go (v / 2 ^ 52) (leb 0x6a09e667f3bcd (v % 2 ^ 52))
  where
    go : (e : ℕ) (u : Bool) → (e ≤ e + cond u 1 0) × (e + cond u 1 0 ≤ e + 1)
    go e true = (omega arith, omega arith)
    go e false = (omega arith, omega arith)

-- where the sign is clear it is at most 2^11
pub biased_below : (v : ℕ) → v < 2 ^ 63 → biased v ≤ 2048
biased_below v h = go (biased v) v (biased_near v).1 h
  where
    go : (b v : ℕ) → b ≤ v / 4503599627370496 + 1 → v < 9223372036854775808 → b ≤ 2048
    go b v near h = omega (arith, near, h)

-- it can be taken away from a pattern that has 1023 more
pub biased_away : (v : ℕ) → biased v * 2 ^ 52 ≤ v + 1023 * 2 ^ 52
biased_away v = go (biased v) v (biased_near v).1
  where
    go : (b v : ℕ) → b ≤ v / 4503599627370496 + 1 → b * 4503599627370496 ≤ v + 4607182418800017408
    go b v near = omega (arith, near)

-- less 1023, as an i64, an f64 holds it
pub field_held : (b : ℕ) → b ≤ 2048 → T (in_float binary64 (to_z w64 (of_z w64 (to_z w64 b -ℤ pos 1023))))
field_held b h = in_float_signed binary64 (to_z w64 (of_z w64 (to_z w64 b -ℤ pos 1023))) (small b h)
  where
    small : (b : ℕ) → b ≤ 2048 → nat_abs (to_z w64 (of_z w64 (to_z w64 b -ℤ pos 1023))) ≤ 2 ^ 53
    small b h = omega (arith, ints)

-- what proves `exponent`
pub ruleset field = (biased_below, field_held)
