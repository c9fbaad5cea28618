-- Document 01, "Whole exponents": the route `whole`.
use Rattle.std.specs.Prelude.{ℕ, zero, suc, ◌/◌, ◌%◌, Bool, false, cond, ◌&&◌, pos, negsuc, ◌==◌, nat_le, Float}
use Rattle.std.specs.Float.{fin, binary32}
use Rattle.std.specs.Float.Ieee.{add, mul, lt, le, to_unsigned}
use Rattle.floats.specs.Operations.{◌⊕◌, ◌⊗◌, ◌⊘◌}
use Rattle.floats.specs.Narrowing.{narrowed}
use Rattle.floats.specs.OnBits.{absolute, is_integer}
use Rattle.special.specs.Special as Special

-- "y whole with |y| <= 16 (pattern shifted left once at most 83000000), |x| below 2^64". The words in brackets are a
-- test of the same on the pattern (`whole_of_patterns` in proofs/Exponent.antt). `is_integer` is false at 0 and true
-- at the infinities and a NaN; a y that is one of these has taken the route `rule` before.
unfoldable pub is_whole : Float → Float → Bool
is_whole x y = is_integer y && le (absolute y) (fin false 1 (pos 4)) && lt (absolute x) (fin false 1 (pos 64))

-- "For |x| <= 2^-29"
unfoldable pub is_tiny : Float → Bool
is_tiny x = le (absolute x) (fin false 1 (negsuc 28))

-- "the answer is 1.0 + y×x in f32". That it is always 1 is `tiny_is_one` in proofs/Tiny.antt.
unfoldable pub tiny : Float → Float → Float
tiny x y = add binary32 Special.one (mul binary32 y x)

-- "squared along the bits of |y|": s is squared while a bit of n is left above the lowest, and joins acc where that
-- bit is 1. At most `turns` squarings, and 4 are enough for n up to 16 (`enough` in proofs/Squaring.antt).
unfoldable pub squarings : ℕ → ℕ → Float → Float → Float
squarings zero n s acc = acc
squarings (suc turns) n s acc =
    cond (nat_le n 1) acc (squarings turns (n / 2) (s ⊗ s) (cond (n / 2 % 2 == 1) (acc ⊗ (s ⊗ s)) acc))

-- s to the n-th power, for n up to 16
unfoldable pub whole_power : Float → ℕ → Float
whole_power s n = squarings 4 n s (cond (n % 2 == 1) s Special.one)

-- "Otherwise s is x+1 in f64, squared along the bits of |y|, with 1/acc for negative y, then narrowed"
unfoldable pub whole : Float → Float → Float
whole x y =
    cond (is_tiny x) (tiny x y)
    (let acc = whole_power (x ⊕ Special.one) (to_unsigned 32 (absolute y)) in
    narrowed (cond (lt y Special.zero) (Special.one ⊘ acc) acc))
