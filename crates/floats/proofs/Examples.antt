-- What the definitions say at a few values where it matters, computed: a reader can check each by hand. Assumes nothing.
use Rattle.std.proofs.Common.{ℕ, Bool, not, ◌&&◌, T, eqb}
use lib.Ieee.{binary32, binary64, round, to_bits, of_bits}
use Rattle.floats.specs.Narrowing.{narrowed, nearest_whole}
use Rattle.floats.specs.OnBits.{is_integer}

-- the f64 of the pattern n narrows to the f32 of the pattern r
abbrev pub narrows : ℕ → ℕ → Bool
narrows n r = eqb (to_bits binary32 (narrowed (of_bits binary64 n))) r

-- the f64 of the pattern n has the f64 of the pattern r for its nearest whole value
abbrev pub wholes : ℕ → ℕ → Bool
wholes n r = eqb (to_bits binary64 (nearest_whole (of_bits binary64 n))) r

-- The largest f32 is the nearest below 2^128 - 2^103, and from there up it is infinity; half of the smallest subnormal is a tie and goes to
-- zero, and what is next above it does not; just under the smallest normal f32 goes up to it; 1 + 2^-24 and 1 + 3 * 2^-24 are ties, one each way; -0 keeps its sign; a NaN stays one.
pub narrowing_examples : T (narrows 0x47efffffefffffff 0x7f7fffff
    && narrows 0x47effffff0000000 0x7f800000
    && narrows 0xc7effffff0000000 0xff800000
    && narrows 0x3690000000000000 0x00000000
    && narrows 0x3690000000000001 0x00000001
    && narrows 0x380fffffffffffff 0x00800000
    && narrows 0x3ff0000010000000 0x3f800000
    && narrows 0x3ff0000030000000 0x3f800002
    && narrows 0x8000000000000000 0x80000000
    && narrows 0x7ff4000000000000 0x7fc00000)
unfolding narrowed round of_bits to_bits
narrowing_examples = tt

-- 0.5, 1.5 and 2.5 go to 0, 2 and 2; -0.5 goes to -0; 2^52 - 0.5 goes to 2^52; 2^53 + 2 and the infinity stay.
pub whole_examples : T (wholes 0x3fe0000000000000 0x0000000000000000
    && wholes 0x3ff8000000000000 0x4000000000000000
    && wholes 0x4004000000000000 0x4000000000000000
    && wholes 0xbfe0000000000000 0x8000000000000000
    && wholes 0x432fffffffffffff 0x4330000000000000
    && wholes 0x4340000000000001 0x4340000000000001
    && wholes 0x7ff0000000000000 0x7ff0000000000000)
unfolding nearest_whole round of_bits to_bits
whole_examples = tt

-- 16, -3, an infinity and a NaN are whole; a zero, 0.5 and the smallest subnormal are not.
pub integer_examples : T (is_integer (of_bits binary32 0x41800000)
    && is_integer (of_bits binary32 0xc0400000)
    && is_integer (of_bits binary32 0x7f800000)
    && is_integer (of_bits binary32 0x7fc00000)
    && not (is_integer (of_bits binary32 0x00000000))
    && not (is_integer (of_bits binary32 0x3f000000))
    && not (is_integer (of_bits binary32 0x00000001)))
unfolding is_integer of_bits
integer_examples = tt
