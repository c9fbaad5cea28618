-- The claims at pairs that a reader can check by hand, all computed: x = -1 gives no NaN, an underflow gives +0, the bound on whole exponents holds neither of
-- an answer that is always 1 nor of squarings in f32, and 2^-54 in it is too small. Pairs at which its two ends are one f32 are in specs/Witnesses.antt. Assumes nothing.
use mathlib.Core.Path.{◌≡◌, refl}
use mathlib.Core.Bool.{Bool, false}
use lib.Dec.{lit<}
use lib.Ieee.{Float, binary32, of_bits, to_bits, to_unsigned, round, add, mul, div, lt, le, eq, is_nan}
use Rattle.floats.specs.Narrowing.{narrowed, nearest_f32}
use Rattle.floats.specs.OnBits.{absolute, is_integer}
use Rattle.special.specs.Special.{one, is_zero, is_special, is_rule, from_minus_one_to_zero, special_table, first_that_fits, special}
use Rattle.whole.specs.Whole as Whole
use Rattle.whole.specs.Whole.{is_whole, is_tiny, squarings, whole_power}
use Rattle.compound.specs.Route.{compound}
use Rattle.answers.specs.Claims.{answer, NanExactly, SignClear, lower_end, upper_end}
use Rattle.answers.specs.Witnesses.{f32}
use Rattle.answers.specs.Exact as Exact
use Rattle.answers.specs.Exact.{Fraction, exact_base, exact}

-- x = -1 is no NaN: 0^1 is +0
pub at_minus_one : NanExactly (f32 0xbf800000) (f32 0x3f800000)
unfolding NanExactly of_bits lt le eq is_nan is_zero is_special is_rule from_minus_one_to_zero special_table first_that_fits special compound
at_minus_one = refl

-- (1 + 2^63)^-16 is below every f32 but 0: the answer is +0
pub underflow : SignClear (f32 0x5f000000) (f32 0xc1800000)
unfolding SignClear of_bits to_bits to_unsigned add mul div lt le eq is_nan narrowed absolute is_integer is_zero is_special is_rule is_whole is_tiny squarings whole_power Whole.whole compound
underflow number = lit< tt

-- whether r is at least the nearest f32 to E × (1 - 2^-47)
abbrev at_least : Fraction → Float → Bool
at_least E r = le (lower_end 47 E) r

-- (1 + 1/2)^2 is not 1
pub not_always_one : at_least (exact (f32 0x3f000000) (f32 0x40000000)) one ≡ false
unfolding exact Exact.raised exact_base of_bits nearest_f32 round le
not_always_one = refl

-- (2 + 2^-23)^2: in f32, 1 + x is 2 and its square 4, and the bound asks for the f32 after 4
abbrev square : Float → Float
square x = mul binary32 (add binary32 one x) (add binary32 one x)

pub not_in_f32 : at_least (exact (f32 0x3f800001) (f32 0x40000000)) (square (f32 0x3f800001)) ≡ false
unfolding exact Exact.raised exact_base of_bits nearest_f32 round le add mul
not_in_f32 = refl

-- ---- 2^-54 is not only past the proof, but false: this answer is above the nearest f32 to E × (1 + 2^-54)
pub answer_of_8 : answer (f32 0x3c55563d) (f32 0x41000000) ≡ f32 0x3f8df512
unfolding of_bits to_unsigned add mul div lt le eq is_nan narrowed absolute is_integer is_zero is_special is_rule is_whole is_tiny squarings whole_power Whole.whole compound
answer_of_8 = refl

pub end_of_54 : upper_end 54 (exact (f32 0x3c55563d) (f32 0x41000000)) ≡ f32 0x3f8df511
unfolding exact Exact.raised exact_base of_bits nearest_f32 round
end_of_54 = refl
