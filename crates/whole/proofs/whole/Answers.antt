-- `whole` meets its contract, operation by operation. Assumes nothing.
use Rattle.std.proofs.Common.{◌≡◌, ℕ, ◌-◌, ◌*◌, ◌/◌, ◌%◌, ◌^◌, ◌<◌, ◌≤◌, Bool, true, false, cond, not, ◌&&◌, T, leb, pos, ap, ◌∙◌, ap₂, arith}
use lib.Ieee.{Float, binary32, binary64, lt, to_unsigned, in_unsigned, fits, is_nan, to_bits, of_bits}
use lib.Ieee.Casts.{to_unsigned-lt}
use lib.Ieee.Bits.{to_bits-lt}
use lib.Ieee.Fits.{and_i, add-fits, fits_widens}
use denote.Floats.{passes}
use mir.Val.{bool_byte}
use Rattle.std.specs.Float.{float_with_sign}
use Rattle.floats.specs.Operations.{◌⊕◌, ◌⊘◌}
use Rattle.floats.specs.Narrowing.{narrowed}
use Rattle.floats.proofs.Laws.Magnitude.{sign_off}
use Rattle.floats.proofs.Laws.Sums.{add_number}
use Rattle.special.specs.Special as Special
use Rattle.whole.specs.Whole as spec
use Rattle.whole.specs.Whole.{whole_power}
use Rattle.whole.proofs.Exponent.{number_x, number_y, castable_exponent, tiny_of_pattern}
use Rattle.whole.proofs.Quotient.{power_fits, power_number, sign_of_pattern, quotient, quotient_number}
use Rattle.whole.proofs.Squaring.{turn_factor}
use Rattle.whole.proofs.Tiny.{exponent, power_way}
use Rattle.whole.proofs.whole.Goals as goal
use Rattle.whole.proofs.whole.Goals.{Start}

-- a test counts as 0 or 1, so that with it the exponent stays a u32, and the sign's bit too
no_more : (n : ℕ) (b : Bool) → n < 2 ^ 32 → n * (1 - bool_byte b) < 2 ^ 32
no_more n true h = omega arith
no_more n false h = omega (arith, h)

one_bit : (n : ℕ) → n < 2 ^ 32 → n / 2 ^ 31 ≤ 1
one_bit n h = omega (arith, h)

module _ (c : Start) where
  abbrev x : Float
  x = c.args.x

  abbrev y : Float
  y = c.args.y

  x_fits : T (fits binary32 x)
  x_fits = passes _ c.well_formed.0.1

  y_fits : T (fits binary32 y)
  y_fits = passes _ c.well_formed.1.0.1

  castable : (a : Float) → a ≡ float_with_sign false y → T (in_unsigned binary32 32 a)
  castable a e = rw (e ∙ sign_off y) (castable_exponent x y c.requires)

  widens : T (fits binary64 x && not (is_nan x))
  widens = and_i (fits binary64 x) (not (is_nan x)) (fits_widens _ x_fits) (number_x x y c.requires)

  -- 1 + x is a number
  sum_number : T (not (is_nan (x ⊕ Special.one)))
  sum_number = add_number binary64 x false 1 (pos 0) (number_x x y c.requires)

  -- the exponent, as the code has it
  counted : (a : Float) → a ≡ float_with_sign false y → to_unsigned 32 a * (1 - bool_byte (leb (to_bits binary32 x % 2 ^ 31) 0x3100_0000)) ≡ exponent x y
  counted a e = ap₂ (λ (a : Float) (b : Bool). to_unsigned 32 a * (1 - bool_byte b)) (e ∙ sign_off y) (tiny_of_pattern x x_fits)

-- what was multiplied out, and what is narrowed
module _
    (s : Start) (a acc : Float) (e : a ≡ float_with_sign false (y s))
    (found : acc ≡ whole_power (x s ⊕ Special.one) (to_unsigned 32 a * (1 - bool_byte (leb (to_bits binary32 (x s) % 2 ^ 31) 0x3100_0000)))) where
  abbrev below : ℕ
  below = to_bits binary32 (y s) / 2 ^ 31

  power_is : acc ≡ whole_power (x s ⊕ Special.one) (exponent (x s) (y s))
  power_is = found ∙ ap (whole_power (x s ⊕ Special.one)) (counted s a e)

  acc_fits : T (fits binary64 acc)
  acc_fits = rw power_is (power_fits (exponent (x s) (y s)) (x s ⊕ Special.one) (add-fits binary64 (x s) Special.one))

  acc_number : T (not (is_nan acc))
  acc_number = rw power_is (power_number (exponent (x s) (y s)) (x s ⊕ Special.one) (sum_number s))

  quotient_is : turn_factor (1 - below) acc ⊘ turn_factor below acc ≡ cond (lt (y s) Special.zero) (Special.one ⊘ acc) acc
  quotient_is = quotient acc (lt (y s) Special.zero) below acc_fits (sign_of_pattern (x s) (y s) (y_fits s) s.requires)

  narrowable : (p q : Float) → p ≡ turn_factor (1 - below) acc → q ≡ turn_factor below acc → T (not (is_nan (p ⊘ q)))
  narrowable p q d e = rw (ap₂ ◌⊘◌ d e ∙ quotient_is) (quotient_number acc (lt (y s) Special.zero) acc_number)

  answer : (p q : Float) → p ≡ turn_factor (1 - below) acc → q ≡ turn_factor below acc → narrowed (p ⊘ q) ≡ spec.whole (x s) (y s)
  answer p q d e = ap narrowed (ap₂ ◌⊘◌ d e ∙ quotient_is) ∙ power_way (x s) (y s) acc s.requires power_is

pub float_to_bits-tiny : goal.float_to_bits-tiny
unfolding of_bits
float_to_bits-tiny c = number_x c.args.x c.args.y c.requires

pub float_to_bits-ny : goal.float_to_bits-ny
unfolding of_bits
float_to_bits-ny c = number_y c.args.x c.args.y c.requires

pub float_to_int-n : goal.float_to_int-n
unfolding of_bits
float_to_int-n c = castable (goal.at.float_to_int-n c).Start _ c.abs-n.ensures.value

pub float_to_float-x : goal.float_to_float-x
unfolding of_bits
float_to_float-x c = widens (goal.at.float_to_float-x c).Start

pub overflow_mul-n : goal.overflow_mul-n
unfolding of_bits
overflow_mul-n c = record { fits = no_more _ _ (to_unsigned-lt 32 _) }

pub whole_power-acc-requires : goal.whole_power-acc-requires
unfolding of_bits
whole_power-acc-requires c = sum_number (goal.at.whole_power-acc-requires c).Start

pub overflow_sub-below : goal.overflow_sub-below
unfolding of_bits
overflow_sub-below c = one_bit _ (to_bits-lt binary32 c.args.y (passes _ c.well_formed.1.0.1))

pub turn_factor-requires : goal.turn_factor-requires
unfolding of_bits
turn_factor-requires c = acc_number (goal.at.turn_factor-requires c).Start _ _ c.abs-n.ensures.value c.whole_power-acc.ensures

pub turn_factor-requires-2 : goal.turn_factor-requires-2
unfolding of_bits
turn_factor-requires-2 c = acc_number (goal.at.turn_factor-requires-2 c).Start _ _ c.abs-n.ensures.value c.whole_power-acc.ensures

pub narrow_number-requires : goal.narrow_number-requires
unfolding of_bits
narrow_number-requires c = narrowable (goal.at.narrow_number-requires c).Start _ _ c.abs-n.ensures.value c.whole_power-acc.ensures _ _ c.turn_factor.ensures c.turn_factor-2.ensures

pub returns : goal.returns
unfolding of_bits
returns c = c.narrow_number.ensures ∙ answer (goal.at.returns c).Start _ _ c.abs-n.ensures.value c.whole_power-acc.ensures _ _ c.turn_factor.ensures c.turn_factor-2.ensures
