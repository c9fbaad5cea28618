-- `round_ties_even` meets its contract: from 2 ^ 52 up x is whole, and below it the sum with 2 ^ 52 rounds and gets the sign of x. Assumes nothing.
use Rattle.std.proofs.Common.{◌≡◌, ℕ, ◌+◌, ◌-◌, ◌*◌, ◌%◌, ◌^◌, ◌<◌, Bool, not, T, sym, ap, ◌∙◌, subst, arith}
use denote.Floats.{passes}
use lib.Ieee.{Float, binary64, fits, is_nan, nan_bits, to_bits, of_bits}
use Rattle.std.proofs.lemmas.Float.{T_from_true}
use lib.Ieee.Bits.{of_bits-to_bits, to_bits-lt, nan_bits_is}
use Rattle.floats.specs.Narrowing.{nearest_whole}
use Rattle.floats.proofs.Laws.Nan.{only_nan, number_of_below}
use Rattle.floats.proofs.Laws.Whole.{high_whole, low_number, number_whole, by_adding, whole_number, whole_pattern}
use Rattle.floats.proofs.Laws.Cast.{whole_fits}
use Rattle.floats.proofs.rounding.round_ties_even.Goals as goal
use Rattle.floats.proofs.rounding.round_ties_even.Goals.{Start}

held : (c : Start) → T (fits binary64 c.args.x)
held c = passes (fits binary64 c.args.x) c.well_formed.0.1

pub returns-then-is_nan : goal.returns-then-is_nan
unfolding nearest_whole
returns-then-is_nan c = let e = only_nan c.args.x (T_from_true _ (sym c.is_nan.ensures.value ∙ c.if-is_nan.true)) in e ∙ ap nearest_whole (sym e)

pub returns-then-m-ge4841369599423283200 : goal.returns-then-m-ge4841369599423283200
returns-then-m-ge4841369599423283200 c = sym (high_whole c.args.x (held (goal.at.returns-then-m-ge4841369599423283200 c).Start) c.if-m-ge4841369599423283200.true)

pub float_from_bits-w : goal.float_from_bits-w
float_from_bits-w c = number_of_below binary64 (to_bits binary64 c.args.x % 2 ^ 63) (omega arith)

pub float_to_bits-result : goal.float_to_bits-result
float_to_bits-result c = whole_number c.args.x (held (goal.at.float_to_bits-result c).Start) c.if-m-ge4841369599423283200.false

-- the pattern of the nearest whole value
signed : (c : Start) → to_bits binary64 c.args.x % 2 ^ 63 < 1075 * 2 ^ 52
    → to_bits binary64 (by_adding (to_bits binary64 c.args.x % 2 ^ 63)) + (to_bits binary64 c.args.x - to_bits binary64 c.args.x % 2 ^ 63) ≡ to_bits binary64 (nearest_whole c.args.x)
signed c h = whole_pattern c.args.x (held c) h

-- which is no NaN's
number_pattern : (x : Float) → T (not (is_nan x)) → T (not (nan_bits binary64 (to_bits binary64 (nearest_whole x))))
number_pattern x n =
    subst (λ (b : Bool). T (not b)) (sym (nan_bits_is binary64 (to_bits binary64 (nearest_whole x)) ∙ ap is_nan (of_bits-to_bits binary64 (nearest_whole x) (whole_fits x)))) (number_whole x n)

pub overflow_add-result : goal.overflow_add-result
overflow_add-result c = record { fits = subst (λ (n : ℕ). n < 2 ^ 64) (sym (signed (goal.at.overflow_add-result c).Start c.if-m-ge4841369599423283200.false)) (to_bits-lt binary64 (nearest_whole c.args.x) (whole_fits c.args.x)) }

pub float_from_bits-result : goal.float_from_bits-result
float_from_bits-result c = subst (λ (n : ℕ). T (not (nan_bits binary64 n))) (sym (signed (goal.at.float_from_bits-result c).Start c.if-m-ge4841369599423283200.false)) (number_pattern c.args.x (low_number c.args.x c.if-m-ge4841369599423283200.false))

pub returns : goal.returns
returns c = ap (of_bits binary64) (signed (goal.at.returns c).Start c.if-m-ge4841369599423283200.false) ∙ of_bits-to_bits binary64 (nearest_whole c.args.x) (whole_fits c.args.x)
