-- The claims on NaN and on the sign, route by route: an answer is a NaN exactly where x or y is NaN or x is below -1, and it is plain otherwise
-- (`answer_nan_or_plain`). The slow path is by hypothesis, which Slow/SlowSign.antt proves. Assumes nothing.
use mathlib.Core.Path.{◌≡◌, refl}
use mathlib.Core.Bool.{true, false, ◌||◌}
use Prim.Native.Nat.{◌*◌}
use native.Mathlib.Nat.{le_of_lt}
use borrow.Author.Tests.{le-ltb}
use lib.Dec.{T, ltb→lt}
use lib.Ieee.{Float, nan, inf, fin, binary32, up, down, fits, is_nan, lt}
use lib.Ieee.Bits.{is_false}
use Rattle.compound.specs.Answer.{Outcome}
use Rattle.special.specs.Special.{minus_one, is_rule}
use Rattle.whole.specs.Whole as Whole
use Rattle.compound.specs.Route.{compound}
use Rattle.std.proofs.lemmas.Bool.{cond_both}
use Rattle.special.specs.Operands.{Tabled}
use Rattle.special.proofs.Tabled.{tabled}
use Rattle.special.proofs.Rule.{finite_number}
use Rattle.answers.specs.Claims.{answer, NanExactly, SignClear}
use Rattle.answers.proofs.Signs.Plain.{PlainValue, NanOrPlain, nan_by_test, clear_sign}
use Rattle.answers.proofs.Signs.RuleValues.{rule_nan_or_plain}
use Rattle.answers.proofs.Signs.WholeValues.{whole_plain}
use Rattle.answers.proofs.Signs.TableValues.{SlowClear, table_plain}

-- ---- past the route `rule` no answer is to be a NaN
above_not_below : (x : Float) → T (lt minus_one x) → lt x minus_one ≡ false
unfolding lt
above_not_below nan h = refl
above_not_below (inf true) h = absurd h
above_not_below (inf false) h = refl
above_not_below (fin true m e) h = le-ltb (1 * 1 * down e) (m * up e * 1) (le_of_lt (ltb→lt (m * up e * 1) (1 * 1 * down e) h))
above_not_below (fin false m e) h = refl

number_past_rule : (x y : Float) → Tabled x y → (is_nan x || is_nan y || lt x minus_one) ≡ false
number_past_rule x y t =
    rw (is_false (is_nan x) (finite_number x t.base.x_finite), is_false (is_nan y) (finite_number y t.y_finite), above_not_below x t.base.x_above)

module _ (slow : SlowClear) (x y : Float) (x_fits : T (fits binary32 x)) (y_fits : T (fits binary32 y)) where
  -- ---- and every one is plain
  abbrev NanOrPlainValue : Outcome → Type 0
  NanOrPlainValue o = NanOrPlain (is_nan x || is_nan y || lt x minus_one) o.value

  answer_nan_or_plain : NanOrPlain (is_nan x || is_nan y || lt x minus_one) (answer x y)
  unfolding compound
  answer_nan_or_plain =
      cond_both (is_rule x y) _ _ NanOrPlainValue (rule_nan_or_plain x y)
      (λ e. let t = tabled x y x_fits y_fits e in
      rw (number_past_rule x y t) (cond_both (Whole.is_whole x y) _ _ PlainValue (whole_plain x y t.base.x_above) (λ _. table_plain slow x y t)))

  -- ---- "The answer is NaN exactly when x is NaN, y is NaN, or x < -1."
  pub nan_exactly : NanExactly x y
  unfolding NanExactly
  nan_exactly = nan_by_test (is_nan x || is_nan y || lt x minus_one) (answer x y) answer_nan_or_plain

  -- ---- "Any other answer has a clear sign bit."
  pub sign_clear : SignClear x y
  unfolding SignClear
  sign_clear = clear_sign (is_nan x || is_nan y || lt x minus_one) (answer x y) answer_nan_or_plain
