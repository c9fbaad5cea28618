-- The answers of the route `rule`: by the first two rows of the special table a NaN, exactly where x or y is NaN or x is below -1; by any other row one
-- of 1, +0 and +infinity (`rule_nan_or_plain`). Assumes nothing.
use mathlib.Core.Path.{◌≡◌, refl, sym, ◌∙◌}
use mathlib.Core.Bool.{Bool, true, false, ◌||◌, true≢false}
use mathlib.Core.List.{List, [], ◌∷◌}
use lib.Ieee.{Float, nan, is_nan, lt}
use Rattle.special.specs.Special.{minus_one, is_rule, special_table, first_that_fits, special}
use Rattle.special.proofs.Rule.{any_row_fits, a_row_fits}
use Rattle.answers.proofs.Signs.Plain.{Plain, NanOrPlain, plain_zero, plain_one, plain_infinity}

-- every row of a table has a plain value, and so has the first that fits
abbrev PlainRows : List (Bool × Float) → Type 0
PlainRows [] = Unit
PlainRows ((fits, r) ∷ rows) = Plain r × PlainRows rows

first_plain : (rows : List (Bool × Float)) → PlainRows rows → any_row_fits rows ≡ true → Plain (first_that_fits rows)
unfolding any_row_fits first_that_fits
first_plain [] p e = absurd (true≢false (sym e))
first_plain ((true, r) ∷ rows) p e = p.0
first_plain ((false, r) ∷ rows) p e = first_plain rows p.1 e

-- two rows of NaNs above them
after_nans : (a b : Bool) (rows : List (Bool × Float)) → PlainRows rows → any_row_fits ((a, nan) ∷ (b, nan) ∷ rows) ≡ true → NanOrPlain (a || b) (first_that_fits ((a, nan) ∷ (b, nan) ∷ rows))
unfolding any_row_fits first_that_fits
after_nans true b rows p e = refl
after_nans false true rows p e = refl
after_nans false false rows p e = first_plain rows p e

pub rule_nan_or_plain : (x y : Float) → is_rule x y ≡ true → NanOrPlain (is_nan x || is_nan y || lt x minus_one) (special x y)
unfolding special special_table
rule_nan_or_plain x y e =
    after_nans (is_nan x || is_nan y) (lt x minus_one) _
    (plain_one, (plain_one, (plain_zero, (plain_infinity, (plain_infinity, (plain_zero, (plain_infinity, (plain_zero, (plain_zero, (plain_infinity, tt))))))))))
    (sym (a_row_fits x y) ∙ e)
