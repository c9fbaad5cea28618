-- The answers of the table path are plain (`table_plain`). Those of the route `edge` are constants. A value of the route `fast` has passed the rounding
-- test, so it is no NaN and not below a constant above 0. Of the route `slow` it is a hypothesis (`SlowClear`), which Slow/SlowSign.antt proves.
-- Assumes nothing.
use mathlib.Core.Path.{◌≡◌, refl, sym, ap, ◌∙◌}
use mathlib.Core.Bool.{true, false, true≢false}
use Prim.Native.Nat.{ℕ, ◌+◌, ◌*◌, ◌^◌, ◌<◌}
use native.Mathlib.Omega.{arith}
use borrow.Author.Tests.{lt-ltb}
use lib.Dec.{T, ltb}
use lib.IntN.{negsuc}
use lib.Ieee.{Float, nan, inf, fin, binary32, up, down, add, sub, lt, eq, ne, fits, of_bits}
use lib.Ieee.Fits.{down_pos, add-fits}
use Rattle.std.proofs.Common.{Option}
use Rattle.std.proofs.lemmas.Bool.{cond_both}
use Rattle.filter.specs.Right.{Inside}
use Rattle.floats.specs.Operations.{◌⊕◌, ◌⊖◌, ◌⊗◌, f64}
use Rattle.floats.specs.Narrowing.{narrowed, nearest_whole}
use Rattle.floats.proofs.Laws.Narrow.{narrowed_fits}
use Rattle.floats.proofs.Laws.Order.{clear}
use Rattle.double_double.specs.declared.DoubleDouble.{DoubleDouble}
use Rattle.special.specs.Special as Special
use Rattle.fast_path.specs.Edges.{gives_zero, gives_infinity, gives_one}
use Rattle.fast_path.specs.Fast.{compoundf_log2p1_fast, rounding_test, exp2_fast}
use Rattle.slow_path.specs.Slow.{is_near_one, scaled_to_f32, exp2_away, exp2_accurate, compoundf_accurate}
use Rattle.special.specs.Operands.{Tabled}
use Rattle.compound.specs.Route.{decided, from_logarithm, table_path}
use Rattle.answers.proofs.Signs.Plain.{Plain, PlainValue, plain_zero, plain_one, plain_infinity, plain_narrowed}

-- what the slow path owes: its value has a clear sign where the tests of the route `edge` fail
abbrev pub SlowClear : Type 0
SlowClear = (x y : Float) → Tabled x y → Inside (compoundf_log2p1_fast x ⊗ y) → T (clear (compoundf_accurate x y))

-- ---- the route `slow`: its value is an f32
abbrev InF32 : Float → Type 0
InF32 r = T (fits binary32 r)

exp2_fits : (t : DoubleDouble) → InF32 (exp2_accurate t)
unfolding exp2_accurate exp2_away scaled_to_f32
exp2_fits t = cond_both (is_near_one (nearest_whole t.hi) t.hi) _ _ InF32 (λ _. narrowed_fits _) (λ _. narrowed_fits _)

accurate_fits : (x y : Float) → InF32 (compoundf_accurate x y)
unfolding compoundf_accurate
accurate_fits x y = cond_both (eq y Special.one) _ _ InF32 (λ _. add-fits binary32 Special.one x) (λ _. exp2_fits _)

-- ---- the route `fast`: a value that passes both tests
-- the value below which the first test fails
abbrev least : Float
least = fin false 2251799813686385 (negsuc 176)

least_is : f64 0x38100000000008e2 ≡ least
unfolding of_bits
least_is = refl

least_positive : (a d : ℕ) → 0 < d → ltb 0 (a + 2251799813686385 * 1 * d) ≡ true
least_positive a d h = lt-ltb 0 (a + 2251799813686385 * 1 * d) (omega (arith, h))

passed_clear : (v err : Float) → lt v least ≡ false → ne (narrowed (v ⊖ err)) (narrowed (v ⊕ err)) ≡ false → T (clear v)
unfolding lt ne sub add narrowed
passed_clear nan err h k = absurd (true≢false k)
passed_clear (inf true) err h k = absurd (true≢false h)
passed_clear (inf false) err h k = tt
passed_clear (fin true m e) err h k = absurd (true≢false (sym (least_positive (m * up e * 2 ^ 177) (down e) (down_pos e)) ∙ h))
passed_clear (fin false m e) err h k = tt

-- ---- the choice between the two
module _ (x y : Float) (slow : Plain (compoundf_accurate x y)) where
  abbrev Value : Option Float → Type 0
  Value found = Plain (decided x y found).value

  tested_plain : (v err : Float) → Value (rounding_test v err)
  unfolding rounding_test decided
  tested_plain v err =
      cond_both (lt v (f64 0x38100000000008e2)) _ _ Value (λ _. slow)
      (λ h. cond_both (ne (narrowed (v ⊖ err)) (narrowed (v ⊕ err))) _ _ Value (λ _. slow) (λ k. plain_narrowed v (passed_clear v err (ap (lt v) (sym least_is) ∙ h) k)))

  decided_plain : (t : Float) → Value (exp2_fast t)
  unfolding exp2_fast
  decided_plain t = tested_plain _ _

-- ---- the choice of the route by t
pub table_plain : SlowClear → (x y : Float) → Tabled x y → Plain (table_path x y).value
unfolding table_path from_logarithm
table_plain slow x y p =
    let t = compoundf_log2p1_fast x ⊗ y in
    cond_both (gives_zero t) _ _ PlainValue (λ _. plain_zero)
    (λ above. cond_both (gives_infinity t) _ _ PlainValue (λ _. plain_infinity)
    (λ below. cond_both (gives_one t) _ _ PlainValue (λ _. plain_one)
    (λ apart. decided_plain x y (record { in_f32 = accurate_fits x y; is_clear = slow x y p (record { above = above; below = below; apart = apart }) }) t)))
