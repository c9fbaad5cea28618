-- `fmla` meets its contract: where the tests pass, s is the definition's result, and otherwise `dd_fmla` is run. Assumes nothing.
use denote.Floats.{passes}
use mathlib.Core.Path.{sym, ap, ap₂, ◌∙◌}
use lib.Dec.{T}
use lib.Ieee.{Float, binary64, fits}
use Rattle.double_double.specs.declared.DoubleDouble.{DoubleDouble}
use Rattle.std.proofs.lemmas.Float.{T_from_true}
use Rattle.fmla.specs.Fmla.{is_moderate, stays}
use Rattle.fmla.proofs.Settled.{settled}
use Rattle.fmla.proofs.fmla.Goals as goal
use Rattle.fmla.proofs.fmla.Goals.{Then-is_moderate-2}

-- both factors are moderate
module _ (c : Then-is_moderate-2) where
  a_moderate : T (is_moderate c.args.a)
  a_moderate = T_from_true _ (sym c.is_moderate.ensures ∙ c.if-is_moderate.true)

  b_moderate : T (is_moderate c.args.b)
  b_moderate = T_from_true _ (sym c.is_moderate-then-is_moderate.ensures ∙ c.if-is_moderate-2.true)

  a_fits : T (fits binary64 c.args.a)
  a_fits = passes _ c.well_formed.0.1

  b_fits : T (fits binary64 c.args.b)
  b_fits = passes _ c.well_formed.1.0.1

pub returns-then-stays : goal.returns-then-stays
returns-then-stays c =
    let s = c.from_full_exact_add-s.ensures in
    ap (λ (d : DoubleDouble). d.hi) s
    ∙ settled _ _ _ (a_fits (goal.at.returns-then-stays c).Then-is_moderate-2) (b_fits (goal.at.returns-then-stays c).Then-is_moderate-2) (a_moderate (goal.at.returns-then-stays c).Then-is_moderate-2) (b_moderate (goal.at.returns-then-stays c).Then-is_moderate-2)
    (T_from_true _ (sym (c.stays.ensures ∙ ap₂ (λ (d : DoubleDouble) (b : Float). stays d.hi d.lo b) s c.lo_bound.ensures) ∙ c.if-stays.true))
