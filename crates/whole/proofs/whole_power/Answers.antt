-- `whole_power` meets its contract. The loop's invariant: with the turns that are left, the factors still to come lead to the power. Assumes nothing.
use Rattle.std.proofs.Common.{◌≡◌, ℕ, suc, ◌+◌, ◌/◌, ◌%◌, Bool, true, false, cond, T, eqb, sym, ap, ◌∙◌, ap₂, zero-add, arith}
use lib.Ieee.{Float, binary64, fits}
use denote.Floats.{passes}
use Rattle.floats.specs.Operations.{◌⊗◌}
use Rattle.floats.proofs.Laws.Powers.{square_number}
use Rattle.special.specs.Special.{one}
use Rattle.whole.specs.Whole as spec
use Rattle.whole.proofs.Squaring.{turn_factor, factors, factors_power}
use Rattle.whole.proofs.whole_power.Goals as goal

-- the first factor is a value of the format
first_fits : (b : Bool) (s : Float) → T (fits binary64 s) → T (fits binary64 (cond b s one))
unfolding fits
first_fits true s t = t
first_fits false s t = tt

-- it starts the power
starts : (s acc : Float) (n : ℕ) → T (fits binary64 s) → acc ≡ turn_factor n s → (turns : ℕ) → 0 + turns ≡ 4 → factors turns n s acc ≡ spec.whole_power s n
starts s acc n t e turns h = ap₂ (λ (k : ℕ) (a : Float). factors k n s a) (sym (zero-add turns) ∙ h) e ∙ factors_power n s (first_fits (eqb (n % 2) 1) s t)

pub loop-turn-init : goal.loop-turn-init
loop-turn-init c = (omega arith, (c.requires, starts _ _ _ (passes _ c.well_formed.0.1) c.turn_factor-acc.ensures))

pub loop-turn-preserved : goal.loop-turn-preserved
loop-turn-preserved c =
    let turn = c.loop-turn in let square = turn.square ⊗ turn.square in (
      omega arith,
      (square_number binary64 turn.square turn.invariant.1.0, λ turns e. ap (λ (a : Float). factors turns (turn.left / 2) square (turn.acc ⊗ a)) c.turn_factor-acc-in-loop-turn.ensures ∙ turn.invariant.1.1 (suc turns) (omega (arith, e))),
    )

pub turn_factor-acc-requires-in-loop-turn : goal.turn_factor-acc-requires-in-loop-turn
turn_factor-acc-requires-in-loop-turn c = square_number binary64 c.loop-turn.square c.loop-turn.invariant.1.0

pub returns : goal.returns
returns c = c.loop-turn.invariant.1.1 0 (omega arith)
