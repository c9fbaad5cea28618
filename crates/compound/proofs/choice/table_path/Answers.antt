-- `table_path` meets its contract: what the filter finds is right, and where it finds nothing the source's way is gone. Assumes nothing.
use mathlib.Core.Path.{◌≡◌, sym, ◌∙◌}
use lib.Ieee.{Float, binary32, of_bits}
use Rattle.compound.specs.Answer.{Outcome, outcome}
use Rattle.compound.specs.Route.{table_path}
use Rattle.compound.proofs.Filtered as by
use Rattle.compound.proofs.Absorbed.{absorbed_edge}
use Rattle.compound.proofs.choice.table_path.Goals as goal

-- the operands are the values of the patterns
told : (x y u v : Float) (o : Outcome) → x ≡ u → y ≡ v → o ≡ table_path x y → o ≡ table_path u v
told x y u v o e d h = cc

pub returns-then-is_absorbed : goal.returns-then-is_absorbed
unfolding outcome of_bits
returns-then-is_absorbed c = absorbed_edge (of_bits binary32 c.args.nx) (of_bits binary32 c.args.ny) c.requires (sym c.is_absorbed.ensures ∙ c.if-is_absorbed.true)

pub returns-in-Some-Fast : goal.returns-in-Some-Fast
unfolding outcome
returns-in-Some-Fast c = told _ _ _ _ _ c.widened-pair.ensures.x c.widened-pair.ensures.y (by.by_fast _ _ _ (rw c.in-Some-Fast.field-0-is at c.in-Some-Fast.ensures.right))

pub returns-in-Some-Slow : goal.returns-in-Some-Slow
unfolding outcome
returns-in-Some-Slow c = told _ _ _ _ _ c.widened-pair.ensures.x c.widened-pair.ensures.y (by.by_slow _ _ _ (rw c.in-Some-Slow.field-0-is at c.in-Some-Slow.ensures.right) c.slow_answer.ensures)

pub returns-in-Some-Low : goal.returns-in-Some-Low
unfolding outcome of_bits
returns-in-Some-Low c = told _ _ _ _ _ c.widened-pair.ensures.x c.widened-pair.ensures.y (by.by_low _ _ (rw c.in-Some-Low.field-0-is at c.in-Some-Low.ensures.right))

pub returns-in-Some-High : goal.returns-in-Some-High
unfolding outcome of_bits
returns-in-Some-High c = told _ _ _ _ _ c.widened-pair.ensures.x c.widened-pair.ensures.y (by.by_high _ _ (rw c.in-Some-High.field-0-is at c.in-Some-High.ensures.right))

pub returns-in-Some-One : goal.returns-in-Some-One
unfolding outcome of_bits
returns-in-Some-One c = told _ _ _ _ _ c.widened-pair.ensures.x c.widened-pair.ensures.y (by.by_one _ _ (rw c.in-Some-One.field-0-is at c.in-Some-One.ensures.right))
