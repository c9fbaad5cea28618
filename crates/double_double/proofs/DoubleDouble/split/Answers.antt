-- `split` meets its contract: its operations are the definition's, in the definition's order, and its constant is 2 ^ 27 + 1. Assumes nothing.
use mathlib.Core.Path.{refl}
use lib.Ieee.{of_bits}
use Rattle.double_double.specs.DoubleDouble.{split}
use Rattle.double_double.proofs.DoubleDouble.split.Goals as goal

pub returns : goal.returns
unfolding split of_bits
returns c = refl
