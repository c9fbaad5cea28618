-- `next_to_one` meets its contract: its tests are the definition's. Assumes nothing.
use Rattle.std.proofs.Common.{arith}
use Rattle.std.proofs.lemmas.Grind.{common_steps}
use lib.Ieee.{of_bits}
use Rattle.floats.proofs.Laws.Magnitude.{sign_off}
use Rattle.slow_filter.specs.PlainSlow.{next_to_one}
use Rattle.slow_filter.proofs.next_to_one.Goals as goal

pub returns : goal.returns
unfolding next_to_one of_bits
returns c = grind (arith, common_steps, sign_off)
