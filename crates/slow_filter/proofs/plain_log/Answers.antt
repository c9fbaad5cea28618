-- `plain_log` meets its contract: its test is the definition's. Assumes nothing.
use Rattle.std.proofs.Common.{arith}
use Rattle.std.proofs.lemmas.Grind.{common_steps}
use lib.Ieee.{of_bits}
use Rattle.floats.proofs.Laws.Magnitude.{sign_off}
use Rattle.slow_filter.specs.PlainSlow.{plain_log}
use Rattle.slow_filter.proofs.plain_log.Goals as goal

pub returns-then-abs : goal.returns-then-abs
unfolding plain_log of_bits
returns-then-abs c = grind (arith, common_steps, sign_off)

pub returns-else-abs : goal.returns-else-abs
unfolding plain_log of_bits
returns-else-abs c = grind (arith, common_steps, sign_off)
