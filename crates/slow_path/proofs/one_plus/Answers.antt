-- `one_plus` meets its contract: x narrows to itself. Assumes nothing.
use Rattle.std.proofs.Common.{arith}
use Rattle.std.proofs.lemmas.Grind.{common_steps}
use lib.Ieee.{of_bits}
use Rattle.floats.proofs.Laws.Magnitude.{sign_off}
use Rattle.floats.proofs.Laws.Narrow.{narrowed_same}
use Rattle.slow_path.specs.Slow.{one_plus}
use Rattle.slow_path.proofs.one_plus.Goals as goal

pub returns-then-abs : goal.returns-then-abs
unfolding one_plus of_bits
returns-then-abs c = grind (arith, common_steps, sign_off, narrowed_same c.args.base.x c.args.base.is_base.x_fits)

pub returns-else-abs : goal.returns-else-abs
unfolding one_plus of_bits
returns-else-abs c = grind (arith, common_steps, sign_off, narrowed_same c.args.base.x c.args.base.is_base.x_fits)
