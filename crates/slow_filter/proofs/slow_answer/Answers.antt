-- `slow_answer` meets its contract: what the plain evaluation finds is the slow path's answer, and where it finds nothing the slow path is run. Assumes nothing.
use Rattle.std.proofs.Common.{arith}
use Rattle.slow_filter.proofs.Settled.{settled}
use Rattle.slow_filter.proofs.slow_answer.Goals as goal

pub returns : goal.returns
returns c = let p = c.args.pair.tabled in grind (arith, settled c.args.pair.x c.args.pair.y p.base.x_fits p.base.x_finite p.base.x_above p.y_fits p.y_finite)
