-- `higher` meets its contract: each turn of the loop forgets the ones before. Assumes nothing.
use Rattle.std.proofs.Common.{◌≡◌, ◌+◌, ◌<◌}
use Rattle.double_double.specs.DoubleDouble.{dd_fmla}
use Rattle.slow_path.specs.Slow.{p}
use Rattle.slow_path.proofs.higher.Given as goal

-- after a turn h is that turn's own
abbrev pub invariant-loop-i : goal.invariant-loop-i
invariant-loop-i l = 7 < l.i → l.h ≡ dd_fmla l.z l.z (p (3 + l.i))
