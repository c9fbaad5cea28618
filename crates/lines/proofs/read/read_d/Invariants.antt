-- `read_d` meets its contract: the digits read, followed by those ahead, are all of them. Assumes nothing.
use lib.ListN.{length}
use Rattle.lines.proofs.Ids.{Read}
use Rattle.lines.proofs.read.read_d.Given as goal

abbrev pub invariant-loop-rest : goal.invariant-loop-rest
invariant-loop-rest l = Read l.line l.n l.rest

abbrev pub decreases-loop-rest : goal.decreases-loop-rest
decreases-loop-rest l = length l.rest
