-- `both_ways` meets its contract: the theorem. Assumes nothing.
use Rattle.lines.proofs.BothWays.{both_ways}
use Rattle.lines.proofs.both_ways.Goals as goal

pub returns : goal.returns
returns c = both_ways
