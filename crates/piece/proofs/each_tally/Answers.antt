-- `each_tally` meets its contract, computed. Assumes nothing.
use Rattle.std.proofs.Common.{refl}
use Rattle.piece.specs.Tally.{tallies_with, EachTally}
use Rattle.piece.proofs.each_tally.Goals as goal

each : EachTally
unfolding tallies_with
each = record {
  rule_line = refl;
  whole_line = refl;
  edge_line = refl;
  fast_line = refl;
  slow_line = refl;
  bad_line = refl;
}

pub returns : goal.returns
returns c = each
