-- `exp2_accurate` meets its contract: k is whole. Assumes nothing.
use denote.Floats.{passes}
use Rattle.floats.proofs.Laws.Cast.{whole_twice}
use Rattle.slow_path.proofs.exp2_accurate.Goals as goal

pub exp2_away-requires : goal.exp2_away-requires
exp2_away-requires c = rw c.round_ties_even-k.ensures (whole_twice _ (passes _ c.well_formed.0.1.1.1.0.1))
