-- `round_ties_even_small` meets its contract by `small_whole`. Assumes nothing.
use denote.Floats.{passes}
use lib.Ieee.{of_bits}
use Rattle.floats.proofs.Laws.SmallWhole.{small_whole}
use Rattle.floats.proofs.rounding.round_ties_even_small.Goals as goal

pub returns : goal.returns
unfolding of_bits
returns c = small_whole c.args.x (passes _ c.well_formed.0.1) c.requires
