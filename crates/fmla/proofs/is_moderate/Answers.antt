-- `is_moderate` meets its contract: the limit's pattern stands for 2^400. Assumes nothing.
use lib.Ieee.{of_bits, nan_bits}
use Rattle.fmla.specs.Fmla.{is_moderate}
use Rattle.fmla.proofs.is_moderate.Goals as goal

pub float_from_bits-is_within : goal.float_from_bits-is_within
unfolding nan_bits
float_from_bits-is_within c = tt

pub returns : goal.returns
unfolding is_moderate of_bits
returns c = c.is_within.ensures
