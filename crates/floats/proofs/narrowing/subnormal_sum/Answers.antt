-- `subnormal_sum` meets its contract: the sum of a number and 2^-97 is a number. Assumes nothing.
use Rattle.std.proofs.Common.{ℕ, ◌%◌, ◌^◌, ◌≤◌, arith}
use lib.Ieee.{binary64, of_bits}
use Rattle.floats.proofs.Laws.Compare.{number_of_bits}
use Rattle.floats.proofs.Laws.Nan.{number_of_below}
use Rattle.floats.proofs.Laws.Sums.{add_number}
use Rattle.floats.proofs.narrowing.subnormal_sum.Goals as goal

within : (m : ℕ) → m ≤ 0x7ff0000000000000 → m % 2 ^ 63 ≤ 0x7ff0000000000000
within m h = omega (arith, h)

pub float_from_bits-result : goal.float_from_bits-result
float_from_bits-result c = number_of_below binary64 c.args.m (within c.args.m c.requires)

pub float_to_bits-result : goal.float_to_bits-result
unfolding of_bits
float_to_bits-result c = add_number binary64 (of_bits binary64 c.args.m) _ _ _ (number_of_bits binary64 c.args.m (within c.args.m c.requires))
