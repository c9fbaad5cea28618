-- `near_one_found` meets its contract: the plain value of a t of at most 2^-16 in size is from 1/2 to 2. Assumes nothing.
use Rattle.std.proofs.Common.{◌-◌, ◌^◌, sym, subst, lt_of_lt_of_le, le_trans, lit≤}
use lib.Ieee.Bits.{is_true}
use denote.Floats.{passes}
use Rattle.special.proofs.Rule.{finite_number}
use Rattle.bounds.proofs.Compared.{Positive, bits_around_one}
use Rattle.slow_filter.proofs.Reach.{next_bound}
use Rattle.slow_filter.proofs.Plain.{near_one_around}
use Rattle.slow_filter.proofs.near_one_found.Goals as goal
use Rattle.slow_filter.proofs.near_one_found.Goals.{After-near_one_power}

around : (c : After-near_one_power) → Positive (2 ^ 52) (2 ^ 54 - 1) c.near_one_power.result
around c =
    subst (Positive (2 ^ 52) (2 ^ 54 - 1)) (sym c.near_one_power.ensures)
    (near_one_around c.args.t (next_bound c.args.t (passes _ c.well_formed.0.1) (is_true _ c.requires)))

pub float_to_bits-near_one_power : goal.float_to_bits-near_one_power
float_to_bits-near_one_power c = finite_number _ (around (goal.at.float_to_bits-near_one_power c).After-near_one_power).number.plain

pub narrowed_pattern-requires-clause-w_least : goal.narrowed_pattern-requires-clause-w_least
narrowed_pattern-requires-clause-w_least c = le_trans (lit≤ tt) (bits_around_one (around (goal.at.narrowed_pattern-requires-clause-w_least c).After-near_one_power)).0

pub narrowed_pattern-requires-clause-w_below : goal.narrowed_pattern-requires-clause-w_below
narrowed_pattern-requires-clause-w_below c = lt_of_lt_of_le (bits_around_one (around (goal.at.narrowed_pattern-requires-clause-w_below c).After-near_one_power)).1 (lit≤ tt)
