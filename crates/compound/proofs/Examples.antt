-- Document 01, "Pairs at the edges": what the definition gives for each starred pair of specs/Starred.antt, computed. Assumes nothing.
use mathlib.Core.Path.{refl}
use lib.Ieee.{of_bits, to_bits, to_unsigned, add, mul, div, lt, le, eq, is_nan}
use Rattle.floats.specs.Narrowing.{narrowed}
use Rattle.floats.specs.OnBits.{absolute, is_integer}
use Rattle.special.specs.Special.{is_zero, is_special, is_rule, from_minus_one_to_zero, special_table, first_that_fits, special}
use Rattle.whole.specs.Whole as Whole
use Rattle.whole.specs.Whole.{is_whole, is_tiny, tiny, squarings, whole_power}
use Rattle.compound.specs.Route.{compound}
use Rattle.compound.specs.Starred.{StarredPairs}

pub starred_pairs : StarredPairs
unfolding of_bits to_bits to_unsigned add mul div lt le eq is_nan narrowed absolute is_integer is_zero is_special is_rule from_minus_one_to_zero special_table first_that_fits special is_whole is_tiny tiny squarings whole_power Whole.whole compound
starred_pairs = refl
