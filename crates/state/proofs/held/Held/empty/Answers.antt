-- `empty` meets its contract. Assumes nothing.
use Rattle.std.proofs.Common.{refl}
use Rattle.state.specs.Holding.{tail_of, held_line}
use Rattle.state.proofs.held.Held.empty.Goals as goal

pub invariant_of-result : goal.invariant_of-result
unfolding tail_of held_line
invariant_of-result c = refl

pub returns : goal.returns
unfolding held_line
returns c = refl
