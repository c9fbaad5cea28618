-- `len` meets its contract. Assumes nothing.
use Rattle.std.proofs.Common.{length, ap, ◌∙◌}
use Rattle.state.proofs.Holds.{held_length}
use Rattle.state.proofs.held.Held.len.Goals as goal

pub returns : goal.returns
returns c = held_length _ c.self.invariant ∙ ap length c.self.view_is
