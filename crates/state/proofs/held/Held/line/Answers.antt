-- `line` meets its contract. Assumes nothing.
use Rattle.std.proofs.Common.{arith}
use Rattle.std.proofs.lemmas.Grind.{common_steps}
use Rattle.state.proofs.Holds.{held_length, held_line_bytes}
use Rattle.state.proofs.held.Held.line.Goals as goal

pub returns : goal.returns
returns c = let t = c.self.inside.tail in grind (arith, common_steps, held_length t c.self.invariant, held_line_bytes t)
