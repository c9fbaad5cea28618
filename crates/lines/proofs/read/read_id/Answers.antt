-- `read_id` meets its contract: a space has to follow the digits, and then all is read. Assumes nothing.
use native.Mathlib.Omega.{arith}
use Rattle.std.proofs.lemmas.Grind.{common_steps}
use Rattle.lines.proofs.Reading.{no_id_space, id_found, ids_are, id_after}
use Rattle.lines.proofs.read.read_id.Goals as goal

pub returns-in_err-strip_prefix-2 : goal.returns-in_err-strip_prefix-2
returns-in_err-strip_prefix-2 c = rw c.from_residual-in_err-strip_prefix-2.ensures (grind (arith, common_steps, no_id_space))

pub returns : goal.returns
returns c = (grind (arith, common_steps, id_found), grind (arith, common_steps, ids_are), grind (arith, common_steps, id_after))
