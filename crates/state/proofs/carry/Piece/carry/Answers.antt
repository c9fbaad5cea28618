-- `carry` meets its contract. Assumes nothing.
use Rattle.std.proofs.Common.{arith}
use Rattle.std.proofs.lemmas.Grind.{common_steps}
use Rattle.scan.proofs.Cutting.{line_end_within}
use Rattle.state.proofs.carry.Piece.carry.Goals as goal

pub slice_bounds-extended-end : goal.slice_bounds-extended-end
slice_bounds-extended-end c = let n = line_end_within c.rest-rest.result.now in grind (arith, common_steps)
