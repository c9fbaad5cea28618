-- `starred_pairs` meets its contract: the table is computed. Assumes nothing.
use Rattle.compound.proofs.Examples.{starred_pairs}
use Rattle.compound.proofs.starred_pairs.Goals as goal

pub returns : goal.returns
returns c = starred_pairs
