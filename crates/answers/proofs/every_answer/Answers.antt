-- `every_answer` meets its contract: it is the two theorems. Assumes nothing.
use Rattle.answers.proofs.EveryAnswer.{claims}
use Rattle.answers.proofs.Reached.{reached}
use Rattle.answers.proofs.every_answer.Goals as goal

pub returns : goal.returns
returns c = record { claims = claims _ _; reached = reached _ _ }
