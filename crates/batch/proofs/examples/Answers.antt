-- `examples` meets its contract: it is the theorem. Assumes nothing.
use Rattle.batch.proofs.Example.{example, each_answer}
use Rattle.batch.proofs.examples.Goals as goal

pub returns : goal.returns
returns c = record { example = example; each_answer = each_answer }
