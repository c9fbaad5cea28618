-- What a whole run prints, for an input that is known.
use Rattle.fade.proofs.Whole.{prints_all}
use Rattle.fade.proofs.run.answer_all.Goals as goal

pub returns-clause-prints_all : goal.returns-clause-prints_all
returns-clause-prints_all g c = prints_all _ _ _ _ _ c.whole_run.ensures
