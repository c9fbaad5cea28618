-- The turns so far, each of which fed one piece.
use Rattle.std.proofs.Common.{◌≡◌, List, length}
use Rattle.std.specs.Prelude.{Ok, None}
use Rattle.batch.specs.Series.{Call}
use Rattle.fade.specs.Run.{Turns}
use Rattle.fade.proofs.run.Workspace.answer_input.Given as goal

abbrev pub invariant-loop-reads : goal.invariant-loop-reads
invariant-loop-reads g l =
    (cs : List Call)
    × Turns l.initial.self.state l.self.state (g.R.Read.remaining l.initial.input) (g.R.Read.remaining l.input) (g.W.Write.contents l.initial.output) (g.W.Write.contents l.output) cs (Ok None)
    × (length cs ≡ l._reads)
