-- Each turn is put after those before it.
use Rattle.std.proofs.Common.{◌≡◌, [], ◌++◌, ◌∙◌, ap, refl, length-append, arith}
use Rattle.std.specs.Prelude.{Ok, None}
use Rattle.std.proofs.lemmas.Result.{err_from_is_err_and}
use Rattle.fade.proofs.Turns.{turns_append, out_of_reads, no_turns}
use Rattle.fade.proofs.run.Workspace.answer_input.Goals as goal

pub loop-reads-init : goal.loop-reads-init
loop-reads-init g c = ([], no_turns _ _ _, refl)

pub loop-reads-preserved : goal.loop-reads-preserved
loop-reads-preserved g c =
    let (cs, turns, count) = c.loop-reads.invariant in
    let (ds, turn) = c.take_turn.ensures in
    let next : c.take_turn.result ≡ Ok None = c.in_ok-end.was ∙ ap Ok c.in_default.is in
    (cs ++ ds, rw next at (turns_append c.take_turn.result _ _ _ _ _ _ _ _ _ cs ds turns turn.at_most_one turn.turns), omega (arith, length-append cs ds, turn.one next))

pub returns-in_err-end : goal.returns-in_err-end
returns-in_err-end g c =
    let (cs, turns, count) = c.loop-reads.invariant in
    let (ds, turn) = c.take_turn.ensures in
    let r = err_from_is_err_and c.from_residual.result c.from_residual.ensures.1 in
    rw (r.1, r.2) (cs ++ ds, rw c.in_err-end.was at (turns_append c.take_turn.result _ _ _ _ _ _ _ _ _ cs ds turns turn.at_most_one turn.turns))

pub returns-in-Some : goal.returns-in-Some
returns-in-Some g c =
    let (cs, turns, count) = c.loop-reads.invariant in
    let (ds, turn) = c.take_turn.ensures in
    (cs ++ ds, rw (c.in_ok-end.was ∙ ap Ok c.in-Some.is) at (turns_append c.take_turn.result _ _ _ _ _ _ _ _ _ cs ds turns turn.at_most_one turn.turns))

pub returns : goal.returns
returns g c =
    let (cs, turns, count) = c.loop-reads.invariant in
    (cs, out_of_reads _ _ _ _ _ _ cs turns (omega arith))
