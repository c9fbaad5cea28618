-- By what comes after the read, it is a turn with no call of feed or one.
use Rattle.std.proofs.Common.{ap, rules, ◌∙◌, ◌≤◌, ◌≡◌, length, arith}
use Rattle.std.specs.Prelude.{Ok}
use Rattle.std.proofs.lemmas.Result.{err_from_is_err_and}
use Rattle.fade.specs.declared.run.TheConstants.{MOST_PIECE, ANSWERS}
use Rattle.fade.proofs.Turns.{turn_failed, turn_ended, turn_within, turn_printed}
use Rattle.fade.proofs.run.Workspace.take_turn.Goals as goal

pub returns-in_err-end : goal.returns-in_err-end
returns-in_err-end g c =
    let got = c.read_some-got in
    let r = err_from_is_err_and c.from_residual.result c.from_residual.ensures.1 in
    let long : length got.new.piece ≡ MOST_PIECE = search rules in
    rw (r.1, r.2) (turn_failed got.result _ got.new.piece c.args.self.now.out _ _ c.after_read.result c.after_read.ensures.turn _ _ got.ensures.bound got.ensures.bytes got.ensures.given_up (omega arith) (omega arith) _ c.in_err-end.was _)

pub shared_ref_as_front-write_whole : goal.shared_ref_as_front-write_whole
shared_ref_as_front-write_whole g c =
    let got = c.read_some-got in
    let long : length got.new.piece ≡ MOST_PIECE = search rules in
    let room : length c.args.self.now.out ≡ ANSWERS = search rules in
    let within : c.in-Print.n ≤ length c.args.self.now.out =
    turn_within got.result _ got.new.piece c.args.self.now.out _ _ c.after_read.result c.after_read.ensures.turn _ _ got.ensures.bound got.ensures.bytes got.ensures.given_up (omega arith) (omega arith) c.in-Print.n (c.in_ok-end.was ∙ ap Ok c.in-Print.is)
    in
    omega arith

pub returns-in-Stop : goal.returns-in-Stop
returns-in-Stop g c =
    let got = c.read_some-got in
    let long : length got.new.piece ≡ MOST_PIECE = search rules in
    turn_ended got.result _ got.new.piece c.args.self.now.out _ _ c.after_read.result c.after_read.ensures.turn _ _ got.ensures.bound got.ensures.bytes got.ensures.given_up (omega arith) (omega arith) c.in-Stop.end (c.in_ok-end.was ∙ ap Ok c.in-Stop.is) _

pub returns-in-Print : goal.returns-in-Print
returns-in-Print g c =
    let got = c.read_some-got in
    let long : length got.new.piece ≡ MOST_PIECE = search rules in
    rw c.if_written.ensures (turn_printed got.result _ got.new.piece c.args.self.now.out _ _ c.after_read.result c.after_read.ensures.turn _ _ got.ensures.bound got.ensures.bytes got.ensures.given_up (omega arith) (omega arith) c.in-Print.n (c.in_ok-end.was ∙ ap Ok c.in-Print.is) _ _ c.write_whole.result c.write_whole.ensures.front c.write_whole.ensures.whole c.write_whole.ensures.given_up)
