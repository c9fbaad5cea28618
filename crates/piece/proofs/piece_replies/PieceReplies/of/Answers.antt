-- `of` meets its contract: the line that is held stops at a line feed, or at the end of the piece. Assumes nothing.
use Rattle.std.proofs.Common.{sym, ap, ◌∙◌, ◌++◌, arith, length-drop}
use Rattle.scan.specs.Complete.{lines, lines_from, rest, rest_from}
use Rattle.state.specs.Holding.{as_held}
use Rattle.piece.specs.Piece.{replies}
use Rattle.piece.proofs.FirstLine.{end_within, no_replies, all_held, first_reply, others_held}
use Rattle.piece.proofs.piece_replies.PieceReplies.of.Goals as goal

pub rest-requires : goal.rest-requires
rest-requires c = let e = c.carry-line.ensures in rw e.bytes (end_within _ _ _ _ e.held e.at)

pub returns-in-Some-clause-replies : goal.returns-in-Some-clause-replies
returns-in-Some-clause-replies c =
    let e = c.carry-line.ensures in
    first_reply _ _ _ _ e.held e.at _ _ (rw e.bytes at (sym c.rest.ensures) ∙ c.in-Some.ensures.cases.0) _ c.reply_to_held.ensures

pub returns-in-Some-clause-rest : goal.returns-in-Some-clause-rest
returns-in-Some-clause-rest c =
    let e = c.carry-line.ensures in
    ap (λ l. as_held (l ++ rest c.in-Some.others.now)) c.empty.ensures
    ∙ others_held _ _ _ _ e.held e.at _ _ (rw e.bytes at (sym c.rest.ensures) ∙ c.in-Some.ensures.cases.0)

pub returns-in-None-clause-replies : goal.returns-in-None-clause-replies
unfolding replies lines lines_from
returns-in-None-clause-replies c =
    let e = c.carry-line.ensures in
    let n = c.in-None.ensures.cases in
    no_replies _ _ _ _ e.held e.at (omega (arith, length-drop c.carry-line.new.self.at c.args.piece.now, rw (c.rest.ensures, e.bytes) at n))

pub returns-in-None-clause-rest : goal.returns-in-None-clause-rest
unfolding rest rest_from
returns-in-None-clause-rest c =
    let e = c.carry-line.ensures in
    let n = c.in-None.ensures.cases in
    all_held _ _ _ _ e.held e.at (omega (arith, length-drop c.carry-line.new.self.at c.args.piece.now, rw (c.rest.ensures, e.bytes) at n))
