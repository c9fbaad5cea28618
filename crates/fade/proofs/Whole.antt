-- A whole run over an input that is known prints what the program prints for it. Assumes nothing.
use Rattle.std.proofs.Common.{ℕ, ◌+◌, ◌≤◌, ◌≡◌, refl, sym, ap, ◌∙◌, Bool, true, false, cond, eqb, ltb, List, [], ◌∷◌, ◌++◌, length, take, drop, append_assoc, append-nil, le_trans, arith}
use Rattle.std.proofs.Math.Seq.{take-append_seam, take-append-add}
use Rattle.std.proofs.lemmas.List.{take_all, take-append-drop}
use Rattle.std.proofs.lemmas.Grind.{common_steps}
use Rattle.std.proofs.lemmas.Bool.Decides.{nat_tests}
use Rattle.std.proofs.lemmas.List.Elements.{All-head, All-tail}
use Rattle.std.specs.Prelude.{Option, Some, None, Result, Ok, Err, MatchResult}
use Rattle.std.specs.Io.KnownBytes.{Appends, Consumes, IsAtEnd}
use Rattle.fade.specs.declared.stream.NotDone.{NotDone}
use mathlib.Core.Logic.{⊎_elim}
use Rattle.scan.specs.Complete.{lines, lines_from, rest, line_feeds}
use Rattle.scan.proofs.Cutting.{line_feeds_append, lines_append}
use Rattle.piece.proofs.Replied.{answer_append}
use Rattle.state.specs.declared.State.{State}
use Rattle.state.specs.Holding.{tail_of, broken, fresh}
use Rattle.piece.specs.Piece.{most_lines, answer_lines}
use Rattle.totals.specs.Totals.{totals, end_line}
use Rattle.batch.specs.declared.Refused.TheVariants.{TooManyLines}
use Rattle.batch.specs.declared.NotClosed.TheVariants.{BrokenState, Unfinished}
use Rattle.batch.specs.Feed.{closed, close_number}
use Rattle.batch.specs.Series.{Call, state_of, is_accepted, accepted, adds, wrote_all, CallAsDue, SeriesResult, EverySeries}
use Rattle.batch.proofs.EverySeries.{every_series}
use Rattle.fade.specs.declared.run.End.{End}
use Rattle.fade.specs.declared.run.Failure.{Failure}
use Rattle.fade.specs.declared.run.Failure.TheVariants.{NotRead, NotWritten, OutOfReads}
use Rattle.fade.specs.Run.{end_number, if_written, AllAccepted, pieces_of, AtRefusal, After, Written, Run, last_lines, AfterRun, WholeRun, PrintsAll}
use Rattle.batch.specs.Input.{state_after_input, whole_output}
use Rattle.fade.proofs.Turns.{Accepted, pieces_append}

-- where every call was accepted, the accepted pieces are the pieces
all_accepted : (cs : List Call) → AllAccepted cs → accepted cs ≡ pieces_of cs
unfolding accepted pieces_of
all_accepted [] h = refl
all_accepted (c ∷ cs) h = let one : is_accepted c ≡ true = All-head Accepted c cs h in rw (one, all_accepted cs (All-tail Accepted c cs h)) refl

-- the number of the end, by what follows the last line feed
tail_number : (t : List ℕ) → eqb (tail_of t).count 0 ≡ eqb (length t) 0
unfolding tail_of
tail_number t = grind (arith, common_steps, nat_tests)

close_is : (s : State) (end : End) → end_number end ≡ close_number (closed s) → end_number end ≡ cond (eqb s.tail.count 0) 0 8
close_is s end e = by (broken s) (eqb s.tail.count 0) end e
  where
    by : (b c : Bool) (end : End) → end_number end ≡ close_number (cond b (Err BrokenState) (cond c (Ok tt) (Err Unfinished))) → end_number end ≡ cond c 0 8
    by true c End.Finished e = absurd (omega arith)
    by true c End.TooManyLines e = absurd (omega arith)
    by true c End.Unfinished e = absurd (omega arith)
    by false true end e = e
    by false false end e = e

-- no piece is refused with 6 where the input has no more lines than can be counted
refused_many : (before : List Call) (c : Call) → CallAsDue before c → c.returned.verdict ≡ Err TooManyLines → line_feeds (accepted before) + line_feeds c.piece ≤ most_lines → ⊥
refused_many before c due e few =
    let n : 6 ≡ cond (ltb most_lines (line_feeds (accepted before) + line_feeds c.piece)) 6 (cond (ltb (length c.out) (length (answer_lines (adds (accepted before) c.piece)))) 7 0) = rw e at due.number_due in
    grind (arith, common_steps, nat_tests, n)

one_piece : (c : Call) → pieces_of (c ∷ []) ≡ c.piece
unfolding pieces_of
one_piece c = append-nil c.piece

not_refused : (cs : List Call) (n : ℕ) → SeriesResult cs → AtRefusal cs n → line_feeds (pieces_of cs) ≤ most_lines → ⊥
not_refused cs n result r few =
    let pieces : pieces_of cs ≡ accepted r.before ++ r.last.piece = ap pieces_of r.calls_are ∙ pieces_append r.before (r.last ∷ []) ∙ rw (one_piece r.last, all_accepted r.before r.before_accepted) refl in
    let feeds : line_feeds (pieces_of cs) ≡ line_feeds (accepted r.before) + line_feeds r.last.piece = ap line_feeds pieces ∙ line_feeds_append (accepted r.before) r.last.piece in
    refused_many r.before r.last (result.each_call r.before r.last [] r.calls_are) r.last_refused (omega arith)

-- what known bytes tell
all_read : (bytes : List ℕ) (input' : Option (List ℕ)) (t : List ℕ) → Consumes (Some bytes) input' t → IsAtEnd input' → (input' ≡ Some []) × (t ≡ bytes)
all_read bytes None t read end = absurd read
all_read bytes (Some x) t read end = (ap Some end, sym (read ∙ rw end (append-nil t)))

some_read : (bytes : List ℕ) (input' : Option (List ℕ)) (t : List ℕ) → Consumes (Some bytes) input' t → line_feeds t ≤ line_feeds bytes
some_read bytes None t read = absurd read
some_read bytes (Some x) t read = omega (arith, ap line_feeds read, line_feeds_append t x)

grown : (before : List ℕ) (a b : Option (List ℕ)) (t u : List ℕ) → Appends (Some before) a t → Appends a b u → b ≡ Some (before ++ (t ++ u))
grown before None b t u p q = absurd p
grown before (Some x) None t u p q = absurd q
grown before (Some x) (Some y) t u p q = ap Some (q ∙ ap (λ l. l ++ u) p ∙ append_assoc before t u)

-- the state after the calls, and the lines after the answers
state_is : (cs : List Call) → SeriesResult cs → state_of fresh cs ≡ state_after_input (accepted cs)
state_is cs result = rw (← result.tail_held, ← result.lines_counted, ← result.tallies_counted) refl

last_is : (s : State) (end : End) (bytes : List ℕ) → s ≡ state_after_input bytes → end_number end ≡ close_number (closed s) → last_lines s end ≡ totals (state_after_input bytes) ++ end_line (cond (eqb (length (rest bytes)) 0) 0 8)
last_is s end bytes e n =
    let number : end_number end ≡ cond (eqb (length (rest bytes)) 0) 0 8 = close_is s end n ∙ ap (λ (k : Bool). cond k 0 8) (ap (λ (s : State). eqb s.tail.count 0) e ∙ tail_number (rest bytes)) in
    rw (number, e) refl

-- what the program prints for the input of a run that came to its end
ended : (input input' output after_answers : Option (List ℕ)) (s : State) (cs : List Call) (end : End) (bytes : List ℕ) → input ≡ Some bytes → line_feeds bytes ≤ most_lines → Run fresh s input input' output after_answers cs (Ok end) → (input' ≡ Some []) × (whole_output bytes ≡ wrote_all cs ++ last_lines s end)
unfolding EverySeries
ended input input' output after_answers s cs end bytes e few run =
    let result = every_series cs run.made in
    let read : Consumes (Some bytes) input' (pieces_of cs) = rw e at run.read in
    ⊎_elim
    (λ i.
    let (nothing, pieces) = all_read bytes input' (pieces_of cs) read i.nothing_left in
    let all : accepted cs ≡ bytes = all_accepted cs i.all_accepted ∙ pieces in
    let state : s ≡ state_after_input bytes = run.state_is ∙ state_is cs result ∙ ap state_after_input all in
    let number : end_number end ≡ close_number (closed s) = i.number_is ∙ ap (λ s. close_number (closed s)) (sym run.state_is) in
    let answers : wrote_all cs ≡ answer_lines (lines bytes) = result.bytes_written ∙ ap (λ l. answer_lines (lines l)) all in
    (nothing, rw (answers, last_is s end bytes state number) refl))
    (λ i. absurd (not_refused cs (end_number end) result i (le_trans (some_read bytes input' (pieces_of cs) read) few)))
    run.after

-- what the program prints for an input begins with the answers to what was read of it
answers_first : (p x : List ℕ) → (more : List ℕ) × (whole_output (p ++ x) ≡ answer_lines (lines p) ++ more)
unfolding lines rest
answers_first p x =
    let more = answer_lines (lines_from (rest p) x) ++ (totals (state_after_input (p ++ x)) ++ end_line (cond (eqb (length (rest (p ++ x))) 0) 0 8)) in
    let both : answer_lines (lines (p ++ x)) ≡ answer_lines (lines p) ++ answer_lines (lines_from (rest p) x) = ap answer_lines (lines_append p x []) ∙ answer_append (lines p) (lines_from (rest p) x) in
    (more, ap (λ a. a ++ (totals (state_after_input (p ++ x)) ++ end_line (cond (eqb (length (rest (p ++ x))) 0) 0 8))) both ∙ append_assoc (answer_lines (lines p)) (answer_lines (lines_from (rest p) x)) _)

-- a front of a text is a front of all that begins with it
front_of : (k : ℕ) (t more : List ℕ) → (j : ℕ) × (take j (t ++ more) ≡ take k t)
front_of k t more =
    let split : t ++ more ≡ take k t ++ (drop k t ++ more) = ap (λ l. l ++ more) (sym (take-append-drop k t)) ∙ append_assoc (take k t) (drop k t) more in
    (length (take k t), ap (take (length (take k t))) split ∙ take-append_seam (take k t) (drop k t ++ more))

-- where a run failed, what was written is a front of the answers
written_front : (f : Failure) (output output' : Option (List ℕ)) (text : List ℕ) → Written {T = Option End} (Err f) output output' text → (k : ℕ) × Appends output output' (take k text)
written_front (NotRead why) output output' text w = (length text, rw (take_all (length text) text (omega arith)) w)
written_front (NotWritten why) output output' text w = w
written_front OutOfReads output output' text w = (length text, rw (take_all (length text) text (omega arith)) w)

failed_accepted : (f : Failure) (input : Option (List ℕ)) (s : State) (cs : List Call) → After (Err f) input s cs → AllAccepted cs
failed_accepted (NotRead why) input s cs (h, given_up) = h
failed_accepted (NotWritten why) input s cs (h, given_up) = h
failed_accepted OutOfReads input s cs (h, many) = h

by_front : (before : List ℕ) (output' : Option (List ℕ)) (t : List ℕ) → Appends (Some before) output' t → output' ≡ Some (before ++ t)
by_front before None t w = absurd w
by_front before (Some y) t w = ap Some w

consumed : (bytes : List ℕ) (input' : Option (List ℕ)) (t : List ℕ) → Consumes (Some bytes) input' t → (x : List ℕ) × (bytes ≡ t ++ x)
consumed bytes None t read = absurd read
consumed bytes (Some x) t read = (x, read)

failed : (input input' output after_answers : Option (List ℕ)) (s : State) (cs : List Call) (f : Failure) (bytes before : List ℕ) → input ≡ Some bytes → output ≡ Some before → Run fresh s input input' output after_answers cs (Err f) → (k : ℕ) × (after_answers ≡ Some (before ++ take k (whole_output bytes)))
unfolding EverySeries
failed input input' output after_answers s cs f bytes before e g run =
    let result = every_series cs run.made in
    let (x, bytes_are) = consumed bytes input' (pieces_of cs) (rw e at run.read) in
    let all : accepted cs ≡ pieces_of cs = all_accepted cs (failed_accepted f input' fresh cs run.after) in
    let answers : wrote_all cs ≡ answer_lines (lines (pieces_of cs)) = result.bytes_written ∙ ap (λ l. answer_lines (lines l)) all in
    let (more, whole) = answers_first (pieces_of cs) x in
    let of_answers : Written {T = Option End} (Err f) (Some before) after_answers (wrote_all cs) = rw g at run.written in
    let (k, written) = written_front f (Some before) after_answers (wrote_all cs) of_answers in
    let (j, front) = front_of k (wrote_all cs) more in
    let whole_is : whole_output bytes ≡ wrote_all cs ++ more = ap whole_output bytes_are ∙ whole ∙ ap (λ a. a ++ more) (sym answers) in
    let grown : after_answers ≡ Some (before ++ take k (wrote_all cs)) = by_front before after_answers (take k (wrote_all cs)) written in
    (j, grown ∙ ap (λ t. Some (before ++ t)) (sym front ∙ ap (take j) (sym whole_is)))

abbrev Printed : Option (List ℕ) → Option (List ℕ) → List ℕ → List ℕ → Result End Failure → Type 0
Printed input' output' bytes before r = MatchResult r (λ _. (input' ≡ Some []) × (output' ≡ Some (before ++ whole_output bytes))) (λ _. (k : ℕ) × (output' ≡ Some (before ++ take k (whole_output bytes))))

pub prints_all : (input input' output output' : Option (List ℕ)) (r : Result End Failure) → WholeRun input input' output output' r → PrintsAll input input' output output' r
prints_all input input' output output' r w bytes before e g few = by w.ended w.run w.then
  where
    by : (ended : Result End Failure) → Run fresh w.state input input' output w.after_answers w.calls ended → AfterRun ended w.state w.after_answers output' r → Printed input' output' bytes before r
    by (Err failure) run (fails, same) =
        let (k, front) = failed input input' output w.after_answers w.state w.calls failure bytes before e g run in
        rw fails (k, same ∙ front)
    by (Ok end) run last = by_write last.result_is.0 last.result_is.1.0
      where
        whole : (input' ≡ Some []) × (whole_output bytes ≡ wrote_all w.calls ++ last_lines w.state end)
        whole = ended input input' output w.after_answers w.state w.calls end bytes e few run

        printed : Appends (Some before) w.after_answers (wrote_all w.calls)
        printed = rw g at run.written

        by_write : (written : Result Unit NotDone) → r ≡ if_written end written → Printed input' output' bytes before r
        by_write (Ok u) is =
            let lines_printed : Appends w.after_answers output' (last_lines w.state end) = rw is at last.written in
            rw is (whole.0, grown before w.after_answers output' (wrote_all w.calls) (last_lines w.state end) printed lines_printed ∙ ap (λ t. Some (before ++ t)) (sym whole.1))
        by_write (Err why) is =
            let (k, front) : (k : ℕ) × Appends w.after_answers output' (take k (last_lines w.state end)) = rw is at last.written in
            rw is (length (wrote_all w.calls) + k, grown before w.after_answers output' (wrote_all w.calls) (take k (last_lines w.state end)) printed front ∙ ap (λ t. Some (before ++ t)) (sym (take-append-add (wrote_all w.calls) (last_lines w.state end) k) ∙ ap (take (length (wrote_all w.calls) + k)) (sym whole.1)))
