-- An input fed in pieces: a list of calls that grows at its end, and what demand 3 says of it when all is fed. Assumes nothing.
use Rattle.std.proofs.Common.{ℕ, ◌+◌, ◌-◌, ◌≤◌, ◌≡◌, refl, sym, ap, ◌∙◌, false, cond, List, [], ◌∷◌, ◌++◌, length, take, drop, take_at, take_all, drop_at, arith, append_assoc, length-append, length-drop}
use mathlib.Core.List.{append-nil}
use Rattle.std.proofs.lemmas.Bool.{true_from_ne_false}
use Rattle.std.proofs.lemmas.Grind.{common_steps}
use Rattle.std.specs.Prelude.{Result, Ok, Err}
use Rattle.state.specs.declared.State.{State}
use Rattle.batch.specs.declared.Fed.{Fed}
use Rattle.batch.specs.declared.Refused.{Refused}
use Rattle.scan.specs.Complete.{lines_from, lines, line_feeds}
use Rattle.state.specs.Holding.{fresh}
use Rattle.piece.specs.Piece.{most_lines, answer_lines, added, state_after_piece}
use Rattle.batch.specs.Feed.{verdict, FeedEffect}
use Rattle.batch.specs.Series.{Call, Calls, state_of, is_accepted, is_refused, accepted, length_said, wrote, wrote_all, adds, due, CallAsDue, SeriesResult, EverySeries, InPieces}
use Rattle.scan.proofs.Cutting.{line_feeds_append}
use Rattle.batch.proofs.Carrying.{state_after_bytes, state_after_nothing, verdict_due, state_after_more, lines_more, answers_added}
use Rattle.piece.proofs.Replied.{answer_append}
use Rattle.batch.proofs.EverySeries.{none_accepted, every_series, due_few, due_fits, due_few_fits, few_fits_due}

-- a list of calls with one more
module _ (c : Call) where
  pub calls_more : (s : State) (cs : List Call) → Calls FeedEffect s cs → FeedEffect (state_of s cs) c.piece c.out c.returned c.out_after → Calls FeedEffect s (cs ++ c ∷ [])
  unfolding Calls state_of
  calls_more s [] ds d = (d, tt)
  calls_more s (b ∷ cs) (e, ds) d = (e, calls_more b.returned.state cs ds d)

  pub state_more : (s : State) (cs : List Call) → state_of s (cs ++ c ∷ []) ≡ c.returned.state
  unfolding state_of
  state_more s [] = refl
  state_more s (b ∷ cs) = state_more b.returned.state cs

  accepted_more : (cs : List Call) → accepted (cs ++ c ∷ []) ≡ accepted cs ++ cond (is_accepted c) c.piece []
  unfolding accepted
  accepted_more [] = append-nil (cond (is_accepted c) c.piece [])
  accepted_more (b ∷ cs) = rw (append_assoc, accepted_more cs)

  wrote_more : (cs : List Call) → wrote_all (cs ++ c ∷ []) ≡ wrote_all cs ++ wrote c
  unfolding wrote_all
  wrote_more [] = append-nil (wrote c)
  wrote_more (b ∷ cs) = rw (append_assoc, wrote_more cs)

-- the calls cs have taken all but `rest` of the input, and written `at` bytes of the output
pub record Come (input out₀ out : List ℕ) (s : State) (rest : List ℕ) (at : ℕ) (cs : List Call) : Type 0 where
  pub calls : Calls FeedEffect fresh cs
  pub state_is : state_of fresh cs ≡ s
  pub taken_is : accepted cs ++ rest ≡ input
  pub out_is : out ≡ wrote_all cs ++ drop at out₀
  pub at_is : length (wrote_all cs) ≡ at
  pub at_within : at ≤ length out₀
  pub few : line_feeds (accepted cs) ≤ most_lines

-- at the start
pub begun : (input out : List ℕ) → Come input out out fresh input 0 []
unfolding Calls state_of accepted wrote_all line_feeds
begun input out = record { calls = tt; state_is = refl; taken_is = refl; out_is = refl; at_is = refl; at_within = omega arith; few = omega arith }

-- Where the whole is not refused, no part is that gets what is left of the output: a are the pieces before it, b what follows it.
long : (a p : List ℕ) → length (answer_lines (lines (a ++ p))) ≡ length (answer_lines (lines a)) + length (answer_lines (adds a p))
long a p = rw (lines_more, answer_append, length-append)

part_due : (a p b : List ℕ) (room : ℕ) → is_refused (due [] (a ++ (p ++ b)) room) ≡ false → is_refused (due a p (room - length (answer_lines (lines a)))) ≡ false
unfolding adds lines lines_from line_feeds
part_due a p b room e =
    let whole = due_few_fits [] (a ++ (p ++ b)) room e in
    let few : line_feeds (a ++ (p ++ b)) ≡ line_feeds a + (line_feeds p + line_feeds b) = rw (line_feeds_append, line_feeds_append) in
    let first = long a p in
    let size : length (answer_lines (lines (a ++ (p ++ b)))) ≡ length (answer_lines (lines (a ++ p))) + length (answer_lines (adds (a ++ p) b)) = rw (← append_assoc) (long (a ++ p) b) in
    few_fits_due a p (room - length (answer_lines (lines a))) (omega arith) (omega arith)

module _ (input out₀ out : List ℕ) (s : State) (rest : List ℕ) (at : ℕ) (cs : List Call) (m : Come input out₀ out s rest at cs) where
  -- the output keeps its length, and what is left of it is as it was
  come_length : length out ≡ length out₀
  come_length = grind (arith, common_steps, m)

  come_left : drop at out ≡ drop at out₀
  come_left = rw m.out_is (drop_at (wrote_all cs) (drop at out₀) at m.at_is)

  -- what was taken is as if it had been fed whole
  so_far : SeriesResult cs
  unfolding EverySeries
  so_far = every_series cs m.calls

  wrote_taken : wrote_all cs ≡ answer_lines (lines (accepted cs))
  wrote_taken = so_far.bytes_written

  verdict_taken : verdict fresh (accepted cs) (length out₀) ≡ Ok at
  unfolding due adds lines lines_from line_feeds
  verdict_taken =
      let size : length (answer_lines (lines (accepted cs))) ≡ at = rw wrote_taken at m.at_is in
      rw (← state_after_nothing, verdict_due) (grind (arith, common_steps, m))

  state_taken : state_after_piece fresh (accepted cs) ≡ s
  unfolding state_after_bytes
  state_taken = rw (← state_after_nothing, state_after_more, ← so_far.tail_held, ← so_far.lines_counted, ← so_far.tallies_counted) m.state_is

  answers_taken : answer_lines (added fresh (accepted cs)) ≡ wrote_all cs
  unfolding adds lines lines_from
  answers_taken = rw (← state_after_nothing, answers_added, wrote_taken)

  as_whole : FeedEffect fresh (accepted cs) out₀ (record { state = s; verdict = Ok at }) out
  as_whole = record { result = rw (verdict_taken, state_taken); output = rw answers_taken m.out_is }

  -- when all is taken, nothing was refused
  pub all_pieces : length rest ≡ 0 → InPieces input out₀ (record { state = s; verdict = Ok at }) out
  all_pieces none =
      let all : accepted cs ≡ input = grind (arith, common_steps, m) in
      record {
        taken = length input;
        written = at;
        as_whole = rw (take_all (length input) input (omega arith)) (rw all at as_whole);
        if_accepted = λ n e. (take_all (length input) input (omega arith), cc);
        if_refused = λ e. cc;
        never_broken = λ e. cc;
      }

  -- one call more, on what is left of the output
  module _ (p rest' : List ℕ) (cut : rest ≡ p ++ rest') (r : Fed) (part : List ℕ) (d : FeedEffect s p (drop at out) r part) where
    abbrev call : Call
    call = record { piece = p; out = drop at out; returned = r; out_after = part }

    calls : Calls FeedEffect fresh (cs ++ call ∷ [])
    calls = calls_more call fresh cs m.calls (rw m.state_is d)

    as_due : CallAsDue cs call
    unfolding EverySeries
    as_due = (every_series (cs ++ call ∷ []) calls).each_call cs call [] refl

    -- the output afterwards
    abbrev out' : List ℕ
    out' = take at out ++ (part ++ drop (length out - at) (drop at out))

    -- if it is refused, state and output are as they were, and the whole would be refused too
    refused : (e : Refused) → r.verdict ≡ Err e → InPieces input out₀ r out'
    refused e is =
        let left = as_due.refused_leaves (rw (none_accepted, is)) in
        let same : out' ≡ out = rw left.1 (grind (arith, common_steps)) in
        let room : length (drop at out) ≡ length out₀ - length (answer_lines (lines (accepted cs))) = rw (← wrote_taken, m.at_is, come_left, length-drop) in
        let part : is_refused (due [] input (length out₀)) ≡ false → is_refused r.verdict ≡ false = λ whole. rw (as_due.verdict_due, room) (part_due (accepted cs) p rest' (length out₀) (rw (← cut, m.taken_is) whole)) in
        record {
          taken = length (accepted cs);
          written = at;
          as_whole = rw (same, left.0, m.state_is, ← m.taken_is, take_at (accepted cs) rest (length (accepted cs)) refl) as_whole;
          if_accepted = λ n ok. cc;
          if_refused = λ no. rw (← state_after_nothing, verdict_due) (true_from_ne_false _ (λ whole. (let yes = part whole in cc)));
          never_broken = as_due.never_five;
        }

    pub refused_pieces : ((n : ℕ) → r.verdict ≡ Ok n → ⊥) → InPieces input out₀ r out'
    refused_pieces not_ok = by r.verdict refl
      where
        by : (v : Result ℕ Refused) → r.verdict ≡ v → InPieces input out₀ r out'
        by (Ok n) is = absurd (not_ok n is)
        by (Err e) is = refused e is

    -- if it is accepted, the input is taken further
    pub come_on : (n : ℕ) → r.verdict ≡ Ok n → Come input out₀ out' r.state rest' (at + n) (cs ++ call ∷ [])
    come_on n ok =
        let due_n = sym as_due.verdict_due ∙ ok in
        let fits : n ≤ length (drop at out) = due_fits (accepted cs) p (length (drop at out)) n due_n in
        let few = due_few (accepted cs) p (length (drop at out)) n due_n in
        let size : length (wrote call) ≡ n = as_due.wrote_length ∙ ap length_said ok in
        let written : part ≡ wrote call ++ drop n (drop at out) = as_due.rest_kept ∙ ap (λ (v : Result ℕ Refused). wrote call ++ drop (length_said v) (drop at out)) ok in
        record {
          calls = calls;
          state_is = state_more call fresh cs;
          taken_is = rw (accepted_more, ok, append_assoc, ← cut) m.taken_is;
          out_is = rw wrote_more (grind (arith, common_steps, m, come_left, written));
          at_is = rw (wrote_more, length-append, m.at_is, size);
          at_within = grind (arith, common_steps, m, come_length);
          few = rw (accepted_more, ok, line_feeds_append) few;
        }
