-- A turn, and turns one after another: what they fed, read and printed. Assumes nothing.
use Rattle.std.proofs.Common.{ℕ, zero, suc, ◌+◌, ◌<◌, ◌≤◌, ◌≡◌, refl, sym, true, List, [], ◌∷◌, ◌++◌, length, take, append_assoc, append-nil, arith}
use Rattle.std.proofs.Math.Seq.{take-append-add}
use Rattle.std.proofs.lemmas.List.Elements.{All-nil, All-cons, All-append}
use Rattle.std.proofs.KnownBytes.{Consumes-nil, Consumes-kept, Consumes-trans, Appends-nil, Appends-trans}
use Rattle.std.specs.Prelude.{Option, Some, None, Result, Ok, Err, IfErr, OnOk, All}
use Rattle.std.specs.Io.{ReadsAtMost}
use Rattle.std.specs.Io.KnownBytes.{Appends, Consumes, ReadConsumes}
use Rattle.fade.specs.declared.stream.NotDone.{NotDone}
use mathlib.Core.Logic.{inl, inr}
use Rattle.state.specs.declared.State.{State}
use Rattle.batch.specs.declared.Refused.{Refused as Cause}
use Rattle.batch.specs.declared.Refused.TheVariants.{Broken, TooManyLines, NoRoom}
use Rattle.batch.specs.Feed.{verdict, fed, FeedEffect}
use Rattle.batch.specs.Series.{Call, Calls, state_of, is_accepted, wrote_all}
use Rattle.batch.proofs.Room.{wrote_within}
use Rattle.fade.specs.Stream.{GivenUp, ReadAgain, WriteAgain}
use Rattle.fade.specs.declared.run.End.{End}
use Rattle.fade.specs.declared.run.Failure.{Failure}
use Rattle.fade.specs.declared.run.Failure.TheVariants.{NotRead, NotWritten, OutOfReads}
use Rattle.fade.specs.declared.run.Step.{Step}
use Rattle.fade.specs.declared.run.Step.TheVariants.{Print, Stop}
use Rattle.fade.specs.Run.{most_piece, most_reads, Next, if_written, AfterFeed, PieceTurn, AfterRead, AllAccepted, IsRead, pieces_of, After, Written, Turns, Turn}

abbrev pub Accepted : Call → Type 0
Accepted c = is_accepted c ≡ true

one_is : (P : Call → Type 0) (c : Call) → P c → All P (c ∷ [])
one_is P c h = All-cons P c [] h (All-nil P)

-- a piece that was fed, and what its turn prints
module _ (s : State) (p out : List ℕ) (step : Step) (s' : State) (out' : List ℕ) (a : PieceTurn s p out step s' out') where
  abbrev call : Call
  call = record { piece = p; out = out; returned = fed s p (length out); out_after = out' }

  call_made : Calls FeedEffect s (call ∷ [])
  unfolding Calls
  call_made = (record { result = refl; output = a.output }, tt)

  call_state : s' ≡ state_of s (call ∷ [])
  unfolding state_of
  call_state = a.state_is

  call_read : (input input' : Option (List ℕ)) → Consumes input input' p → Consumes input input' (pieces_of (call ∷ []))
  unfolding pieces_of
  call_read input input' r = rw append-nil r

  -- where a step prints, its feed was accepted and wrote that many bytes
  accepted : (n : ℕ) → step ≡ Print n → verdict s p (length out) ≡ Ok n
  accepted n e = by (verdict s p (length out)) refl a.step_is
    where
      by : (v : Result ℕ Cause) → verdict s p (length out) ≡ v → AfterFeed v step → verdict s p (length out) ≡ Ok n
      by (Ok m) is f = cc
      by (Err TooManyLines) is f = absurd cc
      by (Err Broken) is f = absurd f
      by (Err NoRoom) is f = absurd f

  -- where a step stops, its feed was refused with 6
  refused : (end : End) → step ≡ Stop end → (verdict s p (length out) ≡ Err TooManyLines) × (end ≡ End.TooManyLines)
  refused end e = by (verdict s p (length out)) refl a.step_is
    where
      by : (v : Result ℕ Cause) → verdict s p (length out) ≡ v → AfterFeed v step → (verdict s p (length out) ≡ Err TooManyLines) × (end ≡ End.TooManyLines)
      by (Ok m) is f = absurd cc
      by (Err TooManyLines) is f = (is, cc)
      by (Err Broken) is f = absurd f
      by (Err NoRoom) is f = absurd f

  print_within : (n : ℕ) → step ≡ Print n → n ≤ length out
  print_within n e = wrote_within s p (length out) n (accepted n e)

  printed : (n : ℕ) → step ≡ Print n → wrote_all (call ∷ []) ≡ take n out'
  unfolding wrote_all
  printed n e = rw (accepted n e, append-nil)

  none_printed : (end : End) → step ≡ Stop end → wrote_all (call ∷ []) ≡ []
  unfolding wrote_all
  none_printed end e = rw (refused end e).0 refl

-- A turn that read `got`: by what comes after the read, it is a turn with no call or one.
module _ (got : Result ℕ NotDone) (s : State) (l out : List ℕ) (s' : State) (out' : List ℕ) (r : Result Step Failure) (a : AfterRead got s l out r s' out') (input input' : Option (List ℕ)) (bound : ReadsAtMost got l) (bytes : ReadConsumes input input' got l) (stands : IfErr got (GivenUp ReadAgain)) (some : 0 < length l) (most : length l ≤ most_piece) where
  -- the read failed
  pub turn_failed : (f : Failure) → r ≡ Err f → (output : Option (List ℕ)) → (cs : List Call) × Turn s s' input input' output output cs (Err f)
  unfolding Calls state_of pieces_of wrote_all
  turn_failed = by got a bytes stands
    where
      by : (got : Result ℕ NotDone) → AfterRead got s l out r s' out' → ReadConsumes input input' got l → IfErr got (GivenUp ReadAgain) → (f : Failure) → r ≡ Err f → (output : Option (List ℕ)) → (cs : List Call) × Turn s s' input input' output output cs (Err f)
      by (Err e) (u, is) keeps stands f fails output =
          let f_is : f ≡ NotRead e = cc in
          rw f_is (
            [],
            record {
              turns = record {
                made = tt;
                state_is = u.state_is;
                pieces = All-nil IsRead;
                read = Consumes-kept input input input' [] (Consumes-nil input) keeps;
                written = Appends-nil output;
                after = (All-nil Accepted, stands);
              };
              at_most_one = omega arith;
              one = λ e. absurd cc;
            },
          )
      by (Ok zero) (u, (end, (is, number_is))) b stands f fails output = absurd cc
      by (Ok (suc k)) (step, (is, t)) b stands f fails output = absurd cc

  -- the reading ended
  pub turn_ended : (end : End) → r ≡ Ok (Stop end) → (output : Option (List ℕ)) → (cs : List Call) × Turn s s' input input' output output cs (Ok (Some end))
  unfolding Calls state_of pieces_of wrote_all
  turn_ended = by got a bound bytes
    where
      by : (got : Result ℕ NotDone) → AfterRead got s l out r s' out' → ReadsAtMost got l → ReadConsumes input input' got l → (end : End) → r ≡ Ok (Stop end) → (output : Option (List ℕ)) → (cs : List Call) × Turn s s' input input' output output cs (Ok (Some end))
      by (Err e) (u, is) n b end ends output = absurd cc
      by (Ok zero) (u, (end', (is, number_is))) n b end ends output =
          let e : end' ≡ end = cc in (
            [],
            record {
              turns = record {
                made = tt;
                state_is = u.state_is;
                pieces = All-nil IsRead;
                read = b.0;
                written = Appends-nil output;
                after = inl (record { nothing_left = b.1 refl some; all_accepted = All-nil Accepted; number_is = rw e at number_is });
              };
              at_most_one = omega arith;
              one = λ e. absurd cc;
            },
          )
      by (Ok (suc k)) (step, (is, t)) n b end ends output =
          let e : step ≡ Stop end = cc in
          let c = call s (take (suc k) l) out step s' out' t in (
            c ∷ [],
            record {
              turns = record {
                made = call_made s (take (suc k) l) out step s' out' t;
                state_is = call_state s (take (suc k) l) out step s' out' t;
                pieces = one_is IsRead c (record { some = omega (arith, n.1); at_most = omega (arith, n.0, n.1) });
                read = call_read s (take (suc k) l) out step s' out' t input input' b.0;
                written = rw (none_printed s (take (suc k) l) out step s' out' t end e) (Appends-nil output);
                after = inr (record {
                  before = [];
                  last = c;
                  calls_are = refl;
                  before_accepted = All-nil Accepted;
                  last_refused = (refused s (take (suc k) l) out step s' out' t end e).0;
                  number_is = rw (refused s (take (suc k) l) out step s' out' t end e).1 refl;
                });
              };
              at_most_one = omega arith;
              one = λ e. absurd cc;
            },
          )

  -- n bytes of answers are printed, and what was written of them was told
  pub turn_within : (n : ℕ) → r ≡ Ok (Print n) → n ≤ length out
  turn_within n prints = by got a
    where
      by : (got : Result ℕ NotDone) → AfterRead got s l out r s' out' → n ≤ length out
      by (Err e) (u, is) = absurd cc
      by (Ok zero) (u, (end, (is, number_is))) = absurd cc
      by (Ok (suc k)) (step, (is, t)) = let e : step ≡ Print n = cc in print_within s (take (suc k) l) out step s' out' t n e

  pub turn_printed : (n : ℕ) → r ≡ Ok (Print n) → (output output' : Option (List ℕ)) (w : Result Unit NotDone) → ((k : ℕ) × Appends output output' (take k (take n out'))) → OnOk w (Appends output output' (take n out')) → IfErr w (GivenUp WriteAgain) → (cs : List Call) × Turn s s' input input' output output' cs (if_written None w)
  turn_printed n prints output output' = by got a bound bytes
    where
      by : (got : Result ℕ NotDone) → AfterRead got s l out r s' out' → ReadsAtMost got l → ReadConsumes input input' got l → (w : Result Unit NotDone) → ((k : ℕ) × Appends output output' (take k (take n out'))) → OnOk w (Appends output output' (take n out')) → IfErr w (GivenUp WriteAgain) → (cs : List Call) × Turn s s' input input' output output' cs (if_written None w)
      by (Err e) (u, is) b c w front whole stands = absurd cc
      by (Ok zero) (u, (end, (is, number_is))) b c w front whole stands = absurd cc
      by (Ok (suc k)) (step, (is, t)) m b w front whole stands =
          let e : step ≡ Print n = cc in
          let c = call s (take (suc k) l) out step s' out' t in
          let text = printed s (take (suc k) l) out step s' out' t n e in
          let ok : is_accepted c ≡ true = rw (accepted s (take (suc k) l) out step s' out' t n e) refl in
          let turns : (next : Next) → Written next output output' (wrote_all (c ∷ [])) → After next input' s (c ∷ []) → Turns s s' input input' output output' (c ∷ []) next
          = λ next written after. record {
            made = call_made s (take (suc k) l) out step s' out' t;
            state_is = call_state s (take (suc k) l) out step s' out' t;
            pieces = one_is IsRead c (record { some = omega (arith, m.1); at_most = omega (arith, m.0, m.1) });
            read = call_read s (take (suc k) l) out step s' out' t input input' b.0;
            written = written;
            after = after;
          } in
          elim w as (λ w. OnOk w (Appends output output' (take n out')) → IfErr w (GivenUp WriteAgain) → (cs : List Call) × Turn s s' input input' output output' cs (if_written None w)) [
            | Ok u ↦ λ h k. (c ∷ [], record { turns = turns (Ok None) (rw text h) (one_is Accepted c ok); at_most_one = omega arith; one = λ e. refl })
            | Err f ↦ λ h k. (c ∷ [], record { turns = turns (Err (NotWritten f)) (rw text front) (one_is Accepted c ok, k); at_most_one = omega arith; one = λ e. absurd cc })
          ] whole stands

-- turns one after another
calls_append : (s : State) (cs ds : List Call) → Calls FeedEffect s cs → Calls FeedEffect (state_of s cs) ds → Calls FeedEffect s (cs ++ ds)
unfolding Calls state_of
calls_append s [] ds m n = n
calls_append s (c ∷ cs) ds (d, m) n = (d, calls_append c.returned.state cs ds m n)

state_append : (s : State) (cs ds : List Call) → state_of s (cs ++ ds) ≡ state_of (state_of s cs) ds
unfolding state_of
state_append s [] ds = refl
state_append s (c ∷ cs) ds = state_append c.returned.state cs ds

pub pieces_append : (cs ds : List Call) → pieces_of (cs ++ ds) ≡ pieces_of cs ++ pieces_of ds
unfolding pieces_of
pieces_append [] ds = refl
pieces_append (c ∷ cs) ds = rw (pieces_append cs ds, append_assoc)

wrote_append : (cs ds : List Call) → wrote_all (cs ++ ds) ≡ wrote_all cs ++ wrote_all ds
unfolding wrote_all
wrote_append [] ds = refl
wrote_append (c ∷ cs) ds = rw (wrote_append cs ds, append_assoc)

-- what was written of the answers to earlier turns, and then of later ones
written_append : (next : Next) (output output' output'' : Option (List ℕ)) (a b : List ℕ) → Appends output output' a → Written next output' output'' b → Written next output output'' (a ++ b)
written_append (Ok next) output output' output'' a b h w = Appends-trans output output' output'' a b h w
written_append (Err (NotRead e)) output output' output'' a b h w = Appends-trans output output' output'' a b h w
written_append (Err (NotWritten e)) output output' output'' a b h (k, w) = (length a + k, rw (take-append-add a b k) (Appends-trans output output' output'' a (take k b) h w))
written_append (Err OutOfReads) output output' output'' a b h w = Appends-trans output output' output'' a b h w

-- what comes after later turns
after_append : (next : Next) (input : Option (List ℕ)) (s : State) (cs ds : List Call) → AllAccepted cs → length ds ≤ 1 → After next input (state_of s cs) ds → After next input s (cs ++ ds)
after_append (Ok None) input s cs ds es few h = All-append Accepted cs ds es h
after_append (Ok (Some end)) input s cs ds es few (inl i) =
    inl (record { nothing_left = i.nothing_left; all_accepted = All-append Accepted cs ds es i.all_accepted; number_is = rw state_append i.number_is })
after_append (Ok (Some end)) input s cs ds es few (inr i) =
    inr (record {
      before = cs ++ i.before;
      last = i.last;
      calls_are = rw i.calls_are (sym (append_assoc cs i.before (i.last ∷ [])));
      before_accepted = All-append Accepted cs i.before es i.before_accepted;
      last_refused = i.last_refused;
      number_is = i.number_is;
    })
after_append (Err (NotRead e)) input s cs ds es few (h, stands) = (All-append Accepted cs ds es h, stands)
after_append (Err (NotWritten e)) input s cs ds es few (h, stands) = (All-append Accepted cs ds es h, stands)
after_append (Err OutOfReads) input s cs ds es few (h, many) = absurd (omega arith)

pub turns_append : (next : Next) (s s' s'' : State) (input input' input'' output output' output'' : Option (List ℕ)) (cs ds : List Call) → Turns s s' input input' output output' cs (Ok None) → length ds ≤ 1 → Turns s' s'' input' input'' output' output'' ds next → Turns s s'' input input'' output output'' (cs ++ ds) next
turns_append next s s' s'' input input' input'' output output' output'' cs ds t few u = record {
  made = calls_append s cs ds t.made (rw t.state_is at u.made);
  state_is = rw (state_append s cs ds, ← t.state_is) u.state_is;
  pieces = All-append IsRead cs ds t.pieces u.pieces;
  read = rw (pieces_append cs ds) (Consumes-trans input input' input'' (pieces_of cs) (pieces_of ds) t.read u.read);
  written = rw (wrote_append cs ds) (written_append next output output' output'' (wrote_all cs) (wrote_all ds) t.written u.written);
  after = after_append next input'' s cs ds t.after few (rw t.state_is at u.after);
}

-- no turn
pub no_turns : (s : State) (input output : Option (List ℕ)) → Turns s s input input output output [] (Ok None)
unfolding Calls state_of pieces_of wrote_all
no_turns s input output = record { made = tt; state_is = refl; pieces = All-nil IsRead; read = Consumes-nil input; written = Appends-nil output; after = All-nil Accepted }

-- as many turns as can be counted
pub out_of_reads : (s s' : State) (input input' output output' : Option (List ℕ)) (cs : List Call) → Turns s s' input input' output output' cs (Ok None) → length cs ≡ most_reads → Turns s s' input input' output output' cs (Err OutOfReads)
out_of_reads s s' input input' output output' cs t many = record {
  made = t.made;
  state_is = t.state_is;
  pieces = t.pieces;
  read = t.read;
  written = t.written;
  after = (t.after, many);
}

-- a text that was written whole, or a front of it
pub if_written_all : {T : Type 0} (next : T) (w : Result Unit NotDone) (output output' : Option (List ℕ)) (text : List ℕ) → ((k : ℕ) × Appends output output' (take k text)) → OnOk w (Appends output output' text) → Written (if_written next w) output output' text
if_written_all next (Ok u) output output' text front whole = whole
if_written_all next (Err e) output output' text front whole = front
