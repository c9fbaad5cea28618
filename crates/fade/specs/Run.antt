-- Document 01, "One pair, one answer": what the batch program does between what it reads and what it prints. `input`
-- is what the input still has and `output` what the output holds: `Some` bytes where these are known, as over memory,
-- and `None` over standard input and output. With a prime they are as they stand afterwards. The same code runs over
-- both.
use Rattle.std.specs.Prelude.{ℕ, zero, suc, ◌≡◌, ◌<◌, ◌≤◌, true, ◌⊎◌, List, [], ◌∷◌, ◌++◌}
use Rattle.std.specs.Prelude.{Option, None, Some, Result, Ok, Err}
use Rattle.std.specs.Prelude.{All, IfErr, MatchResult, take, length}
use Rattle.std.specs.Io.KnownBytes.{Appends, Consumes, IsAtEnd}
use Rattle.state.specs.declared.State.{State}
use Rattle.batch.specs.declared.Refused.{Refused as Cause}
use Rattle.batch.specs.declared.Refused.TheVariants.{Broken, TooManyLines, NoRoom}
use Rattle.state.specs.Holding.{fresh}
use Rattle.scan.specs.Complete.{line_feeds}
use Rattle.piece.specs.Piece.{most_lines}
use Rattle.batch.specs.Feed.{verdict, fed, out_after, FeedEffect, closed, close_number}
use Rattle.totals.specs.Totals.{totals, end_line}
use Rattle.batch.specs.Input.{whole_output}
use Rattle.batch.specs.Series.{Call, Calls, state_of, is_accepted, wrote_all}
use Rattle.fade.specs.Stream.{GivenUp, ReadAgain, WriteAgain}
use Rattle.fade.specs.declared.stream.NotDone.{NotDone}
use Rattle.fade.specs.declared.task.Task.{Task}
use Rattle.fade.specs.declared.task.Task.TheVariants.{AnswerInput, Help, Version, Usage}
use Rattle.fade.specs.declared.run.End.{End}
use Rattle.fade.specs.declared.run.Failure.{Failure}
use Rattle.fade.specs.declared.run.Failure.TheVariants.{NotRead, NotWritten, OutOfReads}
use Rattle.fade.specs.declared.run.Step.{Step}
use Rattle.fade.specs.declared.run.Step.TheVariants.{Print, Stop}

-- "reads standard input in pieces of at most 8,192 bytes"
abbrev pub most_piece : ℕ
most_piece = 8192

-- the most reads, which no run comes to
abbrev pub most_reads : ℕ
most_reads = 0xffff_ffff_ffff_ffff

-- a call whose piece was read: a read of no bytes is the end of the input
pub record IsRead (c : Call) : Type 0 where
  pub some : 0 < length c.piece
  pub at_most : length c.piece ≤ most_piece

-- the number that is printed after the totals, 0 if there is none
abbrev pub end_number : End → ℕ
end_number End.Finished = 0
end_number End.TooManyLines = 6
end_number End.Unfinished = 8

-- what comes next: another read, or the end, or nothing after a failure
abbrev pub Next : Type 0
Next = Result (Option End) Failure

-- what comes after a write: what was to come, or nothing where not all was written
abbrev pub if_written : {T : Type 0} → T → Result Unit NotDone → Result T Failure
if_written next (Ok u) = Ok next
if_written next (Err why) = Err (NotWritten why)

-- what comes after a piece was fed: "A feed refused with 6 ends the reading". 5 and 7 do not come.
abbrev pub AfterFeed : Result ℕ Cause → Step → Type 0
AfterFeed (Ok n) step = step ≡ Print n
AfterFeed (Err TooManyLines) step = step ≡ Stop End.TooManyLines
AfterFeed (Err Broken) step = ⊥
AfterFeed (Err NoRoom) step = ⊥

-- a turn that feeds the piece p to the state s: its state s' is the one that feed returns, what comes next goes by
-- what feed answers, and every byte of the output is as feed leaves it
pub record PieceTurn (s : State) (p out : List ℕ) (step : Step) (s' : State) (out' : List ℕ) : Type 0 where
  pub state_is : s' ≡ (fed s p (length out)).state
  pub step_is : AfterFeed (verdict s p (length out)) step
  pub output : out' ≡ out_after (verdict s p (length out)) s p out

-- a turn that feeds nothing
pub record NothingFed (s : State) (out : List ℕ) (s' : State) (out' : List ℕ) : Type 0 where
  pub state_is : s' ≡ s
  pub output : out' ≡ out

-- A turn after a read that answered `got`, by what it answered: the read failed, the input is at its end, or that
-- many bytes at the front of l were read. After a failure nothing comes; at the end, the number of closing the state.
abbrev pub AfterRead : Result ℕ NotDone → State → List ℕ → List ℕ → Result Step Failure → State → List ℕ → Type 0
AfterRead (Err why) s l out r s' out' = NothingFed s out s' out' × (r ≡ Err (NotRead why))
AfterRead (Ok zero) s l out r s' out' =
    NothingFed s out s' out' × ((end : End) × ((r ≡ Ok (Stop end)) × (end_number end ≡ close_number (closed s))))
AfterRead (Ok (suc k)) s l out r s' out' =
    (step : Step) × ((r ≡ Ok step) × PieceTurn s (take (suc k) l) out step s' out')

-- every call was accepted
abbrev pub AllAccepted : List Call → Type 0
AllAccepted cs = All (λ c. is_accepted c ≡ true) cs

-- the pieces of the calls, joined
unfoldable pub pieces_of : List Call → List ℕ
pieces_of [] = []
pieces_of (c ∷ cs) = c.piece ++ pieces_of cs

-- the input ended: nothing is left of it, and the number is that of closing the state, "then `end=8` if a tail is
-- unfinished"
pub record AtInputEnd (input : Option (List ℕ)) (s : State) (cs : List Call) (n : ℕ) : Type 0 where
  pub nothing_left : IsAtEnd input
  pub all_accepted : AllAccepted cs
  pub number_is : n ≡ close_number (closed (state_of s cs))

-- "A feed refused with 6 ends the reading; after the totals it then prints `end=6` alone."
pub record AtRefusal (cs : List Call) (n : ℕ) : Type 0 where
  pub before : List Call
  pub last : Call
  pub calls_are : cs ≡ before ++ last ∷ []
  pub before_accepted : AllAccepted before
  pub last_refused : last.returned.verdict ≡ Err TooManyLines
  pub number_is : n ≡ 6

-- What is known of the calls from the state s, by what comes after them; `input` is what the input still has. Nothing
-- comes only after a read that failed, a write that failed, or the last read that can be counted.
abbrev pub After : Next → Option (List ℕ) → State → List Call → Type 0
After (Ok None) input s cs = AllAccepted cs
After (Ok (Some end)) input s cs = AtInputEnd input s cs (end_number end) ⊎ AtRefusal cs (end_number end)
After (Err (NotRead why)) input s cs = AllAccepted cs × GivenUp ReadAgain why
After (Err (NotWritten why)) input s cs = AllAccepted cs × GivenUp WriteAgain why
After (Err OutOfReads) input s cs = AllAccepted cs × (length cs ≡ most_reads)

-- What was written of a text: all of it, or where a write failed a front of it
abbrev pub Written : {T : Type 0} → Result T Failure → Option (List ℕ) → Option (List ℕ) → List ℕ → Type 0
Written (Ok next) output output' text = Appends output output' text
Written (Err (NotRead why)) output output' text = Appends output output' text
Written (Err (NotWritten why)) output output' text = (k : ℕ) × Appends output output' (take k text)
Written (Err OutOfReads) output output' text = Appends output output' text

-- Turns from the state s to the state s'. There is a list of calls of feed, as in demand 3, from the one to the other.
-- Their pieces are what was read: the input had `input` and then `input'`. What they wrote was printed: the output had
-- `output` and then `output'`.
pub record Turns (s s' : State) (input input' output output' : Option (List ℕ)) (cs : List Call) (next : Next)
    : Type 0 where
  pub made : Calls FeedEffect s cs
  pub state_is : s' ≡ state_of s cs
  pub pieces : All IsRead cs
  pub read : Consumes input input' (pieces_of cs)
  pub written : Written next output output' (wrote_all cs)
  pub after : After next input' s cs

-- one turn: it fed one piece at most, and just one where another read comes
pub record Turn (s s' : State) (input input' output output' : Option (List ℕ)) (cs : List Call) (next : Next)
    : Type 0 where
  pub turns : Turns s s' input input' output output' cs next
  pub at_most_one : length cs ≤ 1
  pub one : next ≡ Ok None → length cs ≡ 1

-- what comes after the turn that ends the reading
abbrev pub end_or_nothing : Result End Failure → Next
end_or_nothing (Ok end) = Ok (Some end)
end_or_nothing (Err failure) = Err failure

-- the turns up to the one that ends the reading
abbrev pub Run :
    State → State → Option (List ℕ) → Option (List ℕ) → Option (List ℕ) → Option (List ℕ) → List Call
    → Result End Failure → Type 0
Run s s' input input' output output' cs r = Turns s s' input input' output output' cs (end_or_nothing r)

-- What is printed after the answer lines: "then one line of totals, then `end=8` if a tail is unfinished", and "after
-- the totals it then prints `end=6` alone".
abbrev pub last_lines : State → End → List ℕ
last_lines s end = totals s ++ end_line (end_number end)

-- Printing a text as the last of a run: the result says that the run ended so, or that not all was written.
pub record Prints (text : List ℕ) (end : End) (output output' : Option (List ℕ)) (r : Result End Failure) : Type 0 where
  pub result_is : (written : Result Unit NotDone) × ((r ≡ if_written end written) × IfErr written (GivenUp WriteAgain))
  pub written : Written r output output' text

-- printing the last lines of the state s
abbrev pub LastLines : State → End → Option (List ℕ) → Option (List ℕ) → Result End Failure → Type 0
LastLines s end output output' r = Prints (last_lines s end) end output output' r

-- What follows the last turn: the last lines after an end, and nothing after a failure.
abbrev pub AfterRun : Result End Failure → State → Option (List ℕ) → Option (List ℕ) → Result End Failure → Type 0
AfterRun (Ok end) s output output' r = LastLines s end output output' r
AfterRun (Err failure) s output output' r = (r ≡ Err failure) × (output' ≡ output)

-- A whole run: its turns begin with a fresh state, and what follows them are the last lines of the state that they
-- come to. Demand 3 says what the calls wrote and what that state holds.
pub record WholeRun (input input' output output' : Option (List ℕ)) (r : Result End Failure) : Type 0 where
  pub calls : List Call
  pub state : State
  pub after_answers : Option (List ℕ)
  pub ended : Result End Failure
  pub run : Run fresh state input input' output after_answers calls ended
  pub then : AfterRun ended state after_answers output' r

-- the exit status: the end's number, 0 after a whole run, and 1 after a failure
abbrev pub status : Result End Failure → ℕ
status (Ok end) = end_number end
status (Err failure) = 1

-- A run over an input that is known and has no more lines than can be counted, onto an output that is known. Where it
-- did not fail, nothing is left of the input, and the output has grown by what the program prints for it. Where it
-- failed, the output has grown by a front of that.
abbrev pub PrintsAll :
    Option (List ℕ) → Option (List ℕ) → Option (List ℕ) → Option (List ℕ) → Result End Failure → Type 0
PrintsAll input input' output output' r =
    (bytes before : List ℕ) → input ≡ Some bytes → output ≡ Some before → line_feeds bytes ≤ most_lines
    → MatchResult r
    (λ _. (input' ≡ Some []) × (output' ≡ Some (before ++ whole_output bytes)))
    (λ _. (k : ℕ) × (output' ≡ Some (before ++ take k (whole_output bytes))))

-- Doing a task, with the exit status n: help and version print a text and read nothing; an argument that is not known
-- prints nothing on standard output, reads nothing and ends with 2.
abbrev pub Done :
    Task → (help version : List ℕ) → Option (List ℕ) → Option (List ℕ) → Option (List ℕ) → Option (List ℕ) → ℕ → Type 0
Done AnswerInput help version input input' output output' n =
    (r : Result End Failure)
    × ((n ≡ status r) × (WholeRun input input' output output' r × PrintsAll input input' output output' r))
Done Help help version input input' output output' n =
    (r : Result End Failure) × ((n ≡ status r) × (Prints help End.Finished output output' r × (input' ≡ input)))
Done Version help version input input' output output' n =
    (r : Result End Failure) × ((n ≡ status r) × (Prints version End.Finished output output' r × (input' ≡ input)))
Done Usage help version input input' output output' n = (n ≡ 2) × ((output' ≡ output) × (input' ≡ input))
