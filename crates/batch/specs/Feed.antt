-- Document 01, "Batch lines and the reader's state": what one call of feed or close does, rows 5 to 8 of the table.
use Rattle.std.specs.Prelude.{ℕ, ◌+◌, ◌≡◌, Result, Ok, Err, cond, List, ◌++◌, eqb, ltb, length, drop}
use Rattle.scan.specs.Complete.{line_feeds}
use Rattle.state.specs.Holding.{broken}
use Rattle.state.specs.declared.State.{State}
use Rattle.piece.specs.Piece.{most_lines, answer_lines, added, state_after_piece}
use Rattle.batch.specs.declared.Refused.{Refused}
use Rattle.batch.specs.declared.Refused.TheVariants.{Broken, TooManyLines, NoRoom}
use Rattle.batch.specs.declared.Fed.{Fed}
use Rattle.batch.specs.declared.NotClosed.{NotClosed}
use Rattle.batch.specs.declared.NotClosed.TheVariants.{BrokenState, Unfinished}

-- what feed answers about a piece p and an output of a given length: "feed in the order 5 to 7"
unfoldable pub verdict : State → List ℕ → ℕ → Result ℕ Refused
verdict s p room =
    cond (broken s) (Err Broken)
    (cond (ltb most_lines (s.lines + line_feeds p)) (Err TooManyLines)
    (cond (ltb room (length (answer_lines (added s p)))) (Err NoRoom) (Ok (length (answer_lines (added s p))))))

-- the numbers of the refusals; 0 stands for an accepted feed
abbrev pub feed_number : Result ℕ Refused → ℕ
feed_number (Ok n) = 0
feed_number (Err Broken) = 5
feed_number (Err TooManyLines) = 6
feed_number (Err NoRoom) = 7

-- the state that comes back: a refused feed leaves it as it was
abbrev pub state_after : Result ℕ Refused → State → List ℕ → State
state_after (Ok n) s p = state_after_piece s p
state_after (Err e) s p = s

-- the output as it stands afterwards: the answer lines at its front, and the bytes after them as they were; a refused
-- feed leaves all of it
abbrev pub out_after : Result ℕ Refused → State → List ℕ → List ℕ → List ℕ
out_after (Ok n) s p out = answer_lines (added s p) ++ drop n out
out_after (Err e) s p out = out

-- what feed answers
abbrev pub fed : State → List ℕ → ℕ → Fed
fed s p room = record { state = state_after (verdict s p room) s p; verdict = verdict s p room }

-- what a call of feed did: an equation for its result, and one for every byte of the output
pub record FeedEffect (s : State) (p out : List ℕ) (r : Fed) (out' : List ℕ) : Type 0 where
  pub result : r ≡ fed s p (length out)
  pub output : out' ≡ out_after r.verdict s p out

-- what close answers: "close in the order 5, 8"
abbrev pub closed : State → Result Unit NotClosed
closed s = cond (broken s) (Err BrokenState) (cond (eqb s.tail.count 0) (Ok tt) (Err Unfinished))

-- the numbers of the refusals; 0 stands for an accepted close
abbrev pub close_number : Result Unit NotClosed → ℕ
close_number (Ok u) = 0
close_number (Err BrokenState) = 5
close_number (Err Unfinished) = 8
