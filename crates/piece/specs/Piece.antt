-- Document 01, "Batch lines and the reader's state": what a piece adds to a state, and its answer lines.
use Rattle.std.specs.Prelude.{ℕ, ◌+◌, List, map}
use Rattle.std.specs.List.{flat_map}
use Rattle.replies.specs.Reply.{Reply, reply_to, answer_line}
use Rattle.scan.specs.Complete.{lines_from, rest_from, line_feeds}
use Rattle.state.specs.declared.State.{State}
use Rattle.state.specs.Holding.{tail_of, held_line}
use Rattle.piece.specs.Tally.{tallies_with}

-- 4,294,967,295
abbrev pub most_lines : ℕ
most_lines = 0xffff_ffff

-- an answer line is at most so many bytes longer than its line, each with its line feed (`answer_length` in the
-- proofs of `replies`)
abbrev pub answer_growth : ℕ
answer_growth = 5

-- what the lines of a list are answered with, "one for each, in order"
unfoldable pub replies : List (List ℕ) → List Reply
replies ls = map reply_to ls

-- answer lines, joined
unfoldable pub joined_answers : List Reply → List ℕ
joined_answers rs = flat_map answer_line rs

-- "the answer lines of the complete lines": what is written for a list of lines
unfoldable pub answer_lines : List (List ℕ) → List ℕ
answer_lines ls = joined_answers (replies ls)

-- the lines that a piece adds: "its bytes carry on the line that the tail holds"
unfoldable pub added : State → List ℕ → List (List ℕ)
added s p = lines_from (held_line s.tail) p

-- the state after an accepted piece: "what is left after the last line feed is the new tail"
unfoldable pub state_after_piece : State → List ℕ → State
state_after_piece s p =
    record {
      tail = tail_of (rest_from (held_line s.tail) p);
      lines = s.lines + line_feeds p;
      tallies = tallies_with s.tallies (replies (added s p));
    }
