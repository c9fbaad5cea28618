-- What a whole input comes to, in the words of demand 3 and of document 01, "One pair, one answer".
use Rattle.std.specs.Prelude.{ℕ, cond, eqb, List, ◌++◌, length}
use Rattle.state.specs.declared.State.{State}
use Rattle.scan.specs.Complete.{lines, rest}
use Rattle.state.specs.Holding.{tail_of}
use Rattle.piece.specs.Tally.{tallies_of}
use Rattle.piece.specs.Piece.{replies, answer_lines}
use Rattle.totals.specs.Totals.{totals, end_line}

-- The state after the bytes of an input, in demand 3's words: "The state's count of lines is the number of those
-- lines, and the six tallies count them by route or as bad. The unfinished tail is held, or marked if over-long."
abbrev pub state_after_input : List ℕ → State
state_after_input bytes =
    record { tail = tail_of (rest bytes); lines = length (lines bytes); tallies = tallies_of (replies (lines bytes)) }

-- What the program prints for an input: "prints the answer lines, then one line of totals, then `end=8` if a tail is
-- unfinished".
abbrev pub whole_output : List ℕ → List ℕ
whole_output bytes =
    answer_lines (lines bytes)
    ++ (totals (state_after_input bytes) ++ end_line (cond (eqb (length (rest bytes)) 0) 0 8))
