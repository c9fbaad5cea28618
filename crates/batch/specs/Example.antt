-- Document 01, "One pair, one answer": the example, "For the two lines [..] it prints", computed from the definitions.
use Rattle.std.specs.Prelude.{ℕ, ◌+◌, ◌≡◌, Ok, Err, List, [], ◌∷◌, ◌++◌, map, drop, replicate, codes}
use Rattle.state.specs.declared.State.{State}
use Rattle.scan.specs.Complete.{line_feed}
use Rattle.state.specs.Holding.{zeros, tail_of, zero_tallies, fresh}
use Rattle.piece.specs.Piece.{most_lines, state_after_piece}
use Rattle.batch.specs.declared.Refused.TheVariants.{Broken, TooManyLines, NoRoom}
use Rattle.batch.specs.declared.NotClosed.TheVariants.{BrokenState, Unfinished}
use Rattle.batch.specs.Feed.{verdict, closed}
use Rattle.batch.specs.Input.{whole_output}

-- "the two lines `id=7 x=3f000000 y=40000000` and `id=07 x=3f000000 y=40000000`"
abbrev pub example_input : List ℕ
example_input =
    codes "id=7 x=3f000000 y=40000000\n" ++
    codes "id=07 x=3f000000 y=40000000\n"

-- the three lines that are printed
abbrev pub example_output : List ℕ
example_output =
    codes "id=7 r=40100000 via=whole\n" ++
    codes "bad=2\n" ++
    codes "lines=2 rule=0 whole=1 edge=0 fast=0 slow=0 bad=1\n"

abbrev pub Example : Type 0
Example = whole_output example_input ≡ example_output

-- a fresh state, but for the first byte of its tail and the count
abbrev pub with_tail : ℕ → ℕ → State
with_tail byte count =
    record { tail = record { bytes = byte ∷ drop 1 zeros; count = count }; lines = 0; tallies = zero_tallies }

-- a state for each part of row 5: "tail count over 31, byte 10 in the tail, a place past the count (or any place, at
-- 31) not zero, or tallies not adding up to lines"
abbrev pub broken_states : List State
broken_states =
    with_tail 0 32 ∷
    with_tail 10 1 ∷
    with_tail 1 0 ∷
    with_tail 1 31 ∷
    record { tail = tail_of []; lines = 1; tallies = zero_tallies } ∷ []

-- "Each number is returned in its row's case": there are calls that are answered with each, so that no condition on an
-- answer is one that never holds.
pub record EachAnswer : Type 0 where
  -- an accepted feed, whose output is just long enough
  pub accepted : verdict fresh example_input 32 ≡ Ok 32
  -- 7, with an output that is one byte shorter
  pub seven : verdict fresh example_input 31 ≡ Err NoRoom
  -- 6, for a piece of 4,294,967,296 empty lines
  pub six : (room : ℕ) → verdict fresh (replicate (most_lines + 1) line_feed) room ≡ Err TooManyLines
  -- 5, for each of its states
  pub five : (p : List ℕ) (room : ℕ) → map (λ s. verdict s p room) broken_states ≡ replicate 5 (Err Broken)
  -- a close is accepted after whole lines, and answered with 8 and 5
  pub closed_whole : closed (state_after_piece fresh example_input) ≡ Ok tt
  pub close_eight : closed (state_after_piece fresh (codes "id=7")) ≡ Err Unfinished
  pub close_five : map closed broken_states ≡ replicate 5 (Err BrokenState)
