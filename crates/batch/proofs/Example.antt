-- The example of document 01, computed. Assumes nothing.
use Rattle.std.proofs.Common.{ℕ, ◌≡◌, refl, ap, ◌∙◌, List, [], ◌∷◌, ◌++◌, length, cond, eqb}
use Rattle.std.specs.Prelude.{codes, Ok, Err, length, cond, replicate}
use Rattle.std.specs.Float.{binary32, nan}
use Rattle.std.specs.Float.Ieee.{of_bits, to_bits, is_nan}
use lib.ListN.{get_or}
use Rattle.compound.specs.Answer.{Outcome, word}
use Rattle.compound.specs.declared.Route.TheVariants.{Whole as whole}
use Rattle.compound.proofs.Examples.{starred_pairs}
use Rattle.text.specs.Digits.{glyph, digits, places, decimal, hex}
use Rattle.lines.specs.Format.{refusal_number}
use Rattle.lines.proofs.Examples.{seven, seven_read, leading_zero}
use Rattle.replies.specs.Reply.{Reply, answer, bad, reply_to_read, answer_pattern, reply_to, answer_line, ending}
use Rattle.std.proofs.Common.{◌<◌, ◌+◌, arith, eqb}
use native.Mathlib.Nat.{mul-one}
use Rattle.std.proofs.lemmas.Grind.{common_steps}
use Rattle.std.proofs.lemmas.List.Folds.{sum_by-replicate}
use Rattle.scan.specs.Complete.{line_feed, lines_from, rest_from, lines, rest, line_feeds}
use Rattle.state.specs.Holding.{fresh, tail_of, held_line, zeros, total, broken, unused}
use Rattle.piece.specs.Tally.{tallies_with}
use Rattle.piece.specs.Piece.{replies, joined_answers, answer_lines, added, state_after_piece, most_lines}
use Rattle.totals.specs.Totals.{totals, end_line}
use Rattle.batch.specs.declared.Refused.TheVariants.{TooManyLines}
use Rattle.batch.specs.Feed.{verdict, closed}
use Rattle.batch.specs.Input.{state_after_input}
use Rattle.batch.specs.Example.{example_input, Example, EachAnswer}

-- the two lines, and what they are answered with
abbrev zero_seven : List ℕ
zero_seven = codes "id=07 x=3f000000 y=40000000"

two_lines : lines example_input ≡ seven ∷ zero_seven ∷ []
unfolding lines lines_from
two_lines = refl

abbrev first : Reply
first = answer 7 (record { via = whole; value = of_bits binary32 0x40100000 })

first_is : reply_to seven ≡ first
unfolding reply_to reply_to_read refusal_number
first_is =
    ap reply_to_read seven_read
    ∙ ap (λ (o : Outcome). answer 7 o) (ap (λ (l : List Outcome). get_or l 6 (record { via = whole; value = nan })) starred_pairs)

second_is : reply_to zero_seven ≡ bad 2
unfolding reply_to reply_to_read refusal_number
second_is = ap reply_to_read leading_zero

two_replies : replies (lines example_input) ≡ first ∷ bad 2 ∷ []
unfolding replies
two_replies = rw (two_lines, first_is, second_is)

-- the state after them
state_is : state_after_piece fresh example_input ≡ record { tail = record { bytes = zeros; count = 0 }; lines = 2; tallies = record { rule = 0; whole = 1; edge = 0; fast = 0; slow = 0; bad = 1 } }
unfolding state_after_piece tail_of held_line rest_from added line_feeds lines tallies_with
state_is = rw two_replies refl

input_state : state_after_input example_input ≡ record { tail = record { bytes = zeros; count = 0 }; lines = 2; tallies = record { rule = 0; whole = 1; edge = 0; fast = 0; slow = 0; bad = 1 } }
unfolding tail_of rest rest_from tallies_with
input_state = rw (two_replies, two_lines) refl

nothing_left : rest example_input ≡ []
unfolding rest rest_from
nothing_left = refl

-- the two answer lines, and the line of totals
two_answers : List ℕ
two_answers = codes "id=7 r=40100000 via=whole\n" ++ codes "bad=2\n"

answers_are : answer_lines (lines example_input) ≡ two_answers
unfolding answer_lines joined_answers answer_line ending answer_pattern word decimal hex digits places glyph of_bits to_bits is_nan two_answers
answers_are = rw two_replies refl

totals_line : List ℕ
totals_line = codes "lines=2 rule=0 whole=1 edge=0 fast=0 slow=0 bad=1\n"

totals_of_two : totals (record { tail = record { bytes = zeros; count = 0 }; lines = 2; tallies = record { rule = 0; whole = 1; edge = 0; fast = 0; slow = 0; bad = 1 } }) ≡ totals_line
unfolding totals_line totals decimal digits places glyph
totals_of_two = refl

totals_are : totals (state_after_input example_input) ≡ totals_line
totals_are = ap totals input_state ∙ totals_of_two

pub example : Example
unfolding two_answers totals_line
example =
    ap (λ (a : List ℕ). a ++ (totals (state_after_input example_input) ++ end_line (cond (eqb (length (rest example_input)) 0) 0 8))) answers_are
    ∙ ap (λ (t : List ℕ). two_answers ++ (t ++ end_line (cond (eqb (length (rest example_input)) 0) 0 8))) totals_are
    ∙ ap (λ (r : List ℕ). two_answers ++ (totals_line ++ end_line (cond (eqb (length r) 0) 0 8))) nothing_left

-- as many line feeds as are asked for
feeds_replicate : (n : ℕ) → line_feeds (replicate n line_feed) ≡ n
unfolding line_feeds
feeds_replicate n = sum_by-replicate (λ b. cond (eqb b line_feed) 1 0) n line_feed ∙ mul-one n

-- too many are refused with 6, whatever the room is
six_of : (p : List ℕ) (room : ℕ) → most_lines < line_feeds p → verdict fresh p room ≡ Err TooManyLines
unfolding verdict broken line_feeds unused total
six_of p room h = grind (arith, common_steps, h)

six_feeds : (n : ℕ) → most_lines < n → (room : ℕ) → verdict fresh (replicate n line_feed) room ≡ Err TooManyLines
six_feeds n h room = six_of (replicate n line_feed) room (rw feeds_replicate h)

six : (room : ℕ) → verdict fresh (replicate (most_lines + 1) line_feed) room ≡ Err TooManyLines
six = six_feeds (most_lines + 1) (omega arith)

-- the lines that they add to a fresh state
added_is : added fresh example_input ≡ lines example_input
unfolding added held_line lines
added_is = refl

length_is : length (answer_lines (added fresh example_input)) ≡ 32
unfolding answer_lines joined_answers answer_line ending answer_pattern word decimal hex digits places glyph of_bits to_bits is_nan
length_is = rw (added_is, two_replies) refl

closed_whole : closed (state_after_piece fresh example_input) ≡ Ok tt
unfolding broken line_feeds unused total
closed_whole = rw state_is refl

pub each_answer : EachAnswer
unfolding verdict broken line_feeds unused total state_after_piece tail_of held_line rest_from added lines_from tallies_with replies
each_answer = record {
  accepted = rw length_is refl;
  seven = rw length_is refl;
  six = six;
  five = λ p room. refl;
  closed_whole = closed_whole;
  close_eight = refl;
  close_five = refl;
}
