-- The lengths of answer lines. Assumes nothing.
use mathlib.Core.Path.{◌≡◌, refl, ap}
use mathlib.Core.List.{List}
use Prim.Native.Nat.{ℕ, ◌+◌, ◌≤◌, ◌<◌}
use native.Mathlib.Nat.{le_trans}
use native.Mathlib.Omega.{arith}
use borrow.Author.Tests.{lt-ltb}
use lib.ListN.{length, length-append}
use Rattle.std.specs.Prelude.{Result, Ok, Err}
use Rattle.compound.specs.declared.Route.{Route}
use Rattle.compound.specs.declared.Route.TheVariants.{Rule as rule, Whole as whole, Edge as edge, Fast as fast, Slow as slow}
use Rattle.compound.specs.Answer.{Outcome, word}
use Rattle.text.specs.Digits.{places}
use Rattle.lines.specs.Format.{line_of, longest, read_line, refusal_number}
use Rattle.text.proofs.Numerals.{length_decimal, length_hex, places_most}
use Rattle.lines.proofs.BothWays.{both_ways}
use Rattle.replies.specs.Reply.{answer, bad, ending, reply_to_read, answer_pattern, reply_to, answer_line, reply_of}
use Rattle.lines.specs.declared.Pair.{Pair}
use Rattle.lines.specs.declared.Refusal.{Refusal}
use Rattle.lines.specs.declared.Refusal.TheVariants.{TooLong, NoId, NoX, NoY}

-- a route's name has five bytes at most
pub word_most : (v : Route) → length (word v) ≤ 5
unfolding word
word_most rule = omega arith
word_most whole = omega arith
word_most edge = omega arith
word_most fast = omega arith
word_most slow = omega arith

-- an answer line: what it says beside its id and its route takes twenty bytes
pub length_answer : (d : ℕ) (o : Outcome) → length (answer_line (answer d o)) ≡ 20 + places 9 d + length (word o.via)
unfolding answer_line ending
length_answer d o = simp length-append (omega (arith, length_decimal d, length_hex (answer_pattern o.value)))

-- the line of a refusal: its number and five bytes
pub length_bad : (n : ℕ) → length (answer_line (bad n)) ≡ 5 + places 9 n
unfolding answer_line
length_bad n = simp length-append (omega (arith, length_decimal n))

-- the length of an answer line, and that it is small
pub ruleset length_steps = (length_answer, length_bad, word_most, places_most)

-- an accepted line: what it says beside its id takes twenty-five bytes
length_line : (d x y : ℕ) → length (line_of d x y) ≡ 25 + places 9 d
unfolding line_of
length_line d x y = simp length-append (omega (arith, length_decimal d, length_hex x, length_hex y))

-- an accepted line's answer is no longer than the line
answer_most : (l : List ℕ) (d x y : ℕ) (o : Outcome) → l ≡ line_of d x y → length (answer_line (answer d o)) ≤ length l
answer_most l d x y o e = omega (arith, length_answer d o, length_line d x y, ap length e, word_most o.via)

-- what a line is answered with, by the case of what it says
reply_most : (l : List ℕ) (r : Result Pair Refusal) → read_line l ≡ r → length (answer_line (reply_to_read r)) ≤ length l + 1 + 5
unfolding reply_to_read refusal_number places
reply_most l (Ok p) e = le_trans (answer_most l p.id p.x p.y _ (both_ways.nothing_else l p.id p.x p.y e).0) (omega arith)
reply_most l (Err TooLong) e = omega (arith, length_bad 1)
reply_most l (Err NoId) e = omega (arith, length_bad 2)
reply_most l (Err NoX) e = omega (arith, length_bad 3)
reply_most l (Err NoY) e = omega (arith, length_bad 4)

-- an answer line is at most five bytes longer than its line, each with its line feed
pub answer_length : (l : List ℕ) → length (answer_line (reply_to l)) ≤ length l + 1 + 5
unfolding reply_to
answer_length l = reply_most l (read_line l) refl

-- a line over the longest is refused for that
pub over_long_lem : (l : List ℕ) → longest < length l → reply_to l ≡ reply_of (Err TooLong)
unfolding reply_to reply_to_read read_line
over_long_lem l h = rw (lt-ltb longest (length l) h)
