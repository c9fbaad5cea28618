-- Document 01, "Batch lines and the reader's state": what a line is answered with, and the answer line.
use Rattle.std.specs.Prelude.{ℕ, cond, List, ◌++◌, Float, Result, Ok, Err, codes}
use Rattle.std.specs.Float.{binary32}
use Rattle.std.specs.Float.Ieee.{is_nan, of_bits, to_bits}
use Rattle.compound.specs.declared.Route.{Route}
use Rattle.compound.specs.Answer.{Outcome, outcome, word}
use Rattle.compound.specs.Route.{compound}
use Rattle.text.specs.Digits.{decimal, hex}
use Rattle.lines.specs.Format.{id_key, read_line, refusal_number}
use Rattle.lines.specs.declared.Pair.{Pair}
use Rattle.lines.specs.declared.Refusal.{Refusal}
use Rattle.replies.specs.declared.Answered.{Answered}

-- what a line is answered with: its id and the answer with its route, or the number of its refusal
pub data Reply : Type 0 where
  answer : ℕ → Outcome → Reply
  bad : ℕ → Reply

-- "the D of its line, the answer for its x and y, and the route that these take"; or the number
unfoldable pub reply_to_read : Result Pair Refusal → Reply
reply_to_read (Ok p) = answer p.id (compound (of_bits binary32 p.x) (of_bits binary32 p.y))
reply_to_read (Err r) = bad (refusal_number r)

-- what a line of bytes is answered with
unfoldable pub reply_to : List ℕ → Reply
reply_to l = reply_to_read (read_line l)

-- the end of an answer line: ` via=W` and the feed
unfoldable pub ending : Route → List ℕ
ending via = codes " via=" ++ word via ++ codes "\n"

-- the pattern of an answer: "A NaN answer is the pattern 7fc00000."
unfoldable pub answer_pattern : Float → ℕ
answer_pattern r = cond (is_nan r) 0x7fc00000 (to_bits binary32 r)

-- "An answer line is `id=D r=H via=W`, or `bad=N`, and a line feed."
unfoldable pub answer_line : Reply → List ℕ
answer_line (answer d o) = id_key ++ decimal d ++ (codes " r=" ++ hex (answer_pattern o.value)) ++ ending o.via
answer_line (bad n) = codes "bad=" ++ decimal n ++ codes "\n"

-- what the code's value says: an answer, or a refusal, whose number `number` gives
abbrev pub reply_said : {R : Type 0} → (R → ℕ) → Result Answered R → Reply
reply_said number (Ok a) = answer a.id (outcome a.answer)
reply_said number (Err r) = bad (number r)

-- what it says where the refusal is one of the four
abbrev pub reply_of : Result Answered Refusal → Reply
reply_of r = reply_said refusal_number r
