-- Document 01, "Batch lines and the reader's state": a line as the definitions answer it, computed. Assumes nothing.
use mathlib.Core.Path.{◌≡◌, ap, ◌∙◌}
use mathlib.Core.List.{List}
use lib.Ieee.{nan, is_nan, of_bits, to_bits}
use lib.ListN.{get_or}
use Rattle.std.specs.Prelude.{Result, codes}
use Rattle.compound.specs.declared.Route.TheVariants.{Whole as whole}
use Rattle.compound.specs.Answer.{Outcome, word}
use Rattle.compound.proofs.Examples.{starred_pairs}
use Rattle.text.specs.Digits.{glyph, digits, places, decimal, hex}
use Rattle.lines.specs.declared.Pair.{Pair}
use Rattle.lines.specs.declared.Refusal.{Refusal}
use Rattle.lines.proofs.Examples.{seven, seven_read}
use Rattle.replies.specs.Reply.{answer, reply_to_read, reply_to, answer_pattern, ending, answer_line}

-- 1.5^2 is 2.25: it is answered with `id=7 r=40100000 via=whole` and a feed
pub seven_answered :
    answer_line (reply_to seven) ≡ codes "id=7 r=40100000 via=whole\n"
unfolding of_bits to_bits is_nan glyph digits places decimal hex word reply_to_read reply_to answer_pattern ending answer_line
seven_answered =
    ap (λ (r : Result Pair Refusal). answer_line (reply_to_read r)) seven_read ∙ ap (λ (o : Outcome). answer_line (answer 7 o)) (ap (λ (l : List Outcome). get_or l 6 (record { via = whole; value = nan })) starred_pairs)
