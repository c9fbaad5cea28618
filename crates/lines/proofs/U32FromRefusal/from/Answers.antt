-- `from` meets its contract, refusal by refusal. Assumes nothing.
use denote.Enum.Declared.{tag_of}
use mathlib.Core.Path.{◌≡◌, refl}
use Prim.Native.Nat.{◌+◌}
use Rattle.lines.specs.Format.{refusal_number}
use Rattle.lines.specs.contracts.Refusal.{the_type}
use Rattle.lines.specs.declared.Refusal.{Refusal}
use Rattle.lines.specs.declared.Refusal.TheVariants.{TooLong, NoId, NoX, NoY}
use Rattle.lines.proofs.U32FromRefusal.from.Goals as goal

numbered : (r : Refusal) → tag_of the_type r + 1 ≡ refusal_number r
unfolding refusal_number
numbered TooLong = refl
numbered NoId = refl
numbered NoX = refl
numbered NoY = refl

pub returns : goal.returns
returns c = numbered c.args.refusal
