-- What is gone from the text was written. After each try another was to follow.
use Rattle.std.proofs.Common.{◌≡◌, ℕ, List, length, take, drop}
use Rattle.std.specs.Prelude.{All, Result}
use Rattle.std.specs.declared.io.Error.{Error}
use Rattle.std.specs.Io.KnownBytes.{Appends}
use Rattle.fade.specs.Stream.{WriteAgain}
use Rattle.fade.proofs.stream.write_whole.Given as goal

abbrev pub invariant-loop-tries : goal.invariant-loop-tries
invariant-loop-tries g l =
    ((k : ℕ) × (l.rest ≡ drop k l.text) × Appends (g.W.Write.contents l.initial.output) (g.W.Write.contents l.output) (take k l.text))
    × ((answers : List (Result ℕ Error)) × (length answers ≡ l._tries) × All WriteAgain answers)
