-- The piece keeps its length, and what is tried again has read nothing. Each try was answered by an error that passes.
use Rattle.std.proofs.Common.{◌≡◌, ℕ, List, length}
use Rattle.std.specs.Prelude.{All, Result}
use Rattle.std.specs.declared.io.Error.{Error}
use Rattle.std.specs.Io.KnownBytes.{Keeps}
use Rattle.fade.specs.Stream.{ReadAgain}
use Rattle.fade.proofs.stream.read_some.Given as goal

abbrev pub invariant-loop-tries : goal.invariant-loop-tries
invariant-loop-tries g l =
    (length l.piece ≡ length l.initial.piece)
    × Keeps (g.R.Read.remaining l.initial.input) (g.R.Read.remaining l.input)
    × ((answers : List (Result ℕ Error)) × (length answers ≡ l._tries) × All ReadAgain answers)
