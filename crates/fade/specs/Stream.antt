-- What comes of the answers of a read or a write.
use Rattle.std.specs.Prelude.{ℕ, ◌≡◌, ◌<◌, Bool, true, false, cond, List, length, All}
use Rattle.std.specs.Prelude.{Option, None, Some, Result, Ok, Err}
use Rattle.std.specs.declared.io.Error.{Error}
use Rattle.std.specs.declared.io.ErrorKind.{ErrorKind}
use Rattle.std.specs.declared.io.ErrorKind.TheVariants.{Interrupted, WouldBlock}
use Rattle.std.specs.IoError.{error_kind}
use Rattle.fade.specs.declared.stream.NotDone.{NotDone}
use Rattle.fade.specs.declared.stream.NotDone.TheVariants.{Failed, OutOfTries}

-- the most tries of one read or write, which none comes to
abbrev pub most_tries : ℕ
most_tries = 0xffff_ffff_ffff_ffff

-- Errors that pass: a signal interrupted the call, or the other side of a pipe that does not block is not ready.
abbrev pub is_temporary : ErrorKind → Bool
is_temporary Interrupted = true
is_temporary WouldBlock = true
is_temporary kind = false

-- the answer of a read or a write if it is the last one, or nothing where the same is to be tried again
abbrev pub settled : Result ℕ Error → Option (Result ℕ Error)
settled (Ok n) = Some (Ok n)
settled (Err e) = cond (is_temporary (error_kind e)) None (Some (Err e))

-- an answer of a read after which it is tried again
abbrev pub ReadAgain : Result ℕ Error → Type 0
ReadAgain (Ok n) = ⊥
ReadAgain (Err e) = is_temporary (error_kind e) ≡ true

-- an answer of a write after which another write follows: some bytes were written, or the same is to be tried again
abbrev pub WriteAgain : Result ℕ Error → Type 0
WriteAgain (Ok n) = 0 < n
WriteAgain (Err e) = is_temporary (error_kind e) ≡ true

-- Why a read or a write is given up: it failed with an error that does not pass, or as many tries as can be counted
-- were made, and each was answered by what another try follows.
abbrev pub GivenUp : (Result ℕ Error → Type 0) → NotDone → Type 0
GivenUp Again (Failed e) = is_temporary (error_kind e) ≡ false
GivenUp Again OutOfTries = (answers : List (Result ℕ Error)) × (length answers ≡ most_tries) × All Again answers
