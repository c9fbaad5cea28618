-- What is tried again, and what came of it. Assumes nothing.
use Rattle.std.proofs.Common.{◌≡◌, ℕ, ◌<◌, true, false, Bool, cond, refl, List}
use Rattle.std.proofs.KnownBytes.{Keeps-trans}
use Rattle.std.specs.Prelude.{Option, Some, None, Result, Ok, Err}
use Rattle.std.specs.Io.KnownBytes.{Keeps, ReadConsumes}
use Rattle.std.specs.IoError.{error_kind}
use Rattle.std.specs.declared.io.Error.{Error}
use Rattle.fade.specs.Stream.{is_temporary, settled, ReadAgain, WriteAgain}

passing : (b : Bool) (e : Error) → cond {A = Option (Result ℕ Error)} b None (Some (Err e)) ≡ None → b ≡ true
passing true e h = refl
passing false e h = absurd cc

-- where the answer is not the last one, the same is tried again
pub read_again : (r : Result ℕ Error) → settled r ≡ None → ReadAgain r
read_again (Ok n) h = absurd cc
read_again (Err e) h = passing (is_temporary (error_kind e)) e h

pub write_again : (r : Result ℕ Error) → settled r ≡ None → WriteAgain r
write_again (Ok n) h = absurd cc
write_again (Err e) h = passing (is_temporary (error_kind e)) e h

keeping : (b : Bool) (e : Error) (n : ℕ) → cond b None (Some (Err e)) ≡ Some (Ok n) → ⊥
keeping true e n h = absurd cc
keeping false e n h = absurd cc

-- another write follows one that wrote some bytes
pub write_more : (r : Result ℕ Error) (n : ℕ) → settled r ≡ Some (Ok n) → 0 < n → WriteAgain r
write_more (Ok m) n h some = let same : m ≡ n = cc in rw same some
write_more (Err e) n h some = absurd (keeping (is_temporary (error_kind e)) e n h)

-- a read that is tried again has read nothing
pub read_kept : (r : Result ℕ Error) (first old new : Option (List ℕ)) (piece : List ℕ) → settled r ≡ None → Keeps first old → ReadConsumes old new r piece → Keeps first new
read_kept (Ok n) first old new piece h kept b = absurd cc
read_kept (Err e) first old new piece h kept b = Keeps-trans first old new kept b
