-- What one write took is gone from the text; one that is tried again took nothing.
use Rattle.std.proofs.Common.{◌≡◌, ℕ, ◌+◌, ◌∙◌, sym, ap, true, false, Bool, cond, List, ◌∷◌, length, take, drop, arith}
use Rattle.std.proofs.lemmas.List.Elements.{All-cons}
use Rattle.std.proofs.Math.Seq.{take-add, drop-drop}
use Rattle.std.proofs.lemmas.List.{take_rest}
use Rattle.std.specs.Prelude.{Option, Some, None, Result, Ok, Err, All}
use Rattle.std.specs.IoError.{error_kind}
use Rattle.std.specs.declared.io.Error.{Error}
use Rattle.std.specs.Io.KnownBytes.{Keeps, Appends, WriteAppends}
use Rattle.std.proofs.KnownBytes.{Appends-trans, Appends-kept}
use Rattle.fade.specs.Stream.{is_temporary, settled, WriteAgain}
use Rattle.fade.proofs.Tries.{write_again, write_more}
use Rattle.fade.proofs.stream.write_whole.Goals as goal
use Rattle.fade.proofs.stream.write_whole.Goals.{in-None, in-Some-Ok}

none_taken : (r : Result ℕ Error) (old new : Option (List ℕ)) (text : List ℕ) → settled r ≡ None → WriteAppends old new r text → Keeps old new
none_taken (Ok n) old new text e w = absurd cc
none_taken (Err f) old new text e w = w

taken : (r : Result ℕ Error) (n : ℕ) (old new : Option (List ℕ)) (text : List ℕ) → settled r ≡ Some (Ok n) → WriteAppends old new r text → Appends old new (take n text)
taken (Ok m) n old new text e w = let same : m ≡ n = cc in rw same at w
taken (Err f) n old new text e w = by (is_temporary (error_kind f)) e
  where
    by : (b : Bool) → cond b None (Some (Err f)) ≡ Some (Ok n) → Appends old new (take n text)
    by true e = absurd cc
    by false e = absurd cc

pub loop-tries-preserved : goal.loop-tries-preserved
loop-tries-preserved g c =
    let ((k, rest_is, appended), (answers, count, again)) = c.loop-tries.invariant in
    let rest = c.loop-tries.rest.now in
    let one_more : WriteAgain c.write.result → (answers : List (Result ℕ Error)) × (length answers ≡ c.loop-tries._tries + 1) × All WriteAgain answers
    = λ h. (c.write.result ∷ answers, omega arith, All-cons WriteAgain c.write.result answers h again) in
    elim c.match-settled.branch [
      | in-None w ↦
          let none : settled c.write.result ≡ None = sym c.settled.ensures ∙ w.in-None.is in
          ((k, ap (λ r. r.now) w.rest-is ∙ rest_is, Appends-kept _ _ _ _ appended (none_taken c.write.result _ _ rest none c.write.ensures.bytes)), one_more (write_again c.write.result none))
      | in-Some-Ok w ↦
          let n = w.in-Some-Ok.n in
          let some : settled c.write.result ≡ Some (Ok n) = sym c.settled.ensures ∙ w.in-Some-Ok.is ∙ ap Some w.in-Some-Ok.field-0-is in
          let took = taken c.write.result n _ _ rest some c.write.ensures.bytes in
          ((k + n, ap (λ r. r.now) w.rest-is ∙ take_rest rest n ∙ ap (drop n) rest_is ∙ drop-drop n k _, rw (take-add k n _) (Appends-trans _ _ _ _ _ appended (rw rest_is at took))), one_more (write_more c.write.result n some (omega arith)))
    ]
