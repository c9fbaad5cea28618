-- `compoundf_exp2_poly2` meets its contract, operation by operation. Assumes nothing.
use Rattle.std.proofs.Common.{◌≡◌, fold, take}
use Rattle.slow_path.specs.Slow.{next_exp2}
use Rattle.slow_path.proofs.compoundf_exp2_poly2.Given as goal

-- the steps taken so far
abbrev pub invariant-loop-i : goal.invariant-loop-i
invariant-loop-i l = l.q ≡ fold (λ q i. next_exp2 q l.z i) l.initial.q (take l.i-index l.i-items)
