-- `log2_poly2` meets its contract, operation by operation. Assumes nothing.
use Rattle.std.proofs.Common.{◌≡◌, fold, take}
use Rattle.slow_path.specs.Slow.{next_log2}
use Rattle.slow_path.proofs.log2_poly2.Given as goal

-- the steps taken so far
abbrev pub invariant-loop-i : goal.invariant-loop-i
invariant-loop-i l = l.v ≡ fold (λ v i. next_log2 v l.z i) l.initial.v (take l.i-index l.i-items)
