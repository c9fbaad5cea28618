-- The accurate logarithm beside a plain one, k, on the scale of k: 2^53 is k, but for less than 1. Its hi is at most 108194 of them from k, and its lo at most 2^15 + 1. Assumes nothing.
use Rattle.std.proofs.Common.{ℕ, ◌+◌, ◌*◌, ◌/◌, ◌^◌, ◌≤◌, arith}
use lib.Ieee.{Float}
use Rattle.double_double.specs.declared.DoubleDouble.{DoubleDouble}
use Rattle.bounds.proofs.Values.{mag, Number}
use Rattle.bounds.proofs.Scales.{S, Scale, Bound, Bounds}
use Rattle.bounds.proofs.Distances.{Apart}

pub record LogOwn (accurate : DoubleDouble) (k : Float) : Type 0 where
  pub large : 2 ^ 110 ≤ mag k
  pub sized : Bound S (2 ^ 62) k
  pub near : Apart (mag k / 2 ^ 53) 108194 accurate.hi k
  pub parts : Bounds (mag k / 2 ^ 53) (2 ^ 54) (2 ^ 15 + 1) accurate

-- k itself is on that scale
pub own_bound : (k : Float) → 2 ^ 110 ≤ mag k → Number k → Scale (mag k / 2 ^ 53) → Bound (mag k / 2 ^ 53) (2 ^ 53 + 1) k
own_bound k h n s = record { scale = s; number = n; size = over (mag k) h }
  where
    over : (m : ℕ) → 2 ^ 110 ≤ m → m ≤ (2 ^ 53 + 1) * (m / 2 ^ 53)
    over m h = omega arith
