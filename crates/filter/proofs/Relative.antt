-- Two values that are near each other beside their size: x is y but for a 2^n-th of |y|. Assumes nothing.
use Rattle.std.proofs.Common.{ℕ, ◌+◌, ◌*◌, ◌^◌, ◌≤◌}
use lib.Ieee.{Float}
use Rattle.bounds.proofs.Values.{plus, less, mag, Number}

pub record Relative (n : ℕ) (x y : Float) : Type 0 where
  pub number : Number x
  pub beside : Number y
  pub over : (plus x + less y) * 2 ^ n ≤ (less x + plus y) * 2 ^ n + mag y
  pub under : (less x + plus y) * 2 ^ n ≤ (plus x + less y) * 2 ^ n + mag y
