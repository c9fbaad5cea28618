-- `whole_power` meets its contract. The loop's invariant: with the turns that are left, the factors still to come lead to the power. Assumes nothing.
use Rattle.std.proofs.Common.{◌≡◌, ℕ, ◌+◌, ◌-◌, ◌≤◌, not, T}
use lib.Ieee.{is_nan}
use Rattle.whole.specs.Whole as spec
use Rattle.whole.proofs.Squaring.{factors}
use Rattle.whole.proofs.whole_power.Given as goal

abbrev pub invariant-loop-turn : goal.invariant-loop-turn
invariant-loop-turn l = (l.turn ≤ 4) × (T (not (is_nan l.square)) × ((turns : ℕ) → l.turn + turns ≡ 4 → factors turns l.left l.square l.acc ≡ spec.whole_power l.s l.n))

abbrev pub decreases-loop-turn : goal.decreases-loop-turn
decreases-loop-turn l = 4 - l.turn
