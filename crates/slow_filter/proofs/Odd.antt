-- The pattern that the slow path rounds to odd: for a sum from 1/2 to 2, and not at the ends, it is one from the sum's pattern at most, and the pattern of a value from 1/2 to 2
-- (`odd_of`). Assumes nothing.
use Rattle.std.proofs.Common.{◌≡◌, ℕ, ◌+◌, ◌-◌, ◌*◌, ◌%◌, ◌^◌, ◌≤◌, sym, Bool, true, false, cond, le_trans, le_of_eq, not-le_of_lt, arith, lit≤, lit<}
use lib.Ieee.{Float, nan, inf, fin, binary64, lt, to_bits}
use Rattle.floats.specs.Operations.{◌⊕◌}
use Rattle.floats.proofs.Laws.Units.{exponent}
use Rattle.floats.proofs.Laws.Place.{place_mono, place_of_grid}
use Rattle.floats.proofs.Laws.Order.{bits_of_clear}
use Rattle.double_double.specs.declared.DoubleDouble.{DoubleDouble}
use Rattle.special.specs.Special.{zero}
use Rattle.slow_path.specs.Slow.{is_lost, one_towards, rounded_to_odd}
use Rattle.bounds.proofs.Values.{plus, less, Number}
use Rattle.bounds.proofs.Scales.{S}
use Rattle.bounds.proofs.Compared.{Positive}
use Rattle.filter.proofs.Power.{Unscaled}

-- ---- the pattern of what is above 1/2 and below 2
pub bits_inside : {x : Float} → Positive (2 ^ 52 + 1) (2 ^ 54 - 4) x → (1022 * 2 ^ 52 + 1 ≤ to_bits binary64 x) × (to_bits binary64 x ≤ 1024 * 2 ^ 52 - 2)
bits_inside {x} p = go x p.number p.clear p.least p.most
  where
    low_end : (X : ℕ) → (2 ^ 52 + 1) * S ≤ X → (2 ^ 52 + 1) * 2 ^ 1021 ≤ X
    low_end X h = unfold S in h

    high_end : (X : ℕ) → X ≤ (2 ^ 54 - 4) * S → X ≤ (2 ^ 53 - 2) * 2 ^ 1022
    high_end X h = unfold S in le_trans h (lit≤ tt)

    nothing : (2 ^ 52 + 1) * S ≤ 0 → ⊥
    nothing h = unfold S in not-le_of_lt (lit< tt) h

    go : (x : Float) → Number x → less x ≡ 0 → (2 ^ 52 + 1) * S ≤ plus x → plus x ≤ (2 ^ 54 - 4) * S → (1022 * 2 ^ 52 + 1 ≤ to_bits binary64 x) × (to_bits binary64 x ≤ 1024 * 2 ^ 52 - 2)
    go nan n c l m = absurd n.plain
    go (inf s) n c l m = absurd n.plain
    go (fin true k e) n c l m = absurd (nothing l)
    go (fin false k e) n c l m =
        let bits = bits_of_clear binary64 k e n.held in
        let X = k * 2 ^ exponent 1074 e in (
          le_trans (le_of_eq (sym (place_of_grid 53 (2 ^ 52 + 1) 1021 (lit< tt) (lit≤ tt) (λ h. lit≤ tt)))) (le_trans (place_mono 53 ((2 ^ 52 + 1) * 2 ^ 1021) X (lit< tt) (low_end X l)) (le_of_eq (sym bits))),
          le_trans (le_of_eq bits) (le_trans (place_mono 53 X ((2 ^ 53 - 2) * 2 ^ 1022) (lit< tt) (high_end X m)) (le_of_eq (place_of_grid 53 (2 ^ 53 - 2) 1022 (lit< tt) (lit≤ tt) (λ h. lit≤ tt)))),
        )

-- ---- v, or one from it
pub record Odd (v n : ℕ) : Type 0 where
  pub unscaled : Unscaled n
  pub over : n ≤ v + 1
  pub under : v ≤ n + 1

pub odd_of : (q : DoubleDouble) (w : ℕ) → Positive (2 ^ 52 + 1) (2 ^ 54 - 4) (q.hi ⊕ q.lo) → Odd (to_bits binary64 (q.hi ⊕ q.lo)) (rounded_to_odd q w)
unfolding rounded_to_odd one_towards
odd_of q w p = go (to_bits binary64 (q.hi ⊕ q.lo)) (bits_inside p).0 (bits_inside p).1 (is_lost q w (to_bits binary64 (q.hi ⊕ q.lo))) (lt zero q.lo)
  where
    go : (v : ℕ) → 1022 * 2 ^ 52 + 1 ≤ v → v ≤ 1024 * 2 ^ 52 - 2 → (b c : Bool) → Odd v (cond b ((v + cond c 1 (2 ^ 64 - 1)) % 2 ^ 64) v)
    go v l m false c = record { unscaled = record { low = omega arith; high = omega arith }; over = omega arith; under = omega arith }
    go v l m true true = record { unscaled = record { low = omega arith; high = omega arith }; over = omega arith; under = omega arith }
    go v l m true false = record { unscaled = record { low = omega arith; high = omega arith }; over = omega arith; under = omega arith }
