-- The plain pattern of a t from -149.5 to -128 that is wide of the switches is that of a value from 1/2 to 2 (`plain_unscaled`), and so is that of a t of at most 2^-16 in size
-- (`near_one_around`). Assumes nothing.
use Rattle.std.proofs.Common.{◌≡◌, ◌-◌, ◌*◌, ◌^◌, true, T, lit<, pos, negsuc}
use lib.Ieee.{Float, fin, binary64, fits, le}
use Rattle.double_double.specs.declared.DoubleDouble.{DoubleDouble}
use Rattle.special.specs.Special.{zero}
use Rattle.slow_path.proofs.Coefficients.{q2_size, q2_first}
use Rattle.bounds.proofs.Scales.{S, unit, unit_left, Bound, at, add_bound, mul_bound, tested}
use Rattle.bounds.proofs.Distances.{apart_at}
use Rattle.bounds.proofs.Apart.{apart_same}
use Rattle.bounds.proofs.Nearest.{sign_below}
use Rattle.bounds.proofs.Compared.{Positive, positive_at, positive_add}
use Rattle.filter.specs.Plain.{part_of, rest_of, plain_pattern, clear_of_switches}
use Rattle.filter.proofs.Power.{Unscaled}
use Rattle.slow_filter.specs.PlainSlow.{slow_switch_gap}
use Rattle.slow_filter.specs.NearOne.{near_one_power}
use Rattle.slow_filter.proofs.Power.{power_of}
use Rattle.slow_filter.proofs.Reach.{reach_bound, reach_negative, reach_whole, wide_bounds}

pub plain_unscaled : (t : Float) → T (fits binary64 t) → le t (fin true 1 (pos 7)) ≡ true → le (fin true 299 (negsuc 0)) t ≡ true → clear_of_switches slow_switch_gap (part_of t) (rest_of t) ≡ true → Unscaled (plain_pattern t)
unfolding fits
plain_unscaled t f g h e =
    let b = reach_bound t f g h in
    let w = wide_bounds t f g h e in
    let alone : DoubleDouble = record { lo = zero; hi = t } in
    let n = sign_below t (reach_negative t f g h) in
    (power_of true alone t n n b.number (apart_at (2 ^ 24) (apart_same t) tt) (tested (2 ^ 23) zero tt) b w.0 w.1 (reach_whole t f g h)).plain

-- 1, and what is at most 2^-15 in size
pub near_one_around : (t : Float) → Bound S (2 ^ 37) t → Positive (2 ^ 52) (2 ^ 54 - 1) (near_one_power t)
unfolding near_one_power
near_one_around t b =
    let one = unit_left unit in
    let c2 = at (2 ^ 54) (add_bound (q2_size 3 (lit< tt)) (mul_bound one (q2_size 5 (lit< tt)) b tt tt) tt) tt in
    let c1 = at (9 * 2 ^ 50) (add_bound (q2_size 1 (lit< tt)) (mul_bound one c2 b tt tt) tt) tt in
    positive_at (2 ^ 52) (2 ^ 54 - 1) (positive_add q2_first (at (2 ^ 38) (mul_bound one c1 b tt tt) tt) tt tt) tt tt
