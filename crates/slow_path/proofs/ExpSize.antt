-- The product of `compoundf_exp2_accurate` stays near 1: where the rest of the exponent is at most 1/32 in size, and a little more, hi of the polynomial is from 3/4 to
-- 5/4 and lo at most 2^-41 (`poly_near_one`), and times a power from the table, hi is from 1/4 to 2 and lo at most 2^-49 (`product_near_one`). Numbers are on the scale of 1, where 2^53 is
-- 1. Assumes nothing.
use Rattle.std.proofs.Common.{ℕ, ◌+◌, ◌-◌, ◌*◌, ◌^◌, ◌<◌, lit<}
use lib.Ieee.{Float}
use Rattle.floats.specs.Operations.{◌⊖◌}
use Rattle.double_double.specs.declared.DoubleDouble.{DoubleDouble}
use Rattle.double_double.specs.DoubleDouble.{from_exact_add, from_exact_mult, quick_mult}
use Rattle.tables.specs.Tables.{entry, compoundf_exp2_t}
use Rattle.slow_path.specs.Slow.{q2, with_term, next_exp2, highest_exp2, compoundf_exp2_poly2, exp2_product}
use Rattle.bounds.proofs.Scales.{S, unit, Bound, Bounds, at, unit_left, add_bound, mul_bound, fast_bounds, quick_bounds, fmla_bound}
use Rattle.bounds.proofs.Compared.{Positive, positive_at, positive_bound, positive_add, positive_mul}
use Rattle.fast_path.proofs.Coefficients.{power_hi, power_lo}
use Rattle.slow_path.proofs.Coefficients.{q2_size, q2_second, q2_first}

-- ---- the polynomial, for |z| up to 1/32 + 2^-12
-- the terms of degree 4 and above
highest_size : {z : Float} → Bound S (2 ^ 48 + 2 ^ 41) z → Bounds S (2 ^ 54) (2 ^ 12) (highest_exp2 z)
unfolding highest_exp2
highest_size {z} b =
    let one = unit_left unit in
    let h2 = at (2 ^ 44) (mul_bound one b b tt tt) tt in
    let c7 = at (2 ^ 54) (fmla_bound one (q2_size 11 (lit< tt)) b (q2_size 10 (lit< tt)) tt) tt in
    let c5 = at (2 ^ 54) (fmla_bound one (q2_size 9 (lit< tt)) b (q2_size 8 (lit< tt)) tt) tt in
    let c5' = at (2 ^ 55) (fmla_bound one c7 h2 c5 tt) tt in
    let zVqh = at (2 ^ 51) (mul_bound one c5' b tt tt) tt in
    let q7 = fast_bounds (q2_size 7 (lit< tt)) zVqh tt in
    record { hi = at (2 ^ 54) q7.hi tt; lo = at (2 ^ 12) q7.lo tt }

-- one step
next_size : {q z : DoubleDouble} (i : ℕ) → i < 12 → Bound S 1 (q2 (i + 1)) → Bounds S (2 ^ 54) (2 ^ 12) q → Bounds S (2 ^ 48 + 2 ^ 41) (2 ^ 10) z → Bounds S (2 ^ 54) (2 ^ 12) (next_exp2 q z i)
unfolding next_exp2 with_term
next_size {q} {z} i h second b c =
    let q' = quick_bounds (unit_left unit) b c tt in
    let t = fast_bounds (q2_size i h) (at (2 ^ 51) q'.hi tt) tt in
    let lo = add_bound (at (2 ^ 11 + 2 ^ 8) q'.lo tt) (add_bound (at 6 t.lo tt) second tt) tt in
    record { hi = at (2 ^ 54) t.hi tt; lo = at (2 ^ 12) lo tt }

-- all of it: 1 and z times something below 2
pub record NearOne (q : DoubleDouble) : Type 0 where
  pub hi : Positive (3 * 2 ^ 51) (5 * 2 ^ 51) q.hi
  pub lo : Bound S (2 ^ 12) q.lo

pub poly_near_one : {z : DoubleDouble} → Bounds S (2 ^ 48 + 2 ^ 41) (2 ^ 10) z → NearOne (compoundf_exp2_poly2 z)
unfolding compoundf_exp2_poly2 from_exact_add
poly_near_one {z} b =
    let q7 = highest_size b.hi in
    let q5 = next_size 5 (lit< tt) q2_second.2 q7 b in
    let q3 = next_size 3 (lit< tt) q2_second.1 q5 b in
    let q1 = next_size 1 (lit< tt) q2_second.0 q3 b in
    let q = quick_bounds (unit_left unit) q1 b tt in
    let high = at (2 ^ 50) q.hi tt in
    let t = fast_bounds (positive_bound q2_first) high tt in
    record {
      hi = positive_at (3 * 2 ^ 51) (5 * 2 ^ 51) (positive_add q2_first high tt tt) tt tt;
      lo = at (2 ^ 12) (add_bound (at (2 ^ 11 + 2 ^ 8) q.lo tt) (at 6 t.lo tt) tt) tt;
    }

-- ---- the product with the power of index i, for a rest of at most 1/32 and a little more
pub record Product (q : DoubleDouble) : Type 0 where
  pub hi : Positive (2 ^ 51) (2 ^ 54) q.hi
  pub lo : Bound S 16 q.lo

pub product_near_one : (v : DoubleDouble) (i : ℕ) → i < 33 → Bound S (2 ^ 48 + 2 ^ 40) (v.hi ⊖ entry compoundf_exp2_t i) → Bound S (2 ^ 8) v.lo → Product (exp2_product v i)
unfolding exp2_product from_exact_add quick_mult from_exact_mult
product_near_one v i h b c =
    let r = fast_bounds b c tt in
    let q = poly_near_one (record { hi = at (2 ^ 48 + 2 ^ 41) r.hi tt; lo = at (2 ^ 10) r.lo tt }) in
    let U = power_hi i h in
    let m = quick_bounds (unit_left unit) (record { hi = positive_bound U; lo = power_lo i h }) (record { hi = positive_bound q.hi; lo = q.lo }) tt in
    let high = positive_at (3 * 2 ^ 50) (2 ^ 54 - 2 ^ 49) (positive_mul (3 * 2 ^ 50) U q.hi tt tt tt) tt tt in
    let low = at (2 ^ 13) m.lo tt in
    record {
      hi = positive_at (2 ^ 51) (2 ^ 54) (positive_add high low tt tt) tt tt;
      lo = at 16 (fast_bounds (positive_bound high) low tt).lo tt;
    }
