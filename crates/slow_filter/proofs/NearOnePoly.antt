-- The polynomials of the power next to 1: for a z' of at most 2^-16 in size and a z that is 3 × 2^-53 from it, and a little, both are 1 and a term, w and w', and these are less than 2.09 × 2^-53
-- from each other; and hi and lo of the slow path's are together 1 + w but for a little (`poly_near`). Terms of degree 4 and above count for less than 2^-64. Assumes nothing.
use Rattle.std.proofs.Common.{◌≡◌, ℕ, ◌+◌, ◌*◌, ◌^◌, ◌<◌, refl, subst, lit<}
use lib.Ieee.{Float, fits, of_bits}
use Rattle.floats.specs.Operations.{◌⊕◌, ◌⊗◌}
use Rattle.double_double.specs.declared.DoubleDouble.{DoubleDouble}
use Rattle.double_double.specs.DoubleDouble.{from_exact_add, from_exact_mult, quick_mult}
use Rattle.tables.specs.Tables.{entry, exp2_poly_q2}
use Rattle.slow_path.specs.Slow.{q2, with_term, next_exp2, highest_exp2, compoundf_exp2_poly2}
use Rattle.slow_path.proofs.Coefficients.{q2_size, q2_second, q2_first}
use Rattle.bounds.proofs.Scales.{S, unit, unit_left, Bound, Bounds, at, add_bound, mul_bound, fmla_bound, fast_bounds, quick_bounds, tested}
use Rattle.bounds.proofs.Distances.{Apart, apart_at, add_apart}
use Rattle.bounds.proofs.Apart.{apart_same, sum_apart, product_apart}
use Rattle.bounds.proofs.Compared.{positive_bound}
use Rattle.slow_filter.specs.NearOne.{near_one_power}
use Rattle.slow_filter.proofs.Fine.{fine, times_fine, bound_fine, bound_one, apart_one}
use Rattle.slow_filter.proofs.SmallTerm.{Parts, parts_at, small_term, more_low}
use Rattle.slow_filter.proofs.Polynomial.{Beside, above}

-- ---- the coefficients of degree 1 to 4: at most 0.69317, 0.24024, 0.05552 and 0.00963
sizes : Bound S (45427 * 2 ^ 37) (q2 1) × Bound S (15744 * 2 ^ 37) (q2 3) × Bound S (3638 * 2 ^ 37) (q2 5) × Bound S (631 * 2 ^ 37) (q2 7)
unfolding entry exp2_poly_q2 of_bits fits
sizes = (tested (45427 * 2 ^ 37) (q2 1) tt, tested (15744 * 2 ^ 37) (q2 3) tt, tested (3638 * 2 ^ 37) (q2 5) tt, tested (631 * 2 ^ 37) (q2 7) tt)

-- ---- los, at most 32 × 2^-53
-- of the terms of degree 4 and above; what those of degree 5 and above add to the coefficient of degree 4
above_bound : {z : Float} → Bound S (2 ^ 37 + 8) z → Bound S (2 ^ 40) (above z)
above_bound b =
    let one = unit_left unit in
    let h2 = at (2 ^ 24) (mul_bound one b b tt tt) tt in
    let c7 = at (2 ^ 54) (fmla_bound one (q2_size 11 (lit< tt)) b (q2_size 10 (lit< tt)) tt) tt in
    let c5 = at (2 ^ 54) (fmla_bound one (q2_size 9 (lit< tt)) b (q2_size 8 (lit< tt)) tt) tt in
    at (2 ^ 40) (mul_bound one (at (2 ^ 55) (fmla_bound one c7 h2 c5 tt) tt) b tt tt) tt

highest_low : {z : Float} → Bound S (2 ^ 37 + 8) z → Bounds S (2 ^ 54) (2 ^ 5) (highest_exp2 z)
unfolding highest_exp2
highest_low b =
    let q7 = fast_bounds (q2_size 7 (lit< tt)) (above_bound b) tt in
    record { hi = at (2 ^ 54) q7.hi tt; lo = at (2 ^ 5) q7.lo tt }

-- one step
next_low : {q z : DoubleDouble} (i : ℕ) → i < 12 → Bound S 1 (q2 (i + 1)) → Bounds S (2 ^ 54) (2 ^ 5) q → Bounds S (2 ^ 38) 1 z → Bounds S (2 ^ 54) (2 ^ 5) (next_exp2 q z i)
unfolding with_term next_exp2
next_low {q} {z} i h second b c =
    let q' = quick_bounds (unit_left unit) b c tt in
    let t = fast_bounds (q2_size i h) (at (2 ^ 40) q'.hi tt) tt in
    let lo = add_bound q'.lo (add_bound t.lo second tt) tt in
    record { hi = at (2 ^ 54) t.hi tt; lo = at (2 ^ 5) lo tt }

-- ---- all of it
pub record PolyNear (z : DoubleDouble) (z' : Float) : Type 0 where
  pub w : Float
  pub w' : Float
  pub plain_is : q2 0 ⊕ w' ≡ near_one_power z'
  pub high_is : (compoundf_exp2_poly2 z).hi ≡ q2 0 ⊕ w
  pub slow : Bound fine (2 ^ 53) w
  pub plain : Bound fine (2 ^ 53) w'
  pub near : Apart fine 136400 w w'
  pub parts : Parts fine 65620 80 (q2 0) w (compoundf_exp2_poly2 z)

module _ (z : DoubleDouble) (z' : Float) (hi : Bound fine (2 ^ 53 + 2 ^ 18) z.hi) (lo : Bound fine 8 z.lo) (b : Bound fine (2 ^ 53) z') (a : Apart fine (3 * 2 ^ 16 + 16) z.hi z') where
  -- on the scale of 1
  zs : Beside 4 (2 ^ 37 + 8) z.hi z'
  zs = record { near = apart_at 4 (apart_one a) tt; slow = at (2 ^ 37 + 8) (bound_one hi) tt; plain = at (2 ^ 37 + 8) (bound_one b) tt }

  -- ---- Horner's steps, side by side
  degree_3 : Beside (640 * 2 ^ 21) (3639 * 2 ^ 37) (q2 5 ⊕ (q2 7 ⊕ above z.hi) ⊗ z.hi) (q2 5)
  degree_3 =
      let term = mul_bound (unit_left unit) (add_bound sizes.3 (above_bound zs.slow) tt) zs.slow tt tt in
      record { near = apart_at (640 * 2 ^ 21) (add_apart sizes.2 term tt) tt; slow = at (3639 * 2 ^ 37) (add_bound sizes.2 term tt) tt; plain = at (3639 * 2 ^ 37) sizes.2 tt }

  degree_2 : Beside 21000 (15745 * 2 ^ 37) (q2 3 ⊕ (q2 5 ⊕ (q2 7 ⊕ above z.hi) ⊗ z.hi) ⊗ z.hi) (q2 3 ⊕ q2 5 ⊗ z')
  degree_2 =
      let one = unit_left unit in
      let m = mul_bound one degree_3.slow zs.slow tt tt in
      let m' = mul_bound one degree_3.plain zs.plain tt tt in
      record {
        near = apart_at 21000 (sum_apart (apart_same (q2 3)) (product_apart one degree_3.near zs.near degree_3.slow zs.slow degree_3.plain zs.plain tt) sizes.1 m sizes.1 m' tt tt) tt;
        slow = at (15745 * 2 ^ 37) (add_bound sizes.1 m tt) tt;
        plain = at (15745 * 2 ^ 37) (add_bound sizes.1 m' tt) tt;
      }

  slow_1 : Float
  slow_1 = q2 1 ⊕ (q2 3 ⊕ (q2 5 ⊕ (q2 7 ⊕ above z.hi) ⊗ z.hi) ⊗ z.hi) ⊗ z.hi

  plain_1 : Float
  plain_1 = q2 1 ⊕ (q2 3 ⊕ q2 5 ⊗ z') ⊗ z'

  degree_1 : Beside 8 (45428 * 2 ^ 37) slow_1 plain_1
  unfolding slow_1 plain_1
  degree_1 =
      let one = unit_left unit in
      let m = mul_bound one degree_2.slow zs.slow tt tt in
      let m' = mul_bound one degree_2.plain zs.plain tt tt in
      record {
        near = apart_at 8 (sum_apart (apart_same (q2 1)) (product_apart one degree_2.near zs.near degree_2.slow zs.slow degree_2.plain zs.plain tt) sizes.0 m sizes.0 m' tt tt) tt;
        slow = at (45428 * 2 ^ 37) (add_bound sizes.0 m tt) tt;
        plain = at (45428 * 2 ^ 37) (add_bound sizes.0 m' tt) tt;
      }

  -- ---- the last step, with the los
  q1 : DoubleDouble
  q1 = next_exp2 (next_exp2 (next_exp2 (highest_exp2 z.hi) z 5) z 3) z 1

  q1_lo : Bound S (2 ^ 5) q1.lo
  unfolding q1
  q1_lo =
      let zb : Bounds S (2 ^ 38) 1 z = record { hi = at (2 ^ 38) zs.slow tt; lo = at 1 (bound_one lo) tt } in
      (next_low 1 (lit< tt) q2_second.0 (next_low 3 (lit< tt) q2_second.1 (next_low 5 (lit< tt) q2_second.2 (highest_low zs.slow) zb) zb) zb).lo

  q : DoubleDouble
  q = quick_mult (record { lo = q1.lo; hi = slow_1 }) z

  q_lo : Bound fine 60 q.lo
  unfolding q
  q_lo = at 60 (quick_bounds times_fine (record { hi = degree_1.slow; lo = q1_lo }) (record { hi = hi; lo = lo }) tt).lo tt

  -- ---- 1 and the term
  w : Float
  w = slow_1 ⊗ z.hi

  w' : Float
  w' = plain_1 ⊗ z'

  w_bound : Bound fine (2 ^ 53) w
  unfolding w
  w_bound = at (2 ^ 53) (mul_bound times_fine degree_1.slow hi tt tt) tt

  t : DoubleDouble
  t = from_exact_add (q2 0) w

  t_parts : Parts fine 65541 3 (q2 0) w t
  unfolding t
  t_parts = parts_at 65541 3 (small_term (bound_fine (positive_bound q2_first)) w_bound tt tt tt) tt tt

  poly_is : record { lo = q.lo ⊕ t.lo; hi = t.hi } ≡ compoundf_exp2_poly2 z
  unfolding q t w slow_1 q1 compoundf_exp2_poly2 with_term next_exp2 highest_exp2 quick_mult from_exact_mult from_exact_add
  poly_is = refl

  pub poly_near : PolyNear z z'
  poly_near = record {
    w = w;
    w' = w';
    plain_is = unfold w' plain_1 near_one_power in refl;
    high_is = unfold w slow_1 compoundf_exp2_poly2 with_term next_exp2 highest_exp2 quick_mult from_exact_mult from_exact_add in refl;
    slow = w_bound;
    plain = unfold w' in at (2 ^ 53) (mul_bound times_fine degree_1.plain b tt tt) tt;
    near = unfold w w' in apart_at 136400 (product_apart times_fine degree_1.near a degree_1.slow hi degree_1.plain b tt) tt;
    parts = subst (Parts fine 65620 80 (q2 0) w) poly_is (parts_at 65620 80 (more_low q_lo t_parts tt) tt tt);
  }
