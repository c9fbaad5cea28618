-- The polynomials of the power, side by side: where z and z' are 2^-33 from each other, and a little, and at most 1/64 in size, the fast path's is from 7/8 to 9/8, and the plain one is less
-- than 0.7014 × 2^-33 from it (`poly_beside`). Numbers are on the scale of 1, where 2^53 is 1. Assumes nothing.
use Rattle.std.proofs.Common.{◌+◌, ◌*◌, ◌^◌}
use lib.Ieee.{Float}
use Rattle.tables.specs.Tables.{entry, expf_poly_q}
use Rattle.fast_path.specs.Fast.{expf_poly, compoundf_expf_poly}
use Rattle.bounds.proofs.Scales.{S, unit, unit_left, Bound, at, add_bound, mul_bound, fmla_bound}
use Rattle.bounds.proofs.Distances.{Apart, apart_at, apart_through, fmla_apart}
use Rattle.bounds.proofs.Apart.{apart_same, product_apart, fmla_aside}
use Rattle.bounds.proofs.Compared.{Positive, positive_at, positive_bound, positive_near}
use Rattle.fast_path.proofs.Coefficients.{expf_first, expf_sizes}
use Rattle.filter.specs.Plain.{plain_expf_poly}

-- the fast path's, wherever the index leaves z
pub fast_poly : {z : Float} → Bound S (2 ^ 48 + 2 ^ 40) z → Positive (7 * 2 ^ 50) (9 * 2 ^ 50) (compoundf_expf_poly z)
unfolding expf_poly
fast_poly {z} b =
    let one = unit_left unit in
    let Q0 = positive_bound expf_first in
    let Q1 = expf_sizes.0 in
    let z2 = at (2 ^ 44) (mul_bound one b b tt tt) tt in
    let c3 = at (2 ^ 50) (fmla_bound one expf_sizes.3 b expf_sizes.2 tt) tt in
    let c2 = at (2 ^ 51) (fmla_bound one c3 b expf_sizes.1 tt) tt in
    let c0 = at (9 * 2 ^ 50) (fmla_bound one Q1 b Q0 tt) tt in
    positive_at (7 * 2 ^ 50) (9 * 2 ^ 50) (positive_near (fmla_bound one c2 z2 c0 tt).number (apart_through (fmla_apart one c2 z2 c0 tt) (fmla_apart one Q1 b Q0 tt)) expf_first tt) tt tt

pub record PolyBeside (p p' : Float) : Type 0 where
  pub fast : Positive (7 * 2 ^ 50) (9 * 2 ^ 50) p
  pub plain : Bound S (5 * 2 ^ 51) p'
  pub near : Apart S 735488 p p'

pub poly_beside : {z z' : Float} → Bound S (2 ^ 47) z → Bound S (2 ^ 47) z' → Apart S (2 ^ 20 + 512) z z' → PolyBeside (compoundf_expf_poly z) (plain_expf_poly z')
unfolding expf_poly
poly_beside {z} {z'} b b' d =
    let one = unit_left unit in
    let Q0 = positive_bound expf_first in
    let Q1 = expf_sizes.0 in
    let Q2 = expf_sizes.1 in
    let Q3 = expf_sizes.2 in
    let Q4 = expf_sizes.3 in
    let z2 = at (2 ^ 42) (mul_bound one b b tt tt) tt in
    let z2' = at (2 ^ 42) (mul_bound one b' b' tt tt) tt in
    let z2_near = apart_at (2 ^ 15 + 32) (product_apart one d d b b b' b' tt) tt in
    let c3 = at (2 ^ 49) (fmla_bound one Q4 b Q3 tt) tt in
    let c3' = at (2 ^ 49) (add_bound (mul_bound one Q4 b' tt tt) Q3 tt) tt in
    let c3_near = apart_at 10240 (fmla_aside one (apart_same (entry expf_poly_q 4)) d (apart_same (entry expf_poly_q 3)) Q4 b Q3 Q4 b' Q3 tt) tt in
    let c0 = at (9 * 2 ^ 50) (fmla_bound one Q1 b Q0 tt) tt in
    let c0' = at (9 * 2 ^ 50) (add_bound (mul_bound one Q1 b' tt tt) Q0 tt) tt in
    let c0_near = apart_at 727232 (fmla_aside one (apart_same (entry expf_poly_q 1)) d (apart_same (entry expf_poly_q 0)) Q1 b Q0 Q1 b' Q0 tt) tt in
    let c2 = at (2 ^ 51) (fmla_bound one c3 b Q2 tt) tt in
    let c2' = at (2 ^ 51) (add_bound (mul_bound one c3' b' tt tt) Q2 tt) tt in
    let c2_near = apart_at 65792 (fmla_aside one c3_near d (apart_same (entry expf_poly_q 2)) c3 b Q2 c3' b' Q2 tt) tt in
    record {
      fast = fast_poly (at (2 ^ 48 + 2 ^ 40) b tt);
      plain = at (5 * 2 ^ 51) (add_bound (mul_bound one c2' z2' tt tt) c0' tt) tt;
      near = apart_at 735488 (fmla_aside one c2_near z2_near c0_near c2 z2 c0 c2' z2' c0' tt) tt;
    }
