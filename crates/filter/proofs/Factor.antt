-- The plain factor of the logarithm's polynomial beside the fast path's, for a z and a z' at most 40 × 2^-53 from each other: at most 120 × 2^-53 (`factor_beside`); and its size
-- (`plain_factor_lem`). Numbers are on the scale of 1, where 2^53 is 1. Assumes nothing.
use Rattle.std.proofs.Common.{rules, ℕ, ◌+◌, ◌*◌, ◌^◌, ◌&&◌, T, lit<}
use lib.Ieee.{Float}
use Rattle.floats.specs.Operations.{◌⊕◌, ◌⊗◌}
use Rattle.tables.specs.Tables.{entry, log2p1_poly_p}
use Rattle.fast_path.specs.Fast as Fast
use Rattle.fast_path.proofs.Coefficients.{fast_first, fast_second, fast_size}
use Rattle.fast_path.proofs.LogSize.{factor, fast_steps}
use Rattle.bounds.proofs.Scales.{S, unit, unit_left, Bound, at, ok, sum_k, product_k, add_bound, mul_bound}
use Rattle.bounds.proofs.Distances.{Apart, apart_at}
use Rattle.bounds.proofs.Compared.{positive_bound}
use Rattle.bounds.proofs.Apart.{apart_same, product_apart, fmla_aside}
use Rattle.filter.specs.Plain.{plain_factor}

-- a product and a sum
plain_bound : {K L C : ℕ} {x y c : Float} → Bound S K x → Bound S L y → Bound S C c → T (ok K && ok L && ok (product_k K L + C)) → Bound S (sum_k (product_k K L) C) (x ⊗ y ⊕ c)
plain_bound {K} {L} {C} p q r g = add_bound (mul_bound (unit_left unit) p q (search rules) (search rules)) r (search rules)

-- ---- the sizes of the steps
record Steps (z : Float) : Type 0 where
  z2 : Bound S (2 ^ 42) (z ⊗ z)
  z4 : Bound S (2 ^ 32) (z ⊗ z ⊗ (z ⊗ z))
  c5 : Bound S (2 ^ 53) (entry log2p1_poly_p 6 ⊗ z ⊕ entry log2p1_poly_p 5)
  c3 : Bound S (2 ^ 53) (entry log2p1_poly_p 4 ⊗ z ⊕ entry log2p1_poly_p 3)
  c1 : Bound S (1501 * 2 ^ 43) (entry log2p1_poly_p 2 ⊗ z ⊕ entry log2p1_poly_p 1)
  c5' : Bound S (2 ^ 54) (entry log2p1_poly_p 7 ⊗ (z ⊗ z) ⊕ (entry log2p1_poly_p 6 ⊗ z ⊕ entry log2p1_poly_p 5))
  c1' : Bound S (1502 * 2 ^ 43) ((entry log2p1_poly_p 4 ⊗ z ⊕ entry log2p1_poly_p 3) ⊗ (z ⊗ z) ⊕ (entry log2p1_poly_p 2 ⊗ z ⊕ entry log2p1_poly_p 1))

plain_steps : {z : Float} → Bound S (2 ^ 47 + 2 ^ 34) z → Steps z
plain_steps {z} b =
    let one = unit_left unit in
    let z2 = at (2 ^ 42) (mul_bound one b b tt tt) tt in
    let c5 = at (2 ^ 53) (plain_bound (fast_size 3 (lit< tt)) b (fast_size 2 (lit< tt)) tt) tt in
    let c3 = at (2 ^ 53) (plain_bound (fast_size 1 (lit< tt)) b (fast_size 0 (lit< tt)) tt) tt in
    let c1 = at (1501 * 2 ^ 43) (plain_bound fast_second b (positive_bound fast_first) tt) tt in
    record {
      z2 = z2;
      z4 = at (2 ^ 32) (mul_bound one z2 z2 tt tt) tt;
      c5 = c5;
      c3 = c3;
      c1 = c1;
      c5' = at (2 ^ 54) (plain_bound (fast_size 4 (lit< tt)) z2 c5 tt) tt;
      c1' = at (1502 * 2 ^ 43) (plain_bound c3 z2 c1 tt) tt;
    }

-- at most 47/32
pub plain_factor_lem : {z : Float} → Bound S (2 ^ 47 + 2 ^ 34) z → Bound S (47 * 2 ^ 48) (plain_factor z)
unfolding Fast.factor
plain_factor_lem b =
    let s = plain_steps b in
    at (47 * 2 ^ 48) (plain_bound s.c5' s.z4 s.c1' tt) tt

-- ---- the steps side by side
pub factor_beside : {z z' : Float} → Apart S 40 z z' → Bound S (2 ^ 47 + 2 ^ 33) z → Bound S (2 ^ 47 + 2 ^ 34) z' → Apart S 120 (factor z) (plain_factor z')
unfolding Fast.factor
factor_beside {z} {z'} a b b' =
    let one = unit_left unit in
    let s = fast_steps b in
    let s' = plain_steps b' in
    let P1 = positive_bound fast_first in
    let z2 = apart_at 4 (product_apart one a a b b b' b' tt) tt in
    let z4 = apart_at 4 (product_apart one z2 z2 s.z2 s.z2 s'.z2 s'.z2 tt) tt in
    let c5 = apart_at 36 (fmla_aside one (apart_same (entry log2p1_poly_p 6)) a (apart_same (entry log2p1_poly_p 5)) (fast_size 3 (lit< tt)) b (fast_size 2 (lit< tt)) (fast_size 3 (lit< tt)) b' (fast_size 2 (lit< tt)) tt) tt in
    let c3 = apart_at 36 (fmla_aside one (apart_same (entry log2p1_poly_p 4)) a (apart_same (entry log2p1_poly_p 3)) (fast_size 1 (lit< tt)) b (fast_size 0 (lit< tt)) (fast_size 1 (lit< tt)) b' (fast_size 0 (lit< tt)) tt) tt in
    let c1 = apart_at 52 (fmla_aside one (apart_same (entry log2p1_poly_p 2)) a (apart_same (entry log2p1_poly_p 1)) fast_second b P1 fast_second b' P1 tt) tt in
    let c5' = apart_at 60 (fmla_aside one (apart_same (entry log2p1_poly_p 7)) z2 c5 (fast_size 4 (lit< tt)) s.z2 s.c5 (fast_size 4 (lit< tt)) s'.z2 s'.c5 tt) tt in
    let c1' = apart_at 80 (fmla_aside one c3 z2 c1 s.c3 s.z2 s.c1 s'.c3 s'.z2 s'.c1 tt) tt in
    apart_at 120 (fmla_aside one c5' z4 c1' s.c5' s.z4 s.c1' s'.c5' s'.z4 s'.c1' tt) tt
