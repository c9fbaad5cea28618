-- The polynomials of the power, side by side: where z and z' are 3/2 × 2^-29 from each other, and a little, and at most 1/64 in size, hi of the slow path's is less than 1.053 × 2^-29 from the
-- plain one (`poly_beside`). Both are brought to Horner's form, in which the coefficients are compared one by one. Numbers are on the scale of 1, where 2^53 is 1. Assumes nothing.
use Rattle.std.proofs.Common.{◌≡◌, ℕ, ◌+◌, ◌*◌, ◌^◌, refl, subst, Bool, ◌&&◌, arith, T, leb}
use lib.Ieee.{Float, binary64, fits, of_bits}
use Rattle.floats.specs.Operations.{◌⊕◌, ◌⊗◌}
use Rattle.floats.proofs.Laws.Sums.{add_turned}
use Rattle.double_double.specs.declared.DoubleDouble.{DoubleDouble}
use Rattle.double_double.specs.DoubleDouble.{from_exact_add, from_exact_mult, quick_mult, dd_fmla}
use Rattle.tables.specs.Tables.{entry, expf_poly_q, exp2_poly_q2}
use Rattle.fast_path.specs.Fast.{expf_poly}
use Rattle.slow_path.specs.Slow.{q2, with_term, next_exp2, highest_exp2, compoundf_exp2_poly2}
use Rattle.bounds.proofs.Scales.{S, unit, unit_left, Bound, at, ok, sum_k, product_k, add_bound, mul_bound, fmla_bound, within, tested}
use Rattle.bounds.proofs.Distances.{Apart, apart_at, apart_through, add_apart}
use Rattle.bounds.proofs.Apart.{apart_same, sum_apart_k, product_apart_k, sum_apart, product_apart}
use Rattle.bounds.proofs.Compared.{Positive, positive_at, positive_add}
use Rattle.slow_path.proofs.Coefficients.{q2_first}
use Rattle.filter.specs.Plain.{plain_expf_poly}
use Rattle.slow_filter.proofs.SlowFactor.{apart, tested_apart}
use Rattle.slow_filter.proofs.Regrouped.{sums_apart, spread_apart, products_apart}

-- ---- two values side by side: both at most K, and A from each other
pub record Beside (A K : ℕ) (x x' : Float) : Type 0 where
  pub near : Apart S A x x'
  pub slow : Bound S K x
  pub plain : Bound S K x'

-- of two that are known, by computing
tested_beside : (A K : ℕ) (x y : Float) → T (apart A x y) → T (within K x) → T (within K y) → Beside A K x y
tested_beside A K x y t p q = record { near = tested_apart A x y t; slow = tested K x p; plain = tested K y q }

-- ---- the coefficients
-- of Q
abbrev q : ℕ → Float
q i = entry expf_poly_q i

-- those of Q2 beside them: at most 1, 0.69317, 0.24024, 0.05552 and 0.00963
coefficients : Beside 0 (2 ^ 53) (q2 0) (q 0) × Beside 223701 (45427 * 2 ^ 37) (q2 1) (q 1) × Beside 46518 (15744 * 2 ^ 37) (q2 3) (q 2) × Beside 3665113011 (3638 * 2 ^ 37) (q2 5) (q 3) × Beside 525028066 (631 * 2 ^ 37) (q2 7) (q 4)
unfolding entry expf_poly_q exp2_poly_q2 of_bits fits
coefficients = (
  tested_beside 0 (2 ^ 53) (q2 0) (q 0) tt tt tt,
  tested_beside 223701 (45427 * 2 ^ 37) (q2 1) (q 1) tt tt tt,
  tested_beside 46518 (15744 * 2 ^ 37) (q2 3) (q 2) tt tt tt,
  tested_beside 3665113011 (3638 * 2 ^ 37) (q2 5) (q 3) tt tt tt,
  tested_beside 525028066 (631 * 2 ^ 37) (q2 7) (q 4) tt tt tt,
)

-- the others of Q2: at most 0.00135, 0.00017, and 2^-16
higher_sizes : Bound S (88 * 2 ^ 37) (q2 8) × Bound S (11 * 2 ^ 37) (q2 9) × Bound S (2 ^ 37) (q2 10) × Bound S (2 ^ 37) (q2 11)
unfolding entry exp2_poly_q2 of_bits fits
higher_sizes = (tested (88 * 2 ^ 37) (q2 8) tt, tested (11 * 2 ^ 37) (q2 9) tt, tested (2 ^ 37) (q2 10) tt, tested (2 ^ 37) (q2 11) tt)

-- ---- the plain polynomial in Horner's form
-- from degree 2 up, as the plain one has it
plain_upper : Float → Float
plain_upper z = (q 4 ⊗ z ⊕ q 3) ⊗ z ⊕ q 2

record PlainHorner (z : Float) : Type 0 where
  bound : Bound S (5 * 2 ^ 51) (plain_expf_poly z)
  near : Apart S 32 ((plain_upper z ⊗ z ⊕ q 1) ⊗ z ⊕ q 0) (plain_expf_poly z)

plain_horner : {z : Float} → Bound S (2 ^ 47) z → Bound S (2 ^ 51) (plain_upper z) → PlainHorner z
unfolding plain_upper expf_poly
plain_horner {z} b c =
    let one = unit_left unit in
    let c1 = coefficients.1.plain in
    let c0 = coefficients.0.plain in
    let cz = mul_bound one c b tt tt in
    let czz = mul_bound one cz b tt tt in
    let cz2 = mul_bound one c (mul_bound one b b tt tt) tt tt in
    let c1z = mul_bound one c1 b tt tt in
    let spread = spread_apart cz c1 b tt tt tt tt tt tt in
    let regrouped = sum_apart (products_apart c b b tt tt tt tt tt) (apart_same (q 1 ⊗ z)) czz c1z cz2 c1z tt tt in
    let factor = mul_bound one (add_bound cz c1 tt) b tt tt in
    record {
      bound = at (5 * 2 ^ 51) (add_bound cz2 (add_bound c1z c0 tt) tt) tt;
      near = apart_at 32 (apart_through (sum_apart (apart_through spread regrouped) (apart_same (q 0)) factor c0 (add_bound cz2 c1z tt) c0 tt tt) (sums_apart cz2 c1z c0 tt tt tt tt)) tt;
    }

-- ---- one step of the two
abbrev pub apart_z : ℕ
apart_z = 2 ^ 24 + 2 ^ 23 + 2 ^ 10

step : {A K C L : ℕ} {x x' c c' z z' : Float} (E M : ℕ) → Beside A K x x' → Beside C L c c' → Beside apart_z (2 ^ 47) z z' → T (ok K && ok (2 ^ 47) && ok K && ok (2 ^ 47)) → T (ok (product_k K (2 ^ 47) + L))
    → T (leb (sum_apart_k (product_apart_k A apart_z K (2 ^ 47) K (2 ^ 47)) C (product_k K (2 ^ 47) + L) (product_k K (2 ^ 47) + L)) E) → T (leb (sum_k (product_k K (2 ^ 47)) L) M) → Beside E M (c ⊕ x ⊗ z) (x' ⊗ z' ⊕ c')
step {K = K} {x = x} {x' = x'} {c = c} {c' = c'} {z = z} {z' = z'} E M p r b f g h i =
    let one = unit_left unit in
    let k = first (ok K) (ok (2 ^ 47)) (ok K) (ok (2 ^ 47)) f in
    let m = mul_bound one p.slow b.slow k tt in
    let m' = mul_bound one p.plain b.plain k tt in
    subst (λ (w : Float). Beside E M w (x' ⊗ z' ⊕ c')) (add_turned binary64 (x ⊗ z) c) (record {
      near = apart_at E (sum_apart (product_apart one p.near b.near p.slow b.slow p.plain b.plain f) r.near m r.slow m' r.plain g g) h;
      slow = at M (add_bound m r.slow g) i;
      plain = at M (add_bound m' r.plain g) i;
    })
  where
    first : (a b c d : Bool) → T (a && b && c && d) → T a
    first a b c d h = grind arith

-- ---- what the terms of degree 5 and above add to the coefficient of degree 4
abbrev pub above : Float → Float
above z = dd_fmla (dd_fmla (q2 11) z (q2 10)) (z ⊗ z) (dd_fmla (q2 9) z (q2 8)) ⊗ z

-- ---- all of it
pub record PolyBeside (p p' : Float) : Type 0 where
  pub slow : Positive (7 * 2 ^ 50) (9 * 2 ^ 50) p
  pub plain : Bound S (5 * 2 ^ 51) p'
  pub near : Apart S 17664400 p p'

module _ (z : DoubleDouble) (z' : Float) (b : Beside apart_z (2 ^ 47) z.hi z') where
  above_bound : Bound S (91 * 2 ^ 31) (above z.hi)
  above_bound =
      let one = unit_left unit in
      let h2 = at (2 ^ 42) (mul_bound one b.slow b.slow tt tt) tt in
      let c7 = at (2 ^ 38) (fmla_bound one higher_sizes.3 b.slow higher_sizes.2 tt) tt in
      let c5 = at (89 * 2 ^ 37) (fmla_bound one higher_sizes.1 b.slow higher_sizes.0 tt) tt in
      at (91 * 2 ^ 31) (mul_bound one (at (90 * 2 ^ 37) (fmla_bound one c7 h2 c5 tt) tt) b.slow tt tt) tt

  hi_is : q2 0 ⊕ (q2 1 ⊕ (q2 3 ⊕ (q2 5 ⊕ (q2 7 ⊕ above z.hi) ⊗ z.hi) ⊗ z.hi) ⊗ z.hi) ⊗ z.hi ≡ (compoundf_exp2_poly2 z).hi
  unfolding compoundf_exp2_poly2 with_term next_exp2 highest_exp2 quick_mult from_exact_mult from_exact_add
  hi_is = refl

  degree_4 : Beside 195946040035 (634 * 2 ^ 37) (q2 7 ⊕ above z.hi) (q 4)
  degree_4 = record {
    near = apart_through (add_apart coefficients.4.slow above_bound tt) coefficients.4.near;
    slow = at (634 * 2 ^ 37) (add_bound coefficients.4.slow above_bound tt) tt;
    plain = at (634 * 2 ^ 37) coefficients.4.plain tt;
  }

  pub poly_beside : PolyBeside (compoundf_exp2_poly2 z).hi (plain_expf_poly z')
  unfolding plain_upper
  poly_beside =
      let degree_3 = step 6727100000 (3648 * 2 ^ 37) degree_4 coefficients.3 b tt tt tt tt in
      let degree_2 = step 106750000 (15802 * 2 ^ 37) degree_3 coefficients.2 b tt tt tt tt in
      let degree_1 = step 7960000 (45674 * 2 ^ 37) degree_2 coefficients.1 b tt tt tt tt in
      let degree_0 = step 17664350 (66250 * 2 ^ 37) degree_1 coefficients.0 b tt tt tt tt in
      let plain = plain_horner b.plain (at (2 ^ 51) degree_2.plain tt) in
      subst (λ (w : Float). PolyBeside w (plain_expf_poly z')) hi_is (record {
        slow = positive_at (7 * 2 ^ 50) (9 * 2 ^ 50) (positive_add q2_first (mul_bound (unit_left unit) degree_1.slow b.slow tt tt) tt tt) tt tt;
        plain = plain.bound;
        near = apart_at 17664400 (apart_through degree_0.near plain.near) tt;
      })
