-- The accurate logarithm's polynomial beside the fast one: hi of `log2_poly2` is z.hi times a factor (`slow_is`), which for an s and a z at most 100 × 2^-53 from each other is
-- 45000 × 2^-53 from the fast path's at most (`slow_beside`). Most of it is the term of degree 7, whose coefficient is that of degree 12. Numbers are on the scale of 1, where 2^53
-- is 1. Assumes nothing.
use Rattle.std.proofs.Common.{◌≡◌, ℕ, ◌+◌, ◌*◌, ◌^◌, refl, ap₂, subst, Bool, true, false, ◌&&◌, mul_comm, T, leb, leb→le, lit<, ℤ}
use lib.Ieee.{Float, fin, binary64, up, down, unlike, round, mul, of_bits}
use lib.Ieee.Fits.{and_l, and_r}
use Rattle.floats.specs.Operations.{◌⊕◌, ◌⊗◌}
use Rattle.double_double.specs.declared.DoubleDouble.{DoubleDouble}
use Rattle.double_double.specs.DoubleDouble.{from_exact_add, from_exact_mult, quick_mult, quick_mult_f64, dd_fmla}
use Rattle.tables.specs.Tables.{entry, log2p1_poly_p, log2p1_log2_poly}
use Rattle.fast_path.specs.Fast as Fast
use Rattle.fast_path.proofs.Coefficients.{fast_first, fast_second, fast_size}
use Rattle.fast_path.proofs.LogSize.{factor, fast_steps}
use Rattle.slow_path.specs.Slow.{p, with_term, next_log2, higher, log2_poly2}
use Rattle.slow_path.proofs.Coefficients.{log_size}
use Rattle.bounds.proofs.Values.{plus, less, Number, of_numbers}
use Rattle.bounds.proofs.Scales.{S, unit, unit_left, Bound, at, add_bound, mul_bound, fmla_bound}
use Rattle.bounds.proofs.Distances.{Apart, apart_at, apart_through, fmla_apart}
use Rattle.bounds.proofs.Compared.{positive_bound}
use Rattle.bounds.proofs.Apart.{apart_same, apart_turned, sum_apart, product_apart, fmla_aside}
use Rattle.slow_filter.proofs.Nested.{regrouped}

-- ---- the factor
-- its coefficient of degree 7
abbrev seventh : Float → Float
seventh z = dd_fmla z z (p 16)

-- from degree 5 on, and from degree 3 on
abbrev fifth : Float → Float
fifth z = (z ⊗ seventh z ⊕ p 10) ⊗ z ⊕ p 8

abbrev third : Float → Float
third z = (fifth z ⊗ z ⊕ p 6) ⊗ z ⊕ p 4

abbrev pub slow_factor : Float → Float
slow_factor z = (third z ⊗ z ⊕ p 2) ⊗ z ⊕ p 0

pub slow_is : (z : DoubleDouble) → (log2_poly2 z).hi ≡ slow_factor z.hi ⊗ z.hi
unfolding log2_poly2 next_log2 with_term higher quick_mult quick_mult_f64 from_exact_mult from_exact_add
slow_is z = refl

-- ---- the coefficients beside the fast path's
-- two that are known are apart by computing
abbrev pub apart : ℕ → Float → Float → Bool
apart K x y = leb (plus x + less y) (less x + plus y + K * 2 ^ 1021) && leb (plus y + less x) (less y + plus x + K * 2 ^ 1021)

pub tested_apart : (K : ℕ) (x y : Float) → T (apart K x y) → Apart S K x y
unfolding S
tested_apart K x y t = record {
  over = leb→le (plus x + less y) (less x + plus y + K * 2 ^ 1021) (and_l (leb (plus x + less y) (less x + plus y + K * 2 ^ 1021)) (leb (plus y + less x) (less y + plus x + K * 2 ^ 1021)) t);
  under = leb→le (plus y + less x) (less y + plus x + K * 2 ^ 1021) (and_r (leb (plus x + less y) (less x + plus y + K * 2 ^ 1021)) (leb (plus y + less x) (less y + plus x + K * 2 ^ 1021)) t);
}

record Coefficients : Type 0 where
  c1 : Apart S 0 (entry log2p1_poly_p 1) (p 0)
  c2 : Apart S 2579 (entry log2p1_poly_p 2) (p 2)
  c3 : Apart S 9740 (entry log2p1_poly_p 3) (p 4)
  c4 : Apart S 84647102 (entry log2p1_poly_p 4) (p 6)
  c5 : Apart S 143308280 (entry log2p1_poly_p 5) (p 8)
  c6 : Apart S 693880116535 (entry log2p1_poly_p 6) (p 10)
  c7 : Apart S 2940789039753674 (entry log2p1_poly_p 7) (p 16)

coefficients : Coefficients
unfolding entry log2p1_poly_p log2p1_log2_poly of_bits
coefficients = record {
  c1 = tested_apart 0 (entry log2p1_poly_p 1) (p 0) tt;
  c2 = tested_apart 2579 (entry log2p1_poly_p 2) (p 2) tt;
  c3 = tested_apart 9740 (entry log2p1_poly_p 3) (p 4) tt;
  c4 = tested_apart 84647102 (entry log2p1_poly_p 4) (p 6) tt;
  c5 = tested_apart 143308280 (entry log2p1_poly_p 5) (p 8) tt;
  c6 = tested_apart 693880116535 (entry log2p1_poly_p 6) (p 10) tt;
  c7 = tested_apart 2940789039753674 (entry log2p1_poly_p 7) (p 16) tt;
}

-- ---- the factors of a product the other way round
pub mul_turned : (x y : Float) → Number x → Number y → x ⊗ y ≡ y ⊗ x
unfolding mul
mul_turned = of_numbers (λ (x y : Float). x ⊗ y ≡ y ⊗ x) (λ s m e t n d f g. finite s m e t n d)
  where
    signs : (s t : Bool) → unlike s t ≡ unlike t s
    signs true true = refl
    signs true false = refl
    signs false true = refl
    signs false false = refl

    finite : (s : Bool) (m : ℕ) (e : ℤ) (t : Bool) (n : ℕ) (d : ℤ) → fin s m e ⊗ fin t n d ≡ fin t n d ⊗ fin s m e
    finite s m e t n d =
        subst (λ (u : Bool). round binary64 (unlike s t) (m * up e * (n * up d)) (down e * down d) ≡ round binary64 u (n * up d * (m * up e)) (down d * down e)) (signs s t)
        (ap₂ (round binary64 (unlike s t)) (mul_comm (m * up e) (n * up d)) (mul_comm (down e) (down d)))

-- ---- sizes
record Steps (z : Float) : Type 0 where
  z2 : Bound S (2 ^ 41 + 2 ^ 32) (z ⊗ z)
  z4 : Bound S (2 ^ 29 + 3 * 2 ^ 20) (z ⊗ z ⊗ (z ⊗ z))
  seven : Bound S (2 ^ 54) (seventh z)
  five : Bound S (2 ^ 54) (fifth z)
  three : Bound S (2 ^ 54) (third z)
  pub all : Bound S (2 ^ 54) (slow_factor z)
  last : Bound S (2 ^ 54) (p 10 ⊗ z ⊕ p 8)
  middle : Bound S (2 ^ 54) (p 6 ⊗ z ⊕ p 4)
  first : Bound S (2 ^ 54) (p 2 ⊗ z ⊕ p 0)

slow_steps : {z : Float} → Bound S (2 ^ 47 + 2 ^ 36) z → Steps z
slow_steps {z} b =
    let one = unit_left unit in
    let z2 = at (2 ^ 41 + 2 ^ 32) (mul_bound one b b tt tt) tt in
    let seven = at (2 ^ 54) (fmla_bound one b b (log_size 16 (lit< tt)) tt) tt in
    let five = at (2 ^ 54) (add_bound (mul_bound one (at (2 ^ 54) (add_bound (mul_bound one b seven tt tt) (log_size 10 (lit< tt)) tt) tt) b tt tt) (log_size 8 (lit< tt)) tt) tt in
    let three = at (2 ^ 54) (add_bound (mul_bound one (at (2 ^ 54) (add_bound (mul_bound one five b tt tt) (log_size 6 (lit< tt)) tt) tt) b tt tt) (log_size 4 (lit< tt)) tt) tt in
    record {
      z2 = z2;
      z4 = at (2 ^ 29 + 3 * 2 ^ 20) (mul_bound one z2 z2 tt tt) tt;
      seven = seven;
      five = five;
      three = three;
      all = at (2 ^ 54) (add_bound (mul_bound one (at (2 ^ 54) (add_bound (mul_bound one three b tt tt) (log_size 2 (lit< tt)) tt) tt) b tt tt) (log_size 0 (lit< tt)) tt) tt;
      last = at (2 ^ 54) (add_bound (mul_bound one (log_size 10 (lit< tt)) b tt tt) (log_size 8 (lit< tt)) tt) tt;
      middle = at (2 ^ 54) (add_bound (mul_bound one (log_size 6 (lit< tt)) b tt tt) (log_size 4 (lit< tt)) tt) tt;
      first = at (2 ^ 54) (add_bound (mul_bound one (log_size 2 (lit< tt)) b tt tt) (log_size 0 (lit< tt)) tt) tt;
    }

pub slow_size : {z : Float} → Bound S (2 ^ 47 + 2 ^ 36) z → Bound S (2 ^ 54) (slow_factor z)
slow_size b = (slow_steps b).all

-- ---- the factor in the fast path's form
fifth_form : {z : Float} → Bound S (2 ^ 47 + 2 ^ 36) z → Apart S 40 (fifth z) (seventh z ⊗ (z ⊗ z) ⊕ (p 10 ⊗ z ⊕ p 8))
fifth_form {z} b =
    let s = slow_steps b in
    subst (λ (k : Float). Apart S 40 ((k ⊕ p 10) ⊗ z ⊕ p 8) (seventh z ⊗ (z ⊗ z) ⊕ (p 10 ⊗ z ⊕ p 8))) (mul_turned (seventh z) z s.seven.number b.number)
    (apart_at 40 (regrouped s.seven b (log_size 10 (lit< tt)) (log_size 8 (lit< tt)) tt) tt)

third_form : {z : Float} → Bound S (2 ^ 47 + 2 ^ 36) z → Apart S 40 (third z) (fifth z ⊗ (z ⊗ z) ⊕ (p 6 ⊗ z ⊕ p 4))
third_form b = apart_at 40 (regrouped (slow_steps b).five b (log_size 6 (lit< tt)) (log_size 4 (lit< tt)) tt) tt

factor_form : {z : Float} → Bound S (2 ^ 47 + 2 ^ 36) z → Apart S 120 (slow_factor z) (fifth z ⊗ (z ⊗ z ⊗ (z ⊗ z)) ⊕ ((p 6 ⊗ z ⊕ p 4) ⊗ (z ⊗ z) ⊕ (p 2 ⊗ z ⊕ p 0)))
factor_form {z} b =
    let one = unit_left unit in
    let s = slow_steps b in
    let form = at (2 ^ 55) (add_bound (mul_bound one s.five s.z2 tt tt) s.middle tt) tt in
    let outer = apart_at 40 (regrouped s.three b (log_size 2 (lit< tt)) (log_size 0 (lit< tt)) tt) tt in
    let inner = apart_at 40 (sum_apart (product_apart one (third_form b) (apart_same (z ⊗ z)) s.three s.z2 form s.z2 tt) (apart_same (p 2 ⊗ z ⊕ p 0)) (mul_bound one s.three s.z2 tt tt) s.first (mul_bound one form s.z2 tt tt) s.first tt tt) tt in
    apart_through outer (apart_through inner (apart_at 40 (regrouped s.five s.z2 s.middle s.first tt) tt))

-- ---- side by side
pub slow_beside : {s z : Float} → Apart S 100 s z → Bound S (2 ^ 47 + 2 ^ 36) s → Bound S (2 ^ 47 + 2 ^ 33) z → Apart S 45000 (slow_factor s) (factor z)
unfolding Fast.factor
slow_beside {s} {z} a b b' =
    let one = unit_left unit in
    let c = coefficients in
    let i = slow_steps b in
    let j = fast_steps b' in
    let P1 = positive_bound fast_first in
    let z2 : Bound S (2 ^ 41 + 2 ^ 32) (z ⊗ z) = at (2 ^ 41 + 2 ^ 32) (mul_bound one b' b' tt tt) tt in
    let z4 : Bound S (2 ^ 29 + 3 * 2 ^ 20) (z ⊗ z ⊗ (z ⊗ z)) = at (2 ^ 29 + 3 * 2 ^ 20) (mul_bound one z2 z2 tt tt) tt in
    let t = apart_turned a in
    let t2 = apart_at 8 (product_apart one t t b' b' b b tt) tt in
    let t4 = apart_at 4 (product_apart one t2 t2 z2 z2 i.z2 i.z2 tt) tt in
    let seven = apart_at 2943000000000000 (apart_through c.c7 (apart_turned (fmla_apart one b b (log_size 16 (lit< tt)) tt))) tt in
    let last = apart_at 11000000000 (fmla_aside one c.c6 t c.c5 (fast_size 3 (lit< tt)) b' (fast_size 2 (lit< tt)) (log_size 10 (lit< tt)) b (log_size 8 (lit< tt)) tt) tt in
    let five = apart_at 731000000000 (apart_through (fmla_aside one seven t2 last (fast_size 4 (lit< tt)) z2 j.c5 i.seven i.z2 i.last tt) (apart_turned (fifth_form b))) tt in
    let middle = apart_at 1333000 (fmla_aside one c.c4 t c.c3 (fast_size 1 (lit< tt)) b' (fast_size 0 (lit< tt)) (log_size 6 (lit< tt)) b (log_size 4 (lit< tt)) tt) tt in
    let first = apart_at 240 (fmla_aside one c.c2 t c.c1 fast_second b' P1 (log_size 2 (lit< tt)) b (log_size 0 (lit< tt)) tt) tt in
    let form = at (2 ^ 55) (add_bound (mul_bound one i.middle i.z2 tt tt) i.first tt) tt in
    let half = apart_at 620 (fmla_aside one middle t2 first j.c3 z2 j.c1 i.middle i.z2 i.first tt) tt in
    apart_turned (apart_at 45000 (apart_through (fmla_aside one five t4 half j.c5' z4 j.c1' i.five i.z4 form tt) (apart_turned (factor_form b))) tt)
