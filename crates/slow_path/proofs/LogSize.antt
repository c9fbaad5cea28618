-- How large the accurate logarithm's polynomial and sums are: the polynomial is z times a factor of at most 2 (`poly_size`), on the scale of 1 or on that of z. Numbers are on
-- the scale of 1, where 2^53 is 1. Assumes nothing.
use Rattle.std.proofs.Common.{◌≡◌, ℕ, ◌+◌, ◌*◌, ◌^◌, ◌<◌, Bool, ◌&&◌, T, refl, sym, subst, arith, lit<}
use lib.Ieee.{Float}
use Rattle.double_double.specs.declared.DoubleDouble.{DoubleDouble}
use Rattle.double_double.specs.DoubleDouble.{quick_mult_f64, dd_fmla}
use Rattle.slow_path.specs.Slow.{p, with_term, next_log2, higher, log2_poly2, sum_of_logs}
use Rattle.bounds.proofs.Scales.{S, unit, unit_left, Scale, Bound, Bounds, at, ok, sum_k, product_k, fast_k, quick_lo_k, quick_ok, add_bound, fast_bounds, quick_bounds, quick_f64_bounds, fmla_bound}
use Rattle.slow_path.proofs.Coefficients.{log_size, log_second}

-- ---- the accurate polynomial
-- of the loop over the higher coefficients only the last turn counts
pub higher_is : (z : Float) → higher z ≡ dd_fmla z z (p 16)
unfolding higher
higher_is z = refl

-- one step, for a z on any scale
next_size : {μ K k : ℕ} {v z : DoubleDouble} (i : ℕ) → i < 5 → Scale μ → Bounds S (2 ^ 49) (2 ^ 6) v → Bounds μ K k z → T (quick_ok (2 ^ 54) (2 ^ 7) K k)
    → Bounds μ (product_k (2 ^ 54) K) (quick_lo_k (2 ^ 54) (2 ^ 7) K k) (next_log2 v z (2 * i))
unfolding next_log2 with_term
next_size {μ} {K} {k} {v} {z} i h s b c o =
    let t = fast_bounds b.hi (log_size (2 * i) (double i h)) tt in
    let lo = add_bound b.lo (add_bound (at 7 t.lo tt) (log_second i h) tt) tt in
    quick_bounds (unit_left s) (record { hi = at (2 ^ 54) t.hi tt; lo = at (2 ^ 7) lo tt }) c o
  where
    double : (i : ℕ) → i < 5 → 2 * i < 18
    double i h = omega arith

-- the terms of degree 2 and above, for |z| up to 1/64 and a little more
higher_size : {z : DoubleDouble} → Bounds S (2 ^ 47 + 2 ^ 36) 4 z → Bounds S (2 ^ 49) (2 ^ 6) (quick_mult_f64 z (higher z.hi))
higher_size {z} b =
    let one = unit_left unit in
    let h = subst (Bound S (2 ^ 54)) (sym (higher_is z.hi)) (at (2 ^ 54) (fmla_bound one b.hi b.hi (log_size 16 (lit< tt)) tt) tt) in
    let v = quick_f64_bounds one b h tt in
    record { hi = at (2 ^ 49) v.hi tt; lo = at (2 ^ 6) v.lo tt }

abbrev Kept : DoubleDouble → Type 0
Kept v = Bounds S (2 ^ 49) (2 ^ 6) v

keep : {v : DoubleDouble} → Bounds S (product_k (2 ^ 54) (2 ^ 47 + 2 ^ 36)) (quick_lo_k (2 ^ 54) (2 ^ 7) (2 ^ 47 + 2 ^ 36) 4) v → Kept v
keep b = record { hi = at (2 ^ 49) b.hi tt; lo = at (2 ^ 6) b.lo tt }

-- all of it: z at most 1/64 and a little more, and on a scale of its own
pub poly_size : {μ K k : ℕ} {z : DoubleDouble} → Scale μ → Bounds S (2 ^ 47 + 2 ^ 36) 4 z → Bounds μ K k z → T (quick_ok (2 ^ 54) (2 ^ 7) K k)
    → Bounds μ (product_k (2 ^ 54) K) (quick_lo_k (2 ^ 54) (2 ^ 7) K k) (log2_poly2 z)
unfolding log2_poly2
poly_size {μ} {K} {k} {z} s b c o =
    let v = higher_size b in
    let t = fast_bounds v.hi (log_size 10 (lit< tt)) tt in
    let lo = add_bound v.lo (at 7 t.lo tt) tt in
    let v10 = keep (quick_bounds (unit_left unit) (record { hi = at (2 ^ 54) t.hi tt; lo = at (2 ^ 7) lo tt }) b tt) in
    let v8 = keep (next_size 4 (lit< tt) unit v10 b tt) in
    let v6 = keep (next_size 3 (lit< tt) unit v8 b tt) in
    let v4 = keep (next_size 2 (lit< tt) unit v6 b tt) in
    let v2 = keep (next_size 1 (lit< tt) unit v4 b tt) in
    next_size 0 (lit< tt) s v2 c o

-- ---- e + log2_inv + log_p
abbrev pub logs_hi_k : ℕ → ℕ → ℕ → ℕ
logs_hi_k E A B = sum_k (sum_k E A) B

abbrev pub logs_lo_k : ℕ → ℕ → ℕ → ℕ → ℕ → ℕ
logs_lo_k E A a B b = sum_k (fast_k (sum_k E A) B) (sum_k (sum_k (fast_k E A) a) b)

abbrev pub logs_ok : ℕ → ℕ → ℕ → ℕ → ℕ → Bool
logs_ok E A a B b = ok (E + A) && ok (fast_k E A + a) && ok (sum_k E A + B) && ok (sum_k (fast_k E A) a + b) && ok (fast_k (sum_k E A) B + sum_k (sum_k (fast_k E A) a) b)

pub logs_size : {μ E A a B b : ℕ} {e : Float} {x y : DoubleDouble} → Bound μ E e → Bounds μ A a x → Bounds μ B b y → T (logs_ok E A a B b) → Bounds μ (logs_hi_k E A B) (logs_lo_k E A a B b) (sum_of_logs e x y)
unfolding sum_of_logs
logs_size {μ} {E} {A} {a} {B} {b} {e} {x} {y} p q r g =
    let o = five (ok (E + A)) (ok (fast_k E A + a)) (ok (sum_k E A + B)) (ok (sum_k (fast_k E A) a + b)) (ok (fast_k (sum_k E A) B + sum_k (sum_k (fast_k E A) a) b)) g in
    let s = fast_bounds p q.hi o.0 in
    let sLo = add_bound s.lo q.lo o.1 in
    let sum = fast_bounds s.hi r.hi o.2 in
    record { hi = sum.hi; lo = add_bound sum.lo (add_bound sLo r.lo o.3) o.4 }
  where
    five : (a b c d e : Bool) → T (a && b && c && d && e) → T a × T b × T c × T d × T e
    five a b c d e h = grind arith
