-- How large the fast logarithm's polynomial is: z times a factor from 91/64 to 47/32 (`fast_factor`), so that it is as large as z at least; and how large its sums are, beside the
-- exponent (`whole_large`), the inverse's logarithm (`part_least`, `part_large`), or beside z where that is 0 (`near_least`). Numbers are on the scale of 1, where 2^53 is 1. Assumes nothing.
use Rattle.std.proofs.Common.{◌≡◌, ℕ, ◌+◌, ◌-◌, ◌*◌, ◌^◌, ◌<◌, ◌≤◌, sym, refl, ap, ◌∙◌, subst, le_trans, le_of_eq, le_refl, le-add_right, mul-le-mul_right, mul-le-mul, mul_right_comm, le_of_mul-le-mul_right, arith, lit<, pow_pos}
use lib.Ieee.{Float}
use Rattle.floats.specs.Operations.{◌⊕◌, ◌⊗◌}
use Rattle.double_double.specs.DoubleDouble.{dd_fmla}
use Rattle.tables.specs.Tables.{entry, log2p1_poly_p}
use Rattle.fast_path.specs.Fast as Fast
use Rattle.bounds.proofs.Values.{per_one, plus, less, mag}
use Rattle.bounds.proofs.Operation.{mul_near}
use Rattle.bounds.proofs.Scales.{S, S_pos, one_is, unit, unit_left, unit_right, Bound, at, add_bound, mul_bound, mul_limit, fmla_bound}
use Rattle.bounds.proofs.Distances.{Apart, apart_at, apart_through, add_apart, add_apart_right, fmla_apart, not_less}
use Rattle.bounds.proofs.Compared.{Positive, positive_at, positive_bound, positive_near}
use Rattle.bounds.proofs.OwnScale.{Nil, nil_bound, Own}
use Rattle.fast_path.proofs.Coefficients.{fast_first, fast_second, fast_size}
use Rattle.fast_path.proofs.Reduced.{Power}

-- ---- the fast polynomial
-- what z is multiplied by
abbrev pub factor : Float → Float
factor z = Fast.factor dd_fmla z

pub fast_is : (z : Float) → Fast.log2p1_polyeval1 z ≡ z ⊗ factor z
fast_is z = refl

-- the steps of it
pub record Steps (z : Float) : Type 0 where
  pub z2 : Bound S (2 ^ 42) (z ⊗ z)
  pub z4 : Bound S (2 ^ 32) (z ⊗ z ⊗ (z ⊗ z))
  pub c5 : Bound S (2 ^ 53) (dd_fmla (entry log2p1_poly_p 6) z (entry log2p1_poly_p 5))
  pub c3 : Bound S (2 ^ 53) (dd_fmla (entry log2p1_poly_p 4) z (entry log2p1_poly_p 3))
  pub c1 : Bound S (3 * 2 ^ 52) (dd_fmla (entry log2p1_poly_p 2) z (entry log2p1_poly_p 1))
  pub c5' : Bound S (2 ^ 54) (dd_fmla (entry log2p1_poly_p 7) (z ⊗ z) (dd_fmla (entry log2p1_poly_p 6) z (entry log2p1_poly_p 5)))
  pub c1' : Bound S (13 * 2 ^ 50) (dd_fmla (dd_fmla (entry log2p1_poly_p 4) z (entry log2p1_poly_p 3)) (z ⊗ z) (dd_fmla (entry log2p1_poly_p 2) z (entry log2p1_poly_p 1)))

pub fast_steps : {z : Float} → Bound S (2 ^ 47 + 2 ^ 33) z → Steps z
fast_steps {z} b =
    let one = unit_left unit in
    let z2 = at (2 ^ 42) (mul_bound one b b tt tt) tt in
    let c5 = at (2 ^ 53) (fmla_bound one (fast_size 3 (lit< tt)) b (fast_size 2 (lit< tt)) tt) tt in
    let c3 = at (2 ^ 53) (fmla_bound one (fast_size 1 (lit< tt)) b (fast_size 0 (lit< tt)) tt) tt in
    let c1 = at (3 * 2 ^ 52) (fmla_bound one fast_second b (positive_bound fast_first) tt) tt in
    record {
      z2 = z2;
      z4 = at (2 ^ 32) (mul_bound one z2 z2 tt tt) tt;
      c5 = c5;
      c3 = c3;
      c1 = c1;
      c5' = at (2 ^ 54) (fmla_bound one (fast_size 4 (lit< tt)) z2 c5 tt) tt;
      c1' = at (13 * 2 ^ 50) (fmla_bound one c3 z2 c1 tt) tt;
    }

pub fast_factor : {z : Float} → Bound S (2 ^ 47 + 2 ^ 33) z → Positive (91 * 2 ^ 47) (47 * 2 ^ 48) (factor z)
unfolding Fast.factor
fast_factor {z} b =
    let one = unit_left unit in
    let s = fast_steps b in
    positive_at (91 * 2 ^ 47) (47 * 2 ^ 48)
    (positive_near (fmla_bound one s.c5' s.z4 s.c1' tt).number
    (apart_through (fmla_apart one s.c5' s.z4 s.c1' tt) (apart_through (fmla_apart one s.c3 s.z2 s.c1 tt) (fmla_apart one fast_second b (positive_bound fast_first) tt))) fast_first tt) tt tt

-- z times it
pub product_size : {z : Float} → Bound S (2 ^ 47 + 2 ^ 33) z → Bound S (47 * 2 ^ 42 + 2 ^ 36) (z ⊗ factor z)
product_size b = at (47 * 2 ^ 42 + 2 ^ 36) (mul_bound (unit_left unit) b (positive_bound (fast_factor b)) tt tt) tt

-- ---- the sum with the inverse's logarithm a, and with the exponent e
pub part_size : {a p : Float} → Bound S (33 * 2 ^ 47) a → Bound S (47 * 2 ^ 42 + 2 ^ 36) p → Bound S (35 * 2 ^ 47) (a ⊕ p)
part_size q r = at (35 * 2 ^ 47) (add_bound q r tt) tt

pub nil_size : {e w : Float} → Nil e → Bound S (35 * 2 ^ 47) w → Bound S (2 ^ 62) (e ⊕ w)
nil_size n b = at (2 ^ 62) (add_bound (nil_bound S unit n) b tt) tt

-- where e is 0 it is |a|, but for 48 × 2^42 and little more
pub part_least : {e a p : Float} → Nil e → Bound S (33 * 2 ^ 47) a → Bound S (47 * 2 ^ 42 + 2 ^ 36) p → mag a ≤ mag (e ⊕ (a ⊕ p)) + (4 + 48 * 2 ^ 42) * S
part_least n q r = not_less (apart_through (apart_at 4 (add_apart_right (nil_bound S unit n) (part_size q r) tt) tt) (apart_at (48 * 2 ^ 42) (add_apart q r tt) tt))

-- so it is 21/2048 at least where |a| is 35/1024
pub part_large : {e a p : Float} → Nil e → Bound S (33 * 2 ^ 47) a → Bound S (47 * 2 ^ 42 + 2 ^ 36) p → 35 * 2 ^ 43 * S ≤ mag a → 21 * 2 ^ 42 * S ≤ mag (e ⊕ (a ⊕ p))
part_large {e} {a} {p} n q r h = from_a (mag a) (mag (e ⊕ (a ⊕ p))) S h (part_least n q r)
  where
    from_a : (a l s : ℕ) → 35 * 2 ^ 43 * s ≤ a → a ≤ l + (4 + 48 * 2 ^ 42) * s → 21 * 2 ^ 42 * s ≤ l
    from_a a l s g h = omega arith

-- where e is not 0 it is at most 150, and the sum 25/64 at least
in_parts : (k : ℕ) → k * per_one ≡ k * 2 ^ 53 * S
in_parts k = ap (λ (w : ℕ). k * w) one_is ∙ go k S
  where
    go : (k s : ℕ) → k * (s * 2 ^ 53) ≡ k * 2 ^ 53 * s
    go k s = omega arith

pub power_size : {e : Float} → Power e → Bound S (150 * 2 ^ 53) e
power_size w = record { scale = unit; number = w.number; size = le_trans (le_of_eq w.is) (le_trans (mul-le-mul_right per_one w.most) (le_of_eq (in_parts 150))) }

pub whole_large : {e w : Float} → Power e → Bound S (35 * 2 ^ 47) w → 25 * 2 ^ 47 * S ≤ mag (e ⊕ w)
whole_large {e} {w} p b =
    from_e (mag e) (mag (e ⊕ w)) S (le_trans (le_of_eq (sym (in_parts 1))) (le_trans (mul-le-mul_right per_one p.least) (le_of_eq (sym p.is)))) (not_less (apart_at (39 * 2 ^ 47) (add_apart (power_size p) b tt) tt))
  where
    from_e : (e l s : ℕ) → 2 ^ 53 * s ≤ e → e ≤ l + 39 * 2 ^ 47 * s → 25 * 2 ^ 47 * s ≤ l
    from_e e l s g h = omega arith

-- where a is 0 too it is p, but for two roundings, on any scale
pub nil_sums : {μ : ℕ} {e a p : Float} → Nil e → Nil a → Bound μ (3 * 2 ^ 52) p → Apart μ 16 (e ⊕ (a ⊕ p)) p
nil_sums {μ} n m b =
    let w = at (2 ^ 54) (add_bound (nil_bound μ b.scale m) b tt) tt in
    apart_through (apart_at 8 (add_apart_right (nil_bound μ b.scale n) w tt) tt) (apart_at 8 (add_apart_right (nil_bound μ b.scale m) b tt) tt)

-- ---- z on its own scale
pub own_product : {σ : ℕ} {z : Float} → Own σ z → Bound S (2 ^ 47 + 2 ^ 33) z → Bound σ (3 * 2 ^ 52) (z ⊗ factor z)
own_product o b = at (3 * 2 ^ 52) (mul_bound (unit_right o.bound.scale) o.bound (positive_bound (fast_factor b)) tt tt) tt

-- the product is 91/64 of z at least, but for the rounding
own_least : {σ : ℕ} {z : Float} → Own σ z → Bound S (2 ^ 47 + 2 ^ 33) z → 91 * 2 ^ 47 * σ ≤ mag (z ⊗ factor z) + 4 * σ
own_least {σ} {z} o b =
    let f = fast_factor b in
    let scale = o.bound.scale in
    let m = mul_near b.number f.number (mul_limit (unit_right scale) o.bound (positive_bound f) tt tt) in
    from_below (mag (z ⊗ factor z)) (mag z) (mag (factor z)) σ S S_pos scale.positive o.is (le_trans f.least (le-add_right (plus (factor z)) (less (factor z))))
    (subst (λ (w : ℕ). mag z * mag (factor z) * 2 ^ 53 ≤ mag (z ⊗ factor z) * w * 2 ^ 53 + mag z * mag (factor z) + w * 2 ^ 52) one_is m.least)
  where
    from_below : (m x f k s : ℕ) → 0 < s → 0 < k → x ≡ 2 ^ 53 * k → 91 * 2 ^ 47 * s ≤ f → x * f * 2 ^ 53 ≤ m * (s * 2 ^ 53) * 2 ^ 53 + x * f + s * 2 ^ 53 * 2 ^ 52 → 91 * 2 ^ 47 * k ≤ m + 4 * k
    from_below m x f k s s0 k0 e l h =
        third m k k0 (le_of_mul-le-mul_right (second (x * f) m k s (first x f k s e l) (alone (x * f) m s h)) s0)
      where
        alone : (w m s : ℕ) → w * 2 ^ 53 ≤ m * (s * 2 ^ 53) * 2 ^ 53 + w + s * 2 ^ 53 * 2 ^ 52 → w * (2 ^ 53 - 1) ≤ m * s * 2 ^ 106 + s * 2 ^ 105
        alone w m s h = omega arith

        first : (x f k s : ℕ) → x ≡ 2 ^ 53 * k → 91 * 2 ^ 47 * s ≤ f → 91 * (k * s) * 2 ^ 100 ≤ x * f
        first x f k s e l = le_trans (le_of_eq (gather k s)) (le_trans (mul-le-mul (le_refl (2 ^ 53 * k)) l) (le_of_eq (ap (λ (z : ℕ). z * f) (sym e))))
          where
            gather : (k s : ℕ) → 91 * (k * s) * 2 ^ 100 ≡ 2 ^ 53 * k * (91 * 2 ^ 47 * s)
            gather k s = omega arith

        hundred : (m s : ℕ) → m * s * 2 ^ 106 + s * 2 ^ 105 ≡ (m * 2 ^ 6 + 2 ^ 5) * s * 2 ^ 100
        hundred m s = omega arith

        second : (w m k s : ℕ) → 91 * (k * s) * 2 ^ 100 ≤ w → w * (2 ^ 53 - 1) ≤ m * s * 2 ^ 106 + s * 2 ^ 105 → 91 * k * (2 ^ 53 - 1) * s ≤ (m * 2 ^ 6 + 2 ^ 5) * s
        second w m k s g h =
            le_trans (le_of_eq (around k s))
            (le_of_mul-le-mul_right (le_trans (le_of_eq (mul_right_comm (91 * (k * s)) (2 ^ 53 - 1) (2 ^ 100))) (le_trans (mul-le-mul_right (2 ^ 53 - 1) g) (le_trans h (le_of_eq (hundred m s))))) (pow_pos 100))
          where
            around : (k s : ℕ) → 91 * k * (2 ^ 53 - 1) * s ≡ 91 * (k * s) * (2 ^ 53 - 1)
            around k s = omega arith

        third : (m k : ℕ) → 0 < k → 91 * k * (2 ^ 53 - 1) ≤ m * 2 ^ 6 + 2 ^ 5 → 91 * 2 ^ 47 * k ≤ m + 4 * k
        third m k k0 h = omega arith

-- so the logarithm is 11/8 of z at least
pub near_least : {σ : ℕ} {e a z : Float} → Nil e → Nil a → Own σ z → Bound S (2 ^ 47 + 2 ^ 33) z → 11 * 2 ^ 50 * σ ≤ mag (e ⊕ (a ⊕ z ⊗ factor z))
near_least {σ} {e} {a} {z} n m o b = from_p (mag (z ⊗ factor z)) (mag (e ⊕ (a ⊕ z ⊗ factor z))) σ (own_least o b) (not_less (nil_sums n m (own_product o b)))
  where
    from_p : (p l k : ℕ) → 91 * 2 ^ 47 * k ≤ p + 4 * k → p ≤ l + 16 * k → 11 * 2 ^ 50 * k ≤ l
    from_p p l k g h = omega arith
