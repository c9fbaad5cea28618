-- The accurate power of two beside the plain one, for a t and a t' that are 2^-29 from each other, where t' is clear of the switches of k and of the index and k is not 0: the answer is a
-- pattern, scaled by the same k and narrowed, that is 2^25 from the plain one at most (`power_of`). Assumes nothing.
use Rattle.std.proofs.Common.{◌≡◌, ℕ, ◌+◌, ◌-◌, ◌*◌, ◌^◌, ◌<◌, ◌≤◌, refl, sym, ap, ◌∙◌, subst, ◌⊎◌, inl, inr, Bool, false, not, cond, ◌&&◌, arith, ℤ}
use lib.Ieee.{Float, binary64, fits, lt, le, eq, to_bits, to_signed}
use Rattle.floats.specs.Operations.{◌⊕◌, ◌⊖◌, ◌⊗◌, f64}
use Rattle.floats.specs.Narrowing.{narrowed, nearest_whole}
use Rattle.floats.specs.OnBits.{absolute}
use Rattle.floats.proofs.Laws.Units.{HasSign}
use Rattle.floats.proofs.Laws.Compare.{eq_by_lt, and_false}
use Rattle.double_double.specs.declared.DoubleDouble.{DoubleDouble}
use Rattle.double_double.specs.DoubleDouble.{from_exact_add, from_exact_mult, quick_mult}
use Rattle.tables.specs.Tables.{entry, pair_entry, compoundf_exp2_t, compoundf_exp2_u}
use Rattle.special.specs.Special.{zero, one}
use Rattle.special.proofs.Rule.{finite_number}
use Rattle.fast_path.specs.Scaling.{scaled}
use Rattle.fast_path.specs.Fast.{power_index}
use Rattle.slow_path.specs.Slow.{compoundf_exp2_poly2, clamped_k, test_pattern, rounded_to_odd, scaled_to_f32, exp2_product, err_of, is_small, exp2_away, is_near_one, exp2_accurate}
use Rattle.bounds.proofs.Values.{per_one, per_one_pos, plus, less, mag, one_side, Number}
use Rattle.bounds.proofs.Scales.{S, unit, unit_left, Bound, Bounds, at, add_bound, sub_bound, mul_bound, fast_bounds, quick_bounds}
use Rattle.bounds.proofs.Distances.{Apart, apart_at, apart_through, add_apart, bound_near}
use Rattle.bounds.proofs.Apart.{apart_same, apart_turned, differences_apart, product_apart}
use Rattle.bounds.proofs.Compared.{Positive, positive_at, positive_bound, positive_near, positive_mul, bits_apart, lt_true}
use Rattle.bounds.proofs.Nearest.{whole_bound}
use Rattle.fast_path.proofs.Coefficients.{power_hi, power_lo, exponent_size}
use Rattle.slow_path.proofs.Clamped.{index_unclamped, k_unclamped}
use Rattle.slow_path.proofs.ExpSize.{poly_near_one}
use Rattle.filter.specs.Plain.{plain_expf_poly, part_of, rest_of, plain_pattern}
use Rattle.filter.proofs.Switches.{same_whole, index_inside, same_index}
use Rattle.filter.proofs.Power.{Unscaled, unscaled}
use Rattle.slow_filter.proofs.Polynomial.{Beside, apart_z, PolyBeside, poly_beside}
use Rattle.slow_filter.proofs.Odd.{Odd, odd_of}

pub record PowerOf (t : DoubleDouble) (t' : Float) : Type 0 where
  pub pattern : ℕ
  pub unscaled : Unscaled pattern
  pub plain : Unscaled (plain_pattern t')
  pub over : pattern ≤ plain_pattern t' + 2 ^ 25
  pub under : plain_pattern t' ≤ pattern + 2 ^ 25
  pub is : exp2_accurate t ≡ narrowed (f64 (scaled pattern (to_signed 63 (nearest_whole t'))))

-- ---- k is not 0
not_zero : (k : Float) → Number k → per_one ≤ mag k → eq k zero ≡ false
not_zero k n h = eq_by_lt k zero (finite_number k n.plain) (finite_number zero tt) ∙ go (one_side k)
  where
    zero_number : Number zero
    zero_number = unfold fits in record { held = tt; plain = tt }

    above_zero : (p n w : ℕ) → n ≡ 0 → 0 < w → w ≤ p + n → 0 + n < p + 0
    above_zero p n w e g h = omega arith

    below_zero : (p n w : ℕ) → p ≡ 0 → 0 < w → w ≤ p + n → p + 0 < 0 + n
    below_zero p n w e g h = omega arith

    go : (plus k ≡ 0) ⊎ (less k ≡ 0) → (not (lt k zero) && not (lt zero k)) ≡ false
    go (inl e) = ap (λ (b : Bool). not b && not (lt zero k)) (lt_true n zero_number (below_zero (plus k) (less k) per_one e per_one_pos h))
    go (inr e) = ap (λ (b : Bool). not (lt k zero) && not b) (lt_true zero_number n (above_zero (plus k) (less k) per_one e per_one_pos h)) ∙ and_false (not (lt k zero))

-- ---- the two side by side
module _ (s : Bool) (t : DoubleDouble) (t' : Float) (sign : HasSign s t.hi) (sign' : HasSign s t') (n : Number t.hi) (a : Apart S (2 ^ 24) t.hi t') (l : Bound S (2 ^ 23) t.lo) (b : Bound S (150 * 2 ^ 53) t')
    (p : Bound S (2 ^ 52 - 2 ^ 26) (part_of t')) (r : Bound S (2 ^ 47 - 2 ^ 26) (rest_of t')) (away : per_one ≤ mag (nearest_whole t')) where
  -- ---- the same k
  k : Float
  k = nearest_whole t'

  k_bound : Bound S (150 * 2 ^ 53) k
  unfolding k
  k_bound = whole_bound 150 b

  same_k : nearest_whole t.hi ≡ k
  unfolding k
  same_k = same_whole 150 s t.hi t' sign sign' n a b p tt tt

  -- ---- the same index
  t_bound : Bound S (151 * 2 ^ 53) t.hi
  t_bound = at (151 * 2 ^ 53) (bound_near n a b) tt

  left_near : Apart S (2 ^ 24 + 700) (t.hi ⊖ k) (part_of t')
  unfolding k part_of
  left_near = apart_at (2 ^ 24 + 700) (differences_apart a t_bound b k_bound tt tt) tt

  left_bound : Bound S (2 ^ 52) (t.hi ⊖ k)
  left_bound = at (2 ^ 52) (bound_near (sub_bound t_bound k_bound tt).number left_near p) tt

  v : DoubleDouble
  v = from_exact_add (t.hi ⊖ k) t.lo

  v_bounds : Bounds S (65 * 2 ^ 46) 8 v
  unfolding v
  v_bounds =
      let w = fast_bounds left_bound l tt in
      record { hi = at (65 * 2 ^ 46) w.hi tt; lo = at 8 w.lo tt }

  parts_near : Apart S (2 ^ 24 + 2 ^ 23 + 800) v.hi (part_of t')
  unfolding v from_exact_add
  parts_near = apart_at (2 ^ 24 + 2 ^ 23 + 800) (apart_through (add_apart left_bound l tt) left_near) tt

  i : ℕ
  i = power_index (part_of t')

  inside : i < 33
  unfolding i
  inside = index_inside t' p tt

  index_shared : power_index v.hi ≡ i
  unfolding i
  index_shared = same_index v.hi t' v_bounds.hi parts_near p r tt tt tt

  -- ---- the polynomials at what is left
  e : Float
  e = entry compoundf_exp2_t i

  e_bound : Bound S (2 ^ 52) e
  unfolding e
  e_bound = exponent_size i inside

  over_near : Apart S (2 ^ 24 + 2 ^ 23 + 900) (v.hi ⊖ e) (rest_of t')
  unfolding e i rest_of
  over_near = apart_at (2 ^ 24 + 2 ^ 23 + 900) (differences_apart parts_near v_bounds.hi p e_bound tt tt) tt

  over_bound : Bound S (2 ^ 47 - 2 ^ 25) (v.hi ⊖ e)
  over_bound = at (2 ^ 47 - 2 ^ 25) (bound_near (sub_bound v_bounds.hi e_bound tt).number over_near r) tt

  rest : DoubleDouble
  rest = from_exact_add (v.hi ⊖ e) v.lo

  rest_bounds : Bounds S (2 ^ 47) 2 rest
  unfolding rest
  rest_bounds =
      let w = fast_bounds over_bound v_bounds.lo tt in
      record { hi = at (2 ^ 47) w.hi tt; lo = at 2 w.lo tt }

  rests_beside : Beside apart_z (2 ^ 47) rest.hi (rest_of t')
  unfolding rest from_exact_add
  rests_beside = record { near = apart_at apart_z (apart_through (add_apart over_bound v_bounds.lo tt) over_near) tt; slow = rest_bounds.hi; plain = at (2 ^ 47) r tt }

  poly : DoubleDouble
  poly = compoundf_exp2_poly2 rest

  polynomials : PolyBeside poly.hi (plain_expf_poly (rest_of t'))
  unfolding poly
  polynomials = poly_beside rest (rest_of t') rests_beside

  poly_lo : Bound S (2 ^ 12) poly.lo
  unfolding poly
  poly_lo = (poly_near_one (record { hi = at (2 ^ 48 + 2 ^ 41) rest_bounds.hi tt; lo = at (2 ^ 10) rest_bounds.lo tt })).lo

  -- ---- the products
  u : DoubleDouble
  u = pair_entry compoundf_exp2_u i

  u_hi : Positive (5 * 2 ^ 50) (92682 * 2 ^ 37) u.hi
  unfolding u
  u_hi = power_hi i inside

  u_lo : Bound S 1 u.lo
  unfolding u
  u_lo = power_lo i inside

  product : DoubleDouble
  product = quick_mult u poly

  product_lo : Bound S (2 ^ 13) product.lo
  unfolding product
  product_lo = at (2 ^ 13) (quick_bounds (unit_left unit) (record { hi = positive_bound u_hi; lo = u_lo }) (record { hi = positive_bound polynomials.slow; lo = poly_lo }) tt).lo tt

  product_hi : Positive (2 ^ 52 + 2 ^ 26) (2 ^ 54 - 2 ^ 27) product.hi
  unfolding product quick_mult from_exact_mult
  product_hi = positive_at (2 ^ 52 + 2 ^ 26) (2 ^ 54 - 2 ^ 27) (positive_mul (2 ^ 52 + 2 ^ 26) u_hi polynomials.slow tt tt tt) tt tt

  plain_power : Float
  plain_power = u.hi ⊗ plain_expf_poly (rest_of t')

  products_near : Apart S 24985000 product.hi plain_power
  unfolding product quick_mult from_exact_mult plain_power
  products_near =
      apart_at 24985000 (product_apart (unit_left unit) (apart_same u.hi) polynomials.near (positive_bound u_hi) (positive_bound polynomials.slow) (positive_bound u_hi) polynomials.plain tt) tt

  q : DoubleDouble
  q = from_exact_add product.hi product.lo

  q_bounds : Bounds S (2 ^ 54) 16 q
  unfolding q
  q_bounds =
      let w = fast_bounds (positive_bound product_hi) product_lo tt in
      record { hi = at (2 ^ 54) w.hi tt; lo = at 16 w.lo tt }

  slow_power : Float
  slow_power = q.hi ⊕ q.lo

  slow_near : Apart S (2 ^ 14) slow_power product.hi
  unfolding slow_power q from_exact_add
  slow_near = apart_at (2 ^ 14) (apart_through (add_apart q_bounds.hi q_bounds.lo tt) (add_apart (positive_bound product_hi) product_lo tt)) tt

  powers_near : Apart S (2 ^ 25 - 1) slow_power plain_power
  powers_near = apart_at (2 ^ 25 - 1) (apart_through slow_near products_near) tt

  slow_is : Positive (2 ^ 52 + 1) (2 ^ 54 - 4) slow_power
  unfolding slow_power
  slow_is = positive_at (2 ^ 52 + 1) (2 ^ 54 - 4) (positive_near (add_bound q_bounds.hi q_bounds.lo tt).number slow_near product_hi tt) tt tt

  plain_is : Positive (2 ^ 52) (2 ^ 54 - 1) plain_power
  unfolding plain_power
  plain_is = positive_at (2 ^ 52) (2 ^ 54 - 1) (positive_near (mul_bound (unit_left unit) (positive_bound u_hi) polynomials.plain tt tt).number (apart_turned products_near) product_hi tt) tt tt

  -- ---- the patterns
  plain_pattern_lem : to_bits binary64 plain_power ≡ plain_pattern t'
  unfolding plain_power u i plain_pattern
  plain_pattern_lem = refl

  err : Float
  err = err_of (is_small k i t.hi)

  pattern : ℕ
  pattern = rounded_to_odd q (test_pattern q err (to_signed 63 k))

  pattern_is : Odd (to_bits binary64 slow_power) pattern
  unfolding slow_power pattern
  pattern_is = odd_of q (test_pattern q err (to_signed 63 k)) slow_is

  same_product : exp2_product v i ≡ q
  unfolding exp2_product q product poly rest u e
  same_product = refl

  away_is : exp2_accurate t ≡ exp2_away t k
  unfolding exp2_accurate is_near_one
  away_is =
      ap (λ (w : Float). cond (eq w zero && le (absolute t.hi) (f64 0x3e6715476af0d4c8)) (narrowed (one ⊕ t.hi ⊗ f64 0x3fe0000000000000)) (exp2_away t w)) same_k
      ∙ ap (λ (x : Bool). cond (x && le (absolute t.hi) (f64 0x3e6715476af0d4c8)) (narrowed (one ⊕ t.hi ⊗ f64 0x3fe0000000000000)) (exp2_away t k)) not_0
    where
      not_0 : eq k zero ≡ false
      not_0 = unfold k in not_zero k k_bound.number away

  answer : exp2_away t k ≡ narrowed (f64 (scaled pattern (to_signed 63 k)))
  unfolding exp2_away scaled_to_f32 pattern err v
  answer =
      ap (λ (j : ℕ). scaled_to_f32 (exp2_product v j) (err_of (is_small k j t.hi)) (clamped_k k)) (sym (index_unclamped v.hi (subst (λ (j : ℕ). j < 33) (sym index_shared) inside)) ∙ index_shared)
      ∙ ap (λ (z : ℤ). scaled_to_f32 (exp2_product v i) (err_of (is_small k i t.hi)) z) (k_unclamped (at (1000 * 2 ^ 53) k_bound tt)) ∙ ap (λ (w : DoubleDouble). scaled_to_f32 w (err_of (is_small k i t.hi)) (to_signed 63 k)) same_product

  pub power_of : PowerOf t t'
  unfolding k
  power_of = record {
    pattern = pattern;
    unscaled = pattern_is.unscaled;
    plain = subst Unscaled plain_pattern_lem (unscaled plain_is);
    over = subst (λ (m : ℕ). pattern ≤ m + 2 ^ 25) plain_pattern_lem (over pattern (to_bits binary64 slow_power) (to_bits binary64 plain_power) pattern_is.over (bits_apart inner plain_is powers_near));
    under = subst (λ (m : ℕ). m ≤ pattern + 2 ^ 25) plain_pattern_lem (under pattern (to_bits binary64 slow_power) (to_bits binary64 plain_power) pattern_is.under (bits_apart plain_is inner (apart_turned powers_near)));
    is = away_is ∙ answer;
  }
    where
      inner : Positive (2 ^ 52) (2 ^ 54 - 1) slow_power
      inner = positive_at (2 ^ 52) (2 ^ 54 - 1) slow_is tt tt

      over : (n v w : ℕ) → n ≤ v + 1 → v ≤ w + (2 ^ 25 - 1) → n ≤ w + 2 ^ 25
      over n v w g h = omega arith

      under : (n v w : ℕ) → v ≤ n + 1 → w ≤ v + (2 ^ 25 - 1) → w ≤ n + 2 ^ 25
      under n v w g h = omega arith
