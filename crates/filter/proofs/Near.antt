-- For a t' of at most 2^-14 in size: k is 0 for t and for t', the index is 16, so that neither changes anything, and the patterns of the two powers are 64 from each other at most (`patterns_near`). Where the plain one is
-- at most 2^11 from a midpoint of two f32s, the fast path's rounding test fails (`near_right`). Assumes nothing.
use Rattle.std.proofs.Common.{◌≡◌, ℕ, ◌+◌, ◌-◌, ◌*◌, ◌%◌, ◌^◌, ◌<◌, ◌≤◌, Bool, true, false, cond, not, ◌&&◌, ltb, ℤ, pos, sym, refl, ap, ◌∙◌, subst, ap₂, arith, lit<, ltb-false, Some, None}
use lib.Ieee.{Float, fin, binary64, round, fits, of_bits, to_bits, to_signed, neg, le}
use Rattle.floats.specs.Operations.{◌⊖◌, ◌⊗◌, f64}
use Rattle.floats.specs.Narrowing.{nearest_whole}
use Rattle.floats.proofs.Laws.Units.{HasSign}
use Rattle.tables.specs.Tables.{entry, pair_entry, from_bit_pair, compoundf_exp2_t, compoundf_exp2_u, expf_poly_q}
use Rattle.fast_path.specs.Scaling.{scaled}
use Rattle.fast_path.specs.Fast.{power_index, expf_poly, compoundf_expf_poly, exp2_reduced, rounding_test, exp2_fast}
use Rattle.fast_path.proofs.Coefficients.{expf_first, expf_sizes}
use Rattle.fast_path.proofs.Midpoints.{near_midpoint_lem}
use Rattle.fast_path.proofs.PowerSlot.{power_nearest}
use Rattle.bounds.proofs.Values.{plus, less, mag, Number}
use Rattle.bounds.proofs.Scales.{S, unit, unit_left, Bound, at, add_bound, sub_bound, mul_bound, fmla_bound, tested}
use Rattle.bounds.proofs.Distances.{Apart, apart_at, bound_near}
use Rattle.bounds.proofs.Apart.{apart_same, apart_turned, differences_apart, product_apart, fmla_aside}
use Rattle.bounds.proofs.Compared.{Positive, positive_at, positive_bound, positive_near, positive_mul, tested_positive, bits_apart}
use Rattle.bounds.proofs.Nearest.{whole_shared}
use Rattle.bounds.proofs.OwnScale.{Nil, nil_bound}
use Rattle.filter.specs.declared.Found.TheVariants.{Slow}
use Rattle.filter.specs.Plain.{plain_expf_poly, part_of, rest_of, plain_pattern, nearness, near_midpoint}
use Rattle.filter.specs.Right.{Inside, Right}
use Rattle.filter.proofs.Limits.{end_bound}
use Rattle.filter.proofs.Polynomial.{fast_poly}
use Rattle.filter.proofs.Power.{Unscaled, unscaled}
use Rattle.filter.proofs.Times.{TimesBeside}

-- ---- 0, and the entries of index 16
-- what is small is near a value of size 0
from_nil : {K : ℕ} {x z : Float} → Bound S K x → Nil z → Apart S K x z
from_nil {K} {x} {z} b n = record { over = over (plus x) (less x) (plus z) (less z) (K * S) n.is b.size; under = under (plus x) (less x) (plus z) (less z) (K * S) n.is b.size }
  where
    over : (p n q m d : ℕ) → q + m ≡ 0 → p + n ≤ d → p + m ≤ n + q + d
    over p n q m d e h = omega arith

    under : (p n q m d : ℕ) → q + m ≡ 0 → p + n ≤ d → q + n ≤ m + p + d
    under p n q m d e h = omega arith

zero_nil : (s : Bool) → Nil (fin s 0 (pos 0))
unfolding fits
zero_nil true = record { number = record { held = tt; plain = tt }; is = refl }
zero_nil false = record { number = record { held = tt; plain = tt }; is = refl }

no_exponent : Nil (entry compoundf_exp2_t 16)
unfolding entry compoundf_exp2_t of_bits fits
no_exponent = record { number = record { held = tt; plain = tt }; is = refl }

power_one : Positive (2 ^ 53) (2 ^ 53) (pair_entry compoundf_exp2_u 16).hi
unfolding pair_entry from_bit_pair compoundf_exp2_u of_bits fits
power_one = tested_positive (2 ^ 53) (2 ^ 53) (pair_entry compoundf_exp2_u 16).hi tt

-- the nearest whole number of 0 is 0, and that of what is near it
whole_zero : (s : Bool) → nearest_whole (fin s 0 (pos 0)) ≡ fin s 0 (pos 0)
unfolding nearest_whole round
whole_zero true = refl
whole_zero false = refl

cast_zero : (s : Bool) → to_signed 63 (fin s 0 (pos 0)) ≡ pos 0
unfolding to_signed
cast_zero true = refl
cast_zero false = refl

no_whole : (s : Bool) (t : Float) → HasSign s t → Bound S (2 ^ 40) t → nearest_whole t ≡ fin s 0 (pos 0)
no_whole s t h b = whole_shared s t (fin s 0 (pos 0)) b.number (zero_nil s).number h refl (subst (λ (z : Float). Apart S (2 ^ 40) t z) (sym (whole_zero s)) (from_nil b (zero_nil s))) tt ∙ whole_zero s

-- scaled by 2^0
unscaled_same : (b : ℕ) → b < 2 ^ 64 → scaled b (pos 0) ≡ b
unfolding scaled
unscaled_same b h = omega arith

-- ---- the polynomials
record PolyNear (p p' : Float) : Type 0 where
  fast : Positive (7 * 2 ^ 50) (9 * 2 ^ 50) p
  plain : Bound S (9 * 2 ^ 50) p'
  near : Apart S 43 p p'

poly_near : {z z' : Float} → Bound S (2 ^ 40) z → Bound S (2 ^ 40) z' → Apart S 5 z z' → PolyNear (compoundf_expf_poly z) (plain_expf_poly z')
unfolding expf_poly
poly_near {z} {z'} b b' d =
    let one = unit_left unit in
    let Q0 = positive_bound expf_first in
    let Q1 = expf_sizes.0 in
    let Q2 = expf_sizes.1 in
    let Q3 = expf_sizes.2 in
    let Q4 = expf_sizes.3 in
    let z2 = at (2 ^ 28) (mul_bound one b b tt tt) tt in
    let z2' = at (2 ^ 28) (mul_bound one b' b' tt tt) tt in
    let z2_near = apart_at 2 (product_apart one d d b b b' b' tt) tt in
    let c3 = at (2 ^ 49) (fmla_bound one Q4 b Q3 tt) tt in
    let c3' = at (2 ^ 49) (add_bound (mul_bound one Q4 b' tt tt) Q3 tt) tt in
    let c3_near = apart_at 12 (fmla_aside one (apart_same (entry expf_poly_q 4)) d (apart_same (entry expf_poly_q 3)) Q4 b Q3 Q4 b' Q3 tt) tt in
    let c0 = at (2 ^ 53 + 2 ^ 40) (fmla_bound one Q1 b Q0 tt) tt in
    let c0' = at (2 ^ 53 + 2 ^ 40) (add_bound (mul_bound one Q1 b' tt tt) Q0 tt) tt in
    let c0_near = apart_at 23 (fmla_aside one (apart_same (entry expf_poly_q 1)) d (apart_same (entry expf_poly_q 0)) Q1 b Q0 Q1 b' Q0 tt) tt in
    let c2 = at (2 ^ 51) (fmla_bound one c3 b Q2 tt) tt in
    let c2' = at (2 ^ 51) (add_bound (mul_bound one c3' b' tt tt) Q2 tt) tt in
    let c2_near = apart_at 13 (fmla_aside one c3_near d (apart_same (entry expf_poly_q 2)) c3 b Q2 c3' b' Q2 tt) tt in
    record {
      fast = fast_poly (at (2 ^ 48 + 2 ^ 40) b tt);
      plain = at (9 * 2 ^ 50) (add_bound (mul_bound one c2' z2' tt tt) c0' tt) tt;
      near = apart_at 43 (fmla_aside one c2_near z2_near c0_near c2 z2 c0 c2' z2' c0' tt) tt;
    }

-- ---- the powers of t and t', which have the sign s, 2^-53 from each other at most
module _ (s : Bool) (t t' : Float) (sign : HasSign s t) (sign' : HasSign s t') (n : Number t) (a : Apart S 1 t t') (b : Bound S (2 ^ 39) t') where
  k : Float
  k = fin s 0 (pos 0)

  k_bound : Bound S 0 k
  unfolding k
  k_bound = nil_bound S unit (zero_nil s)

  t_bound : Bound S (2 ^ 39 + 1) t
  t_bound = bound_near n a b

  pub k_of : nearest_whole t ≡ fin s 0 (pos 0)
  k_of = no_whole s t sign (at (2 ^ 40) t_bound tt)

  pub k_of' : nearest_whole t' ≡ fin s 0 (pos 0)
  k_of' = no_whole s t' sign' (at (2 ^ 40) b tt)

  -- what is left of them over k, and the index of that
  part_bound : Bound S (2 ^ 39 + 2) (t ⊖ k)
  part_bound = at (2 ^ 39 + 2) (sub_bound t_bound k_bound tt) tt

  part_bound' : Bound S (2 ^ 39 + 2) (t' ⊖ k)
  part_bound' = at (2 ^ 39 + 2) (sub_bound b k_bound tt) tt

  parts_near : Apart S 3 (t ⊖ k) (t' ⊖ k)
  parts_near = apart_at 3 (differences_apart a t_bound b k_bound tt tt) tt

  index : {x : Float} → Bound S (2 ^ 39 + 2) x → power_index x ≡ 16
  index {x} p = power_nearest x (at (65 * 2 ^ 46) p tt) 16 (lit< tt) (apart_at (2 ^ 47 - 8) (from_nil p no_exponent) tt)

  -- and over the entry of that index
  e : Float
  e = entry compoundf_exp2_t 16

  e_bound : Bound S 0 e
  unfolding e
  e_bound = nil_bound S unit no_exponent

  polynomials : PolyNear (compoundf_expf_poly (t ⊖ k ⊖ e)) (plain_expf_poly (t' ⊖ k ⊖ e))
  polynomials =
      poly_near (at (2 ^ 40) (sub_bound part_bound e_bound tt) tt) (at (2 ^ 40) (sub_bound part_bound' e_bound tt) tt)
      (apart_at 5 (differences_apart parts_near part_bound part_bound' e_bound tt tt) tt)

  -- the products
  u : Float
  u = (pair_entry compoundf_exp2_u 16).hi

  u_bound : Positive (2 ^ 53) (2 ^ 53) u
  unfolding u
  u_bound = power_one

  fast_power : Float
  fast_power = u ⊗ compoundf_expf_poly (t ⊖ k ⊖ e)

  plain_power : Float
  plain_power = u ⊗ plain_expf_poly (t' ⊖ k ⊖ e)

  powers_near : Apart S 64 fast_power plain_power
  unfolding fast_power plain_power
  powers_near = apart_at 64 (product_apart (unit_left unit) (apart_same u) polynomials.near (positive_bound u_bound) (positive_bound polynomials.fast) (positive_bound u_bound) polynomials.plain tt) tt

  fast_positive : Positive (3 * 2 ^ 51) (5 * 2 ^ 51) fast_power
  unfolding fast_power
  fast_positive = positive_at (3 * 2 ^ 51) (5 * 2 ^ 51) (positive_mul (3 * 2 ^ 51) u_bound polynomials.fast tt tt tt) tt tt

  fast_is : Positive (2 ^ 52) (2 ^ 54 - 1) fast_power
  fast_is = positive_at (2 ^ 52) (2 ^ 54 - 1) fast_positive tt tt

  plain_is : Positive (2 ^ 52) (2 ^ 54 - 1) plain_power
  unfolding plain_power
  plain_is = positive_at (2 ^ 52) (2 ^ 54 - 1) (positive_near (mul_bound (unit_left unit) (positive_bound u_bound) polynomials.plain tt tt).number (apart_turned powers_near) fast_positive tt) tt tt

  -- the patterns
  fast_pattern : to_bits binary64 fast_power ≡ exp2_reduced (part_of t)
  unfolding fast_power u e k part_of exp2_reduced
  fast_pattern =
      ap (λ (j : ℕ). to_bits binary64 ((pair_entry compoundf_exp2_u j).hi ⊗ compoundf_expf_poly (t ⊖ fin s 0 (pos 0) ⊖ entry compoundf_exp2_t j))) (sym (index part_bound)) ∙ ap (λ (w : Float). exp2_reduced (t ⊖ w)) (sym k_of)

  plain_pattern_lem : to_bits binary64 plain_power ≡ plain_pattern t'
  unfolding plain_power u e k part_of rest_of plain_pattern
  plain_pattern_lem =
      ap (λ (j : ℕ). to_bits binary64 ((pair_entry compoundf_exp2_u j).hi ⊗ plain_expf_poly (t' ⊖ fin s 0 (pos 0) ⊖ entry compoundf_exp2_t j))) (sym (index part_bound'))
      ∙ ap (λ (w : Float). to_bits binary64 ((pair_entry compoundf_exp2_u (power_index (t' ⊖ w))).hi ⊗ plain_expf_poly (t' ⊖ w ⊖ entry compoundf_exp2_t (power_index (t' ⊖ w))))) (sym k_of')

  record PatternsNear : Type 0 where
    fast : Unscaled (exp2_reduced (part_of t))
    plain : Unscaled (plain_pattern t')
    over : exp2_reduced (part_of t) ≤ plain_pattern t' + 64
    under : plain_pattern t' ≤ exp2_reduced (part_of t) + 64

  patterns_near : PatternsNear
  patterns_near = record {
    fast = subst Unscaled fast_pattern (unscaled fast_is);
    plain = subst Unscaled plain_pattern_lem (unscaled plain_is);
    over = subst (λ (m : ℕ). m ≤ plain_pattern t' + 64) fast_pattern (subst (λ (m : ℕ). to_bits binary64 fast_power ≤ m + 64) plain_pattern_lem (bits_apart fast_is plain_is powers_near));
    under = subst (λ (m : ℕ). m ≤ exp2_reduced (part_of t) + 64) plain_pattern_lem (subst (λ (m : ℕ). to_bits binary64 plain_power ≤ m + 64) fast_pattern (bits_apart plain_is fast_is (apart_turned powers_near)));
  }

  -- ---- the rounding test fails
  in_range : (w : ℕ) → Unscaled w → w < 2 ^ 64
  in_range w u = omega (arith, u.high)

  scaled_plain : scaled (plain_pattern t') (to_signed 63 (nearest_whole t')) ≡ plain_pattern t'
  scaled_plain = ap (λ (x : Float). scaled (plain_pattern t') (to_signed 63 x)) k_of' ∙ ap (scaled (plain_pattern t')) (cast_zero s) ∙ unscaled_same (plain_pattern t') (in_range (plain_pattern t') patterns_near.plain)

  pub test_fails : (scaled (plain_pattern t') (to_signed 63 (nearest_whole t')) + (0x10000000 + nearness)) % 0x20000000 ≤ 2 * nearness → exp2_fast t ≡ None
  unfolding exp2_fast part_of
  test_fails h =
      let p = patterns_near in
      ap (λ (i : ℤ). rounding_test (f64 (scaled (exp2_reduced (t ⊖ nearest_whole t)) i)) (f64 (scaled 0x3d61d00000000000 i))) (ap (to_signed 63) k_of ∙ cast_zero s)
      ∙ ap₂ (λ (v e : ℕ). rounding_test (f64 v) (f64 e)) (unscaled_same (exp2_reduced (t ⊖ nearest_whole t)) (in_range (exp2_reduced (t ⊖ nearest_whole t)) p.fast)) (unscaled_same 0x3d61d00000000000 (lit< tt))
      ∙ sym (near_midpoint_lem (exp2_reduced (t ⊖ nearest_whole t)) p.fast.low p.fast.high
      (omega (arith, subst (λ (w : ℕ). (w + (0x10000000 + nearness)) % 0x20000000 ≤ 2 * nearness) scaled_plain h)))

-- ---- what the tests say of t'
small_bound : {t' : Float} → Number t' → le t' (f64 0x3f10000000000000) ≡ true → le (neg (f64 0x3f10000000000000)) t' ≡ true → Bound S (2 ^ 39) t'
small_bound n g h = end_bound (2 ^ 39) (f64 0x3f10000000000000) (unfold of_bits fits in tested (2 ^ 39) (f64 0x3f10000000000000) tt) n g h

-- t is 33 / 2^45 of that from it
close : {t t' : Float} → TimesBeside t t' → Bound S (2 ^ 39) t' → Apart S 1 t t'
close {t} {t'} b m = record {
  over = go (plus t + less t') (less t + plus t') (mag t') S m.size b.over;
  under = omega (arith, go (less t + plus t') (plus t + less t') (mag t') S m.size b.under);
}
  where
    go : (x y z s : ℕ) → z ≤ 2 ^ 39 * s → x * 2 ^ 45 ≤ y * 2 ^ 45 + 33 * z → x ≤ y + 1 * s
    go x y z s g h = omega arith

pub near_right : (s : Bool) (t t' : Float) → HasSign s t → HasSign s t' → TimesBeside t t' → Inside t → Right (near_midpoint t' (scaled (plain_pattern t') (to_signed 63 (nearest_whole t')))) t
unfolding near_midpoint
near_right s t t' sign sign' b inside =
    go (le t' (f64 0x3f10000000000000)) refl (le (neg (f64 0x3f10000000000000)) t') refl (ltb (2 * nearness) ((scaled (plain_pattern t') (to_signed 63 (nearest_whole t')) + (0x10000000 + nearness)) % 0x20000000)) refl
  where
    go : (x : Bool) → le t' (f64 0x3f10000000000000) ≡ x → (y : Bool) → le (neg (f64 0x3f10000000000000)) t' ≡ y → (z : Bool) → ltb (2 * nearness) ((scaled (plain_pattern t') (to_signed 63 (nearest_whole t')) + (0x10000000 + nearness)) % 0x20000000) ≡ z
        → Right (cond ((x && y) && not z) (Some Slow) None) t
    go true e true f false g =
        let m = small_bound b.beside e f in
        record { inside = inside; fails = test_fails s t t' sign sign' b.number (close b m) m (ltb-false _ _ g) }
    go true e true f true g = tt
    go true e false f z g = tt
    go false e y f z g = tt
