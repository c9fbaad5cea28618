-- Next to 1 where the slow path does not work the power out: for a t of at most 1.4427 × 2^-25 in size (`tiny_bound`) it answers 1 + t / 2, narrowed, which is 1 (`tiny_is_one`); and the pattern of the
-- short polynomial at a z that is no more than 2 × 2^-53 larger is 2^28 + 8 from that of 1 at most (`tiny_near`), and 2^28 is how far the midpoints are. Assumes nothing.
use Rattle.std.proofs.Common.{◌≡◌, ℕ, ◌+◌, ◌-◌, ◌*◌, ◌/◌, ◌%◌, ◌^◌, ◌<◌, ◌≤◌, refl, sym, ap, ◌∙◌, subst, ◌⊎◌, inl, inr, true, false, min, le_trans, le-add_right, zero-add, arith}
use lib.Ieee.{Float, binary32, binary64, fits, le, to_bits, of_bits}
use lib.Ieee.Bits.{of_bits-to_bits}
use Rattle.floats.specs.Operations.{◌⊕◌, ◌⊗◌, f64}
use Rattle.floats.specs.Narrowing.{narrowed}
use Rattle.floats.specs.OnBits.{absolute}
use Rattle.floats.proofs.Laws.Narrow.{normal_magnitude, narrowed_fits}
use Rattle.tables.specs.Tables.{entry, exp2_poly_q2}
use Rattle.special.specs.Special.{one}
use Rattle.slow_path.specs.Slow.{q2}
use Rattle.slow_path.proofs.Coefficients.{q2_first}
use Rattle.slow_path.proofs.OnePlusParts.{absolute_units}
use Rattle.bounds.proofs.Values.{plus, less, mag, one_side, Number}
use Rattle.bounds.proofs.Operation.{mul_near}
use Rattle.bounds.proofs.Scales.{S, unit, unit_left, Bound, at, mul_bound, mul_limit, tested}
use Rattle.bounds.proofs.Distances.{Apart, apart_at, sum_off, add_apart}
use Rattle.bounds.proofs.Apart.{apart_turned}
use Rattle.bounds.proofs.Compared.{Positive, positive_at, positive_bound, positive_add, positive_sum, tested_positive, bits_apart, units_of_le}
use Rattle.slow_filter.specs.NearOne.{near_one_power}

-- ---- a pattern less than 2^28 from that of 1 narrows to 1
narrowed_one : (w : ℕ) → 1023 * 2 ^ 52 < w + 2 ^ 28 → w < 1023 * 2 ^ 52 + 2 ^ 28 → narrowed (f64 w) ≡ of_bits binary32 0x3f800000
narrowed_one w g h = sym (of_bits-to_bits binary32 (narrowed (f64 w)) (narrowed_fits (f64 w))) ∙ ap (of_bits binary32) (normal_magnitude w (most w h) (least w g) ∙ rounds w g h)
  where
    least : (w : ℕ) → 1023 * 2 ^ 52 < w + 2 ^ 28 → 897 * 2 ^ 52 ≤ w
    least w g = omega arith

    most : (w : ℕ) → w < 1023 * 2 ^ 52 + 2 ^ 28 → w ≤ 0x7ff0000000000000
    most w h = omega arith

    rounds : (w : ℕ) → 1023 * 2 ^ 52 < w + 2 ^ 28 → w < 1023 * 2 ^ 52 + 2 ^ 28 → min ((w + 268435455 + w / 536870912 % 2) / 536870912 - 7516192768) 0x7f800000 ≡ 0x3f800000
    rounds w g h = omega arith

first_pattern : to_bits binary64 (q2 0) ≡ 1023 * 2 ^ 52
unfolding entry exp2_poly_q2 of_bits to_bits
first_pattern = refl

first_is_one : q2 0 ≡ one
unfolding entry exp2_poly_q2 of_bits
first_is_one = refl

-- a pattern that is K from that of 1 at most
pub record FromOne (K w : ℕ) : Type 0 where
  pub least : 1023 * 2 ^ 52 ≤ w + K
  pub most : w ≤ 1023 * 2 ^ 52 + K

-- it is, where the value is
from_one : {K : ℕ} {x : Float} → Positive (2 ^ 52) (2 ^ 54 - 1) x → Apart S K x (q2 0) → FromOne K (to_bits binary64 x)
from_one {K} {x} p a =
    let first = positive_at (2 ^ 52) (2 ^ 54 - 1) q2_first tt tt in
    record {
      least = subst (λ (m : ℕ). m ≤ to_bits binary64 x + K) first_pattern (bits_apart first p (apart_turned a));
      most = subst (λ (m : ℕ). to_bits binary64 x ≤ m + K) first_pattern (bits_apart p first a);
    }

-- ---- 1 + t / 2
-- what is no larger than the bound of `is_near_one`
pub tiny_bound : (h : Float) → Number h → le (absolute h) (f64 0x3e6715476af0d4c8) ≡ true → Bound S 387270507 h
tiny_bound h n e =
    let w = absolute_units h n in
    record {
      scale = unit;
      number = n;
      size = go (plus (absolute h)) (less (absolute h)) (plus (f64 0x3e6715476af0d4c8)) (less (f64 0x3e6715476af0d4c8)) (mag h) (387270507 * S) w.1 w.2 end.size (units_of_le w.0 end.number e);
    }
  where
    end : Bound S 387270507 (f64 0x3e6715476af0d4c8)
    end = unfold of_bits fits in tested 387270507 (f64 0x3e6715476af0d4c8) tt

    go : (p n q m x k : ℕ) → p ≡ x → n ≡ 0 → q + m ≤ k → p + m ≤ q + n → x ≤ k
    go p n q m x k e f g h = omega arith

half_is : Bound S (2 ^ 52) (f64 0x3fe0000000000000)
unfolding of_bits fits
half_is = tested (2 ^ 52) (f64 0x3fe0000000000000) tt

pub tiny_is_one : (h : Float) → Bound S 387270507 h → narrowed (one ⊕ h ⊗ f64 0x3fe0000000000000) ≡ of_bits binary32 0x3f800000
tiny_is_one h b = subst (λ (e : Float). narrowed (e ⊕ h ⊗ f64 0x3fe0000000000000) ≡ of_bits binary32 0x3f800000) first_is_one (go (q2 0 ⊕ term) is (apart_at (2 ^ 28 - 1) (add_apart (positive_bound q2_first) term_bound tt) tt))
  where
    term : Float
    term = h ⊗ f64 0x3fe0000000000000

    term_bound : Bound S (2 ^ 28 - 3) term
    term_bound = at (2 ^ 28 - 3) (mul_bound (unit_left unit) b half_is tt tt) tt

    is : Positive (2 ^ 52) (2 ^ 54 - 1) (q2 0 ⊕ term)
    is = positive_at (2 ^ 52) (2 ^ 54 - 1) (positive_add q2_first term_bound tt tt) tt tt

    go : (x : Float) → Positive (2 ^ 52) (2 ^ 54 - 1) x → Apart S (2 ^ 28 - 1) x (q2 0) → narrowed x ≡ of_bits binary32 0x3f800000
    go x p a =
        let r = from_one p a in
        ap narrowed (sym (of_bits-to_bits binary64 x p.number.held)) ∙ narrowed_one (to_bits binary64 x) (below (to_bits binary64 x) r.least) (above (to_bits binary64 x) r.most)
      where
        below : (w : ℕ) → 1023 * 2 ^ 52 ≤ w + (2 ^ 28 - 1) → 1023 * 2 ^ 52 < w + 2 ^ 28
        below w h = omega arith

        above : (w : ℕ) → w ≤ 1023 * 2 ^ 52 + (2 ^ 28 - 1) → w < 1023 * 2 ^ 52 + 2 ^ 28
        above w h = omega arith

-- ---- the short polynomial
-- the coefficients: of degree 1 to the last digit, of degree 2 from 0.24021 to 0.24024, of degree 3 at most 0.05552
degree_1 : Positive 6243314768165359 6243314768165359 (q2 1)
unfolding entry exp2_poly_q2 of_bits fits
degree_1 = tested_positive 6243314768165359 6243314768165359 (q2 1) tt

degree_2 : Positive (15743 * 2 ^ 37) (15744 * 2 ^ 37) (q2 3)
unfolding entry exp2_poly_q2 of_bits fits
degree_2 = tested_positive (15743 * 2 ^ 37) (15744 * 2 ^ 37) (q2 3) tt

degree_3 : Bound S (3638 * 2 ^ 37) (q2 5)
unfolding entry exp2_poly_q2 of_bits fits
degree_3 = tested (3638 * 2 ^ 37) (q2 5) tt

-- 1 + 2^-26
beside : Float
beside = f64 (1023 * 2 ^ 52 + 2 ^ 26)

beside_is : Positive (2 ^ 53 + 2 ^ 27) (2 ^ 53 + 2 ^ 27) beside
unfolding beside of_bits fits
beside_is = tested_positive (2 ^ 53 + 2 ^ 27) (2 ^ 53 + 2 ^ 27) (f64 (1023 * 2 ^ 52 + 2 ^ 26)) tt

beside_pattern : to_bits binary64 beside ≡ 1023 * 2 ^ 52 + 2 ^ 26
unfolding beside of_bits to_bits
beside_pattern = refl

module _ (z : Float) (b : Bound S 387270509 z) where
  c2 : Float
  c2 = q2 3 ⊕ q2 5 ⊗ z

  c2_is : Positive (2 ^ 50) (15745 * 2 ^ 37) c2
  unfolding c2
  c2_is = positive_at (2 ^ 50) (15745 * 2 ^ 37) (positive_add degree_2 (mul_bound (unit_left unit) degree_3 b tt tt) tt tt) tt tt

  m : Float
  m = c2 ⊗ z

  m_bound : Bound S (2 ^ 27) m
  unfolding m
  m_bound = at (2 ^ 27) (mul_bound (unit_left unit) (positive_bound c2_is) b tt tt) tt

  c1 : Float
  c1 = q2 1 ⊕ m

  c1_is : Positive (2 ^ 52) (6243314768165359 + 2 ^ 27 + 1) c1
  unfolding c1
  c1_is = positive_at (2 ^ 52) (6243314768165359 + 2 ^ 27 + 1) (positive_add degree_1 m_bound tt tt) tt tt

  w : Float
  w = c1 ⊗ z

  plain_power : Float
  plain_power = q2 0 ⊕ w

  -- z is not above 0: nor is c2 × z, so that c1 is no larger than the coefficient of degree 1 but for a rounding
  under_one : plus z ≡ 0 → FromOne (2 ^ 28 + 8) (to_bits binary64 plain_power)
  unfolding plain_power
  under_one e = from_one (positive_at (2 ^ 52) (2 ^ 54 - 1) (positive_add q2_first term tt tt) tt tt) (apart_at (2 ^ 28 + 8) (add_apart (positive_bound q2_first) term tt) tt)
    where
      m_under : plus m + 0 ≡ 0
      m_under = unfold m in (mul_near c2_is.number b.number (mul_limit (unit_left unit) (positive_bound c2_is) b tt tt)).along false true (ap (λ (i : ℕ). 0 + i) c2_is.clear) (ap (λ (i : ℕ). i + 0) e)

      go : (p n u v x l k s : ℕ) → l ≡ 0 → u + 0 ≡ 0 → p ≤ k * s → x + (n + v) ≤ l + (p + u) + 1 * s → x + l ≤ (k + 1) * s
      go p n u v x l k s e f g h = omega arith

      c1_bound : Bound S 6243314768165360 c1
      c1_bound = record {
        scale = unit;
        number = c1_is.number;
        size = go (plus (q2 1)) (less (q2 1)) (plus m) (less m) (plus c1) (less c1) 6243314768165359 S c1_is.clear m_under degree_1.most (unfold c1 in (sum_off (positive_bound degree_1) m_bound tt).upper);
      }

      term : Bound S (2 ^ 28 + 6) w
      term = unfold w in at (2 ^ 28 + 6) (mul_bound (unit_left unit) c1_bound b tt tt) tt

  -- z is not below 0: the power is from 1 to 1 + 2^-25, but for less than 2^-48
  over_one : less z ≡ 0 → FromOne (2 ^ 28 + 8) (to_bits binary64 plain_power)
  unfolding plain_power
  over_one e = record {
    least = below (to_bits binary64 (q2 0 ⊕ w)) (subst (λ (k : ℕ). k ≤ to_bits binary64 (q2 0 ⊕ w) + (2 ^ 27 + 32)) beside_pattern (bits_apart beside_inner inner (apart_turned near)));
    most = above (to_bits binary64 (q2 0 ⊕ w)) (subst (λ (k : ℕ). to_bits binary64 (q2 0 ⊕ w) ≤ k + (2 ^ 27 + 32)) beside_pattern (bits_apart inner beside_inner near));
  }
    where
      w_over : 0 + less w ≡ 0
      w_over = unfold w in (mul_near c1_is.number b.number (mul_limit (unit_left unit) (positive_bound c1_is) b tt tt)).along false false (ap (λ (i : ℕ). 0 + i) c1_is.clear) (ap (λ (i : ℕ). 0 + i) e)

      w_bound : Bound S (2 ^ 28 + 16) w
      w_bound = unfold w in at (2 ^ 28 + 16) (mul_bound (unit_left unit) (positive_bound c1_is) b tt tt) tt

      w_is : Positive 0 (2 ^ 28 + 16) w
      w_is = record { number = w_bound.number; clear = sym (zero-add (less w)) ∙ w_over; least = none (plus w) S; most = le_trans (le-add_right (plus w) (less w)) w_bound.size }
        where
          none : (p s : ℕ) → 0 * s ≤ p
          none p s = omega arith

      is : Positive (2 ^ 53 - 2) (2 ^ 53 + 2 ^ 28 + 20) (q2 0 ⊕ w)
      is = positive_at (2 ^ 53 - 2) (2 ^ 53 + 2 ^ 28 + 20) (positive_sum q2_first w_is tt tt) tt tt

      inner : Positive (2 ^ 52) (2 ^ 54 - 1) (q2 0 ⊕ w)
      inner = positive_at (2 ^ 52) (2 ^ 54 - 1) is tt tt

      beside_inner : Positive (2 ^ 52) (2 ^ 54 - 1) beside
      beside_inner = positive_at (2 ^ 52) (2 ^ 54 - 1) beside_is tt tt

      near : Apart S (2 ^ 27 + 32) (q2 0 ⊕ w) beside
      near = record {
        over = over (plus (q2 0 ⊕ w)) (less (q2 0 ⊕ w)) (plus beside) (less beside) S is.clear beside_is.clear is.most beside_is.least;
        under = under (plus (q2 0 ⊕ w)) (less (q2 0 ⊕ w)) (plus beside) (less beside) S is.clear beside_is.clear is.least beside_is.most;
      }
        where
          over : (p n q m s : ℕ) → n ≡ 0 → m ≡ 0 → p ≤ (2 ^ 53 + 2 ^ 28 + 20) * s → (2 ^ 53 + 2 ^ 27) * s ≤ q → p + m ≤ n + q + (2 ^ 27 + 32) * s
          over p n q m s e f g h = omega arith

          under : (p n q m s : ℕ) → n ≡ 0 → m ≡ 0 → (2 ^ 53 - 2) * s ≤ p → q ≤ (2 ^ 53 + 2 ^ 27) * s → q + n ≤ m + p + (2 ^ 27 + 32) * s
          under p n q m s e f g h = omega arith

      below : (k : ℕ) → 1023 * 2 ^ 52 + 2 ^ 26 ≤ k + (2 ^ 27 + 32) → 1023 * 2 ^ 52 ≤ k + (2 ^ 28 + 8)
      below k h = omega arith

      above : (k : ℕ) → k ≤ 1023 * 2 ^ 52 + 2 ^ 26 + (2 ^ 27 + 32) → k ≤ 1023 * 2 ^ 52 + (2 ^ 28 + 8)
      above k h = omega arith

  near : FromOne (2 ^ 28 + 8) (to_bits binary64 plain_power)
  near = go (one_side z)
    where
      go : (plus z ≡ 0) ⊎ (less z ≡ 0) → FromOne (2 ^ 28 + 8) (to_bits binary64 plain_power)
      go (inl e) = under_one e
      go (inr e) = over_one e

  plain_is : plain_power ≡ near_one_power z
  unfolding plain_power w c1 m c2 near_one_power
  plain_is = refl

  pub tiny_near : FromOne (2 ^ 28 + 8) (to_bits binary64 (near_one_power z))
  tiny_near = subst (λ (x : Float). FromOne (2 ^ 28 + 8) (to_bits binary64 x)) plain_is near
