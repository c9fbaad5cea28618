-- Why the nearest whole value comes out of an addition. From 2 ^ 52 to 2 ^ 53 the f64s are the whole numbers, so for |x| below 2 ^ 52 the sum
-- |x| + 2 ^ 52 is rounded to a whole number, ties to even, and taking 2 ^ 52 off again is exact (`low_whole`). From 2 ^ 52 up every f64
-- is whole (`high_whole`). An f64 holds the nearest whole number (`nearest_whole_exact`). Assumes nothing.
use Rattle.std.proofs.Common.{◌≡◌, ℕ, suc, ◌+◌, ◌-◌, ◌*◌, ◌/◌, ◌%◌, ◌^◌, ◌<◌, ◌≤◌, min, Bool, true, false, cond, not, T, ltb, ℤ, pos, negsuc, sym, refl, ap, ◌∙◌, subst, le_trans, le_of_eq, lt_of_lt_of_le, lt_of_le_of_lt, le_of_lt, mul-le-mul_right, mul_assoc, mul_comm, div-lt_iff_lt-mul, lt_of_mul-lt-mul_right, mul-le-mul_left, mul-lt-mul_of_pos_right, mul-pos, le-div_iff_mul-le, mul-one, mul_right_comm, not-le_of_lt, arith, lit<, lit≤, pow_pos, pow_mono, shl_lt}
use native.Mathlib.Nat.{eq_of_mul-eq-mul_right}
use lib.Arith.{le→nltb}
use lib.Ieee.{Float, nan, inf, fin, binary64, up, down, round, neg, add, sub, sum, fits, is_nan, hid, ones, to_bits, of_bits}
use lib.Ieee.Back.{round_whole}
use lib.Ieee.Bits.{cond_no}
use lib.Ieee.Exact.{HasValue}
use lib.Ieee.Fits.{down_pos}
use lib.Ieee.Nearest.{closest, closest_same, closest_mono}
use lib.Ieee.Order.{drop}
use lib.Ieee.Scale.{round_same, grid, overflow}
use Rattle.floats.specs.Narrowing.{nearest_whole}
use Rattle.floats.specs.OnBits.{absolute}
use Rattle.floats.proofs.Laws.Closest.{closest_add_even, closest_one}
use Rattle.floats.proofs.Laws.Place.{units_below, units_above, size_exact, bits_of_inf, pattern, round_bits}
use Rattle.floats.proofs.Laws.Units.{exponent, in_units, fits_digits, fits_signed, bits_of_sign, bits_under_top, round_number}
use Rattle.floats.proofs.Laws.Magnitude.{magnitude_of_bits, absolute_of_bits, absolute_number}
use Rattle.floats.proofs.Laws.Order.{bits_of_clear}
use Rattle.floats.proofs.Laws.Rounding.{round_value, round_self}

-- ---- a / c + 2 ^ 52, for a / c below 2 ^ 52, rounds to a whole number
module _ (a c : ℕ) (C : 0 < c) (small : a < 2 ^ 52 * c) where
  sum_drop : drop 53 ((a + 2 ^ 52 * c) * 2 ^ 1074) c ≡ 1074
  sum_drop =
      ap (λ (z : ℕ). z - 53)
      (size_exact 1126 ((a + 2 ^ 52 * c) * 2 ^ 1074 / c)
      ((le-div_iff_mul-le C).1 (scaled_le (2 ^ 52) (2 ^ 1074) c (a + 2 ^ 52 * c) (with_more a (2 ^ 52 * c))))
      ((div-lt_iff_lt-mul C).1 (scaled_lt (2 ^ 53) (2 ^ 1074) c (a + 2 ^ 52 * c) (pow_pos 1074) (twice_under a (2 ^ 52) c small))))
    where
      with_more : (x y : ℕ) → y ≤ x + y
      with_more x y = omega arith

      twice_under : (x k c : ℕ) → x < k * c → x + k * c < (k + k) * c
      twice_under x k c h = omega arith

      scaled_le : (k l c x : ℕ) → k * c ≤ x → k * l * c ≤ x * l
      scaled_le k l c x h = le_trans (le_of_eq (mul_right_comm k l c)) (mul-le-mul_right l h)

      scaled_lt : (k l c x : ℕ) → 0 < l → x < k * c → x * l < k * l * c
      scaled_lt k l c x L h = lt_of_lt_of_le (mul-lt-mul_of_pos_right h L) (le_of_eq (mul_right_comm k c l))

  sum_grid : grid binary64 (a + 2 ^ 52 * c) c ≡ (closest a c + 2 ^ 52) * 2 ^ 1074
  sum_grid =
      ap (λ (k : ℕ). closest ((a + 2 ^ 52 * c) * 2 ^ 1074) (c * 2 ^ k) * 2 ^ k) sum_drop
      ∙ ap (λ (x : ℕ). x * 2 ^ 1074)
      (closest_same ((a + 2 ^ 52 * c) * 2 ^ 1074) (c * 2 ^ 1074) (a + 2 ^ 52 * c) c (mul-pos C (pow_pos 1074)) C (regroup (a + 2 ^ 52 * c) (2 ^ 1074) c)
      ∙ closest_add_even a c (2 ^ 52) C refl)
    where
      regroup : (x l c : ℕ) → x * l * c ≡ x * (c * l)
      regroup x l c = mul_assoc x l c ∙ ap (λ (y : ℕ). x * y) (mul_comm l c)

  whole_le : closest a c ≤ 2 ^ 52
  whole_le = closest_mono a c (2 ^ 52) 1 C (lit< tt) (le_trans (le_of_eq (mul-one a)) (le_of_lt small))

  sum_fits : (closest a c + 2 ^ 52) * 2 ^ 1074 < overflow binary64
  sum_fits = lt_of_le_of_lt (mul-le-mul_right (2 ^ 1074) (more (closest a c) (2 ^ 52) whole_le)) (lit< tt)
    where
      more : (x y : ℕ) → x ≤ y → x + y ≤ y + y
      more x y h = omega arith

  pub sum_value : HasValue (round binary64 false (a + 2 ^ 52 * c) c) false ((closest a c + 2 ^ 52) * 2 ^ 1074) (2 ^ 1074)
  sum_value =
      subst (λ (g : ℕ). HasValue (round binary64 false (a + 2 ^ 52 * c) c) false g (2 ^ 1074)) sum_grid
      (round_value binary64 false (a + 2 ^ 52 * c) c (subst (λ (g : ℕ). g < overflow binary64) (sym sum_grid) sum_fits))

-- ---- and a whole number k taken off it leaves the whole number q
whole_left : (x q k d : ℕ) → x ≡ (q + k) * d → (x * 1 - k * d) * 1 ≡ q * (d * 1)
whole_left x q k d e = omega arith

no_less : (x q k d : ℕ) → x ≡ (q + k) * d → k * d ≤ x * 1
no_less x q k d e = omega arith

-- a value of w * 2 ^ 1074 units is w
pub in_wholes : (x w d : ℕ) → x * 2 ^ 1074 ≡ w * 2 ^ 1074 * d → x ≡ w * d
in_wholes x w d e = eq_of_mul-eq-mul_right (2 ^ 1074) (pow_pos 1074) x (w * d) (e ∙ mul_right_comm w (2 ^ 1074) d)

pub less_whole : (n l : ℕ) (y : Float) (q : ℕ) → HasValue y false ((q + n * 2 ^ l) * 2 ^ 1074) (2 ^ 1074) → sub binary64 y (fin false n (pos l)) ≡ round binary64 false q 1
unfolding sub add sum neg
less_whole n l nan q v = absurd v
less_whole n l (inf s) q v = absurd v
less_whole n l (fin t m e) q v = subst (λ (s : Bool). sub binary64 (fin s m e) (fin false n (pos l)) ≡ round binary64 false q 1) (sym v.0) at_clear
  where
    x_is : m * up e ≡ (q + n * 2 ^ l) * down e
    x_is = in_wholes (m * up e) (q + n * 2 ^ l) (down e) v.1

    at_clear : sub binary64 (fin false m e) (fin false n (pos l)) ≡ round binary64 false q 1
    at_clear =
        cond_no (ltb (m * up e * 1) (n * 2 ^ l * down e)) (round binary64 true (n * 2 ^ l * down e - m * up e * 1) (down e * 1)) (round binary64 false (m * up e * 1 - n * 2 ^ l * down e) (down e * 1))
        (le→nltb (m * up e * 1) (n * 2 ^ l * down e) (no_less (m * up e) q (n * 2 ^ l) (down e) x_is))
        ∙ round_same binary64 false (m * up e * 1 - n * 2 ^ l * down e) (down e * 1) q 1 (mul-pos (down_pos e) (lit< tt)) (lit< tt) (whole_left (m * up e) q (n * 2 ^ l) (down e) x_is)

-- ---- |x| below 2 ^ 52
sum_cross : (x d k : ℕ) → (x * 1 + 1 * k * d) * d ≡ (x + k * d) * (d * 1)
sum_cross x d k = omega arith

low_finite : (m : ℕ) (e : ℤ) → T (fits binary64 (fin false m e)) → m * 2 ^ exponent 1074 e < 2 ^ 1126
    → sub binary64 (add binary64 (fin false m e) (of_bits binary64 0x4330000000000000)) (of_bits binary64 0x4330000000000000) ≡ round binary64 false (closest (m * up e) (down e)) 1
unfolding add sum of_bits
low_finite m e t h =
    let a = m * up e in
    let d = down e in
    let small : a < 2 ^ 52 * d =
    lt_of_mul-lt-mul_right (2 ^ 1074)
    (subst (λ (x : ℕ). x < 2 ^ 52 * d * 2 ^ 1074) (sym (in_units binary64 false m e t)) (lt_of_lt_of_le (mul-lt-mul_of_pos_right h (down_pos e)) (le_of_eq (mul_right_comm (2 ^ 52) (2 ^ 1074) d)))) in
    ap (λ (y : Float). sub binary64 y (of_bits binary64 0x4330000000000000)) (round_same binary64 false (a * 1 + 1 * 2 ^ 52 * d) (d * 1) (a + 2 ^ 52 * d) d (mul-pos (down_pos e) (lit< tt)) (down_pos e) (sum_cross a d (2 ^ 52)))
    ∙ less_whole 1 52 (round binary64 false (a + 2 ^ 52 * d) d) (closest a d) (sum_value a d (down_pos e) small)

high_inf : 0x7ff0000000000000 < 1075 * 2 ^ 52 → ⊥
high_inf h = omega arith

pub low_whole : (x : Float) → T (fits binary64 x) → T (not (is_nan x)) → to_bits binary64 x % 2 ^ 63 < 1075 * 2 ^ 52
    → sub binary64 (add binary64 (absolute x) (of_bits binary64 0x4330000000000000)) (of_bits binary64 0x4330000000000000) ≡ nearest_whole (absolute x)
unfolding absolute nearest_whole is_nan
low_whole nan t n h = absurd n
low_whole (inf s) t n h = absurd (high_inf (subst (λ (m : ℕ). m < 1075 * 2 ^ 52) (magnitude_of_bits binary64 (inf s) t n ∙ bits_of_inf binary64 false) h))
low_whole (fin s m e) t n h =
    let u : T (fits binary64 (fin false m e)) = fits_signed binary64 s false m e t in
    low_finite m e u (units_below 53 1074 (m * 2 ^ exponent 1074 e) (lit< tt) (subst (λ (b : ℕ). b < 1075 * 2 ^ 52) (magnitude_of_bits binary64 (fin s m e) t n ∙ bits_of_clear binary64 m e u) h))

-- ---- from 2 ^ 52 up every f64 is whole
below_52 : (m k : ℕ) → m < 2 ^ 53 → 2 ^ 1126 ≤ m * 2 ^ (1074 - suc k) → ⊥
below_52 m k h g =
    not-le_of_lt (lt_of_lt_of_le (shl_lt 53 (1074 - suc k) h) (pow_mono (within k))) g
  where
    within : (k : ℕ) → 53 + (1074 - suc k) ≤ 1126
    within k = omega arith

high_finite : (s : Bool) (m : ℕ) (e : ℤ) → T (fits binary64 (fin s m e)) → 2 ^ 1126 ≤ m * 2 ^ exponent 1074 e → round binary64 s (closest (m * up e) (down e)) 1 ≡ fin s m e
high_finite s m (pos k) t h = ap (λ (x : ℕ). round binary64 s x 1) (closest_one (m * 2 ^ k)) ∙ round_self binary64 s m (pos k) t
high_finite s m (negsuc k) t h = absurd (below_52 m k (fits_digits binary64 s m (negsuc k) t) h)

pub high_whole : (x : Float) → T (fits binary64 x) → 1075 * 2 ^ 52 ≤ to_bits binary64 x % 2 ^ 63 → nearest_whole x ≡ x
unfolding nearest_whole is_nan absolute
high_whole nan t h = refl
high_whole (inf s) t h = refl
high_whole (fin s m e) t h =
    let u : T (fits binary64 (fin false m e)) = fits_signed binary64 s false m e t in
    high_finite s m e t (units_above 53 1074 (m * 2 ^ exponent 1074 e) (lit< tt) (subst (λ (b : ℕ). 1075 * 2 ^ 52 ≤ b) (magnitude_of_bits binary64 (fin s m e) t tt ∙ bits_of_clear binary64 m e u) h))

-- ---- the two ways of the code, by the pattern n of x
pub low_number : (x : Float) → to_bits binary64 x % 2 ^ 63 < 1075 * 2 ^ 52 → T (not (is_nan x))
unfolding is_nan to_bits
low_number nan h = absurd (not-le_of_lt h (lit≤ tt))
low_number (inf s) h = tt
low_number (fin s m e) h = tt

-- a number has a number as its nearest whole value
pub number_whole : (x : Float) → T (not (is_nan x)) → T (not (is_nan (nearest_whole x)))
unfolding nearest_whole is_nan
number_whole nan n = absurd n
number_whole (inf s) n = tt
number_whole (fin s m e) n = round_number binary64 s (closest (m * up e) (down e)) 1

-- the pattern of the nearest whole value is that of the size's, with the sign of x
with_sign : (x : Float) → T (fits binary64 x) → T (not (is_nan x)) → to_bits binary64 x % 2 ^ 63 < 1075 * 2 ^ 52
    → to_bits binary64 (nearest_whole (absolute x)) + (to_bits binary64 x - to_bits binary64 x % 2 ^ 63) ≡ to_bits binary64 (nearest_whole x)
unfolding absolute nearest_whole is_nan
with_sign nan t n h = absurd n
with_sign (inf s) t n h = absurd (high_inf (subst (λ (m : ℕ). m < 1075 * 2 ^ 52) (magnitude_of_bits binary64 (inf s) t n ∙ bits_of_inf binary64 false) h))
with_sign (fin s m e) t n h =
    let a = closest (m * up e) (down e) in
    signed s (to_bits binary64 (fin s m e)) (to_bits binary64 (fin false m e)) (to_bits binary64 (round binary64 false a 1)) (to_bits binary64 (round binary64 s a 1)) (min (pattern binary64 a 1) (ones binary64 * hid binary64))
    (bits_of_sign binary64 s m e t) (bits_under_top binary64 m e (fits_signed binary64 s false m e t)) (round_bits binary64 false a 1) (round_bits binary64 s a 1)
  where
    signed : (s : Bool) (n b v w r : ℕ) → n ≡ cond s 0x8000000000000000 0 + b → b < 0x8000000000000000 → v ≡ 0 + r → w ≡ cond s 0x8000000000000000 0 + r → v + (n - n % 0x8000000000000000) ≡ w
    signed true n b v w r e1 h e2 e3 = omega (arith, e1, h, e2, e3)
    signed false n b v w r e1 h e2 e3 = omega (arith, e1, h, e2, e3)

-- |x| + 2 ^ 52 - 2 ^ 52
abbrev pub by_adding : ℕ → Float
by_adding m = sub binary64 (add binary64 (of_bits binary64 m) (of_bits binary64 0x4330000000000000)) (of_bits binary64 0x4330000000000000)

module _ (x : Float) (t : T (fits binary64 x)) (h : to_bits binary64 x % 2 ^ 63 < 1075 * 2 ^ 52) where
  by_adding_lem : by_adding (to_bits binary64 x % 2 ^ 63) ≡ nearest_whole (absolute x)
  by_adding_lem =
      ap (λ (y : Float). sub binary64 (add binary64 y (of_bits binary64 0x4330000000000000)) (of_bits binary64 0x4330000000000000)) (absolute_of_bits binary64 x t)
      ∙ low_whole x t (low_number x h) h

  -- it is a number, and its pattern with the sign of x is that of the nearest whole value
  pub whole_number : T (not (is_nan (by_adding (to_bits binary64 x % 2 ^ 63))))
  whole_number = subst (λ (y : Float). T (not (is_nan y))) (sym by_adding_lem) (number_whole (absolute x) (absolute_number x (low_number x h)))

  pub whole_pattern : to_bits binary64 (by_adding (to_bits binary64 x % 2 ^ 63)) + (to_bits binary64 x - to_bits binary64 x % 2 ^ 63) ≡ to_bits binary64 (nearest_whole x)
  whole_pattern = ap (λ (y : Float). to_bits binary64 y + (to_bits binary64 x - to_bits binary64 x % 2 ^ 63)) by_adding_lem ∙ with_sign x t (low_number x h) h

-- ---- an f64 holds the nearest whole number
pub nearest_whole_exact : (s : Bool) (m : ℕ) (e : ℤ) → T (fits binary64 (fin s m e)) → HasValue (nearest_whole (fin s m e)) s (closest (m * up e) (down e)) 1
unfolding nearest_whole
nearest_whole_exact s m (pos k) t =
    subst (λ (x : Float). HasValue x s (closest (m * 2 ^ k) 1) 1) (sym (ap (λ (x : ℕ). round binary64 s x 1) (closest_one (m * 2 ^ k)) ∙ round_self binary64 s m (pos k) t))
    (refl, ap (λ (x : ℕ). x * 1) (sym (closest_one (m * 2 ^ k))))
nearest_whole_exact s m (negsuc k) t =
    round_whole binary64 s (closest (m * 1) (2 ^ suc k))
    (le_trans (closest_mono (m * 1) (2 ^ suc k) (2 ^ 53) 1 (pow_pos (suc k)) (lit< tt) (le_trans (over m (fits_digits binary64 s m (negsuc k) t)) (mul-le-mul_left (2 ^ 53) (pow_pos (suc k))))) (le_of_eq (closest_one (2 ^ 53))))
  where
    over : (m : ℕ) → m < 2 ^ 53 → m * 1 * 1 ≤ 2 ^ 53 * 1
    over m h = omega arith
