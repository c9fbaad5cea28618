-- Why narrowing by the pattern is right. A magnitude of X units of 2 ^ -1074 is X / 2 ^ 925 units of an f32, 2 ^ -149.
-- From the smallest normal f32 up, 2 ^ 948 units, both formats drop digits of the same number, so that the f32's pattern is the f64's with 29
-- digits rounded off and the exponent's field less 896 (`normal_pattern`). Below it the sum with 2 ^ -97, whose last place is 2 ^ -149,
-- is rounded where the f32 is, and its pattern less that of 2 ^ -97 is the f32's (`low_pattern`). Assumes nothing.
use Rattle.std.proofs.Common.{◌≡◌, ℕ, suc, ◌+◌, ◌-◌, ◌*◌, ◌/◌, ◌%◌, ◌^◌, ◌<◌, ◌≤◌, min, Bool, true, false, cond, not, T, ◌⊎◌, ℤ, sym, refl, ap, ◌∙◌, subst, inl, inr, le_trans, le_of_eq, lt_of_lt_of_le, lt_of_le_of_lt, le_of_lt, mul_assoc, mul_comm, div-lt_iff_lt-mul, mul-pos, le-div_iff_mul-le, zero-add, mul-one, div-one, mul-div_cancel, arith, lit<, lit≤, nltb→le, pow_pos, pow-add, shl_lt}
use lib.Ieee.{Float, nan, inf, fin, binary32, binary64, up, down, size, round, add, sum, fits, is_nan, nan_bits, to_bits, of_bits}
use lib.Ieee.Bits.{nan_bits_is, nan_bits_above, of_bits-to_bits, to_bits-lt}
use lib.Ieee.Digits.{size-lt, size-le, size_reaches}
use lib.Ieee.Fits.{down_pos, round-fits}
use lib.Ieee.Nearest.{closest, closest_same, closest_mono}
use Rattle.floats.proofs.Laws.Closest.{closest_add_even, closest_by_adding}
use Rattle.floats.proofs.Laws.Place.{place, size_above, units_below, units_above, size_exact, round_bits, pattern}
use Rattle.floats.proofs.Laws.Rounding.{round_self}
use Rattle.floats.proofs.Laws.Units.{written, written_same, exponent, in_units, fits_digits, fits_signed, bits_of_sign, bits_under_top, round_number}
use Rattle.floats.proofs.Laws.Magnitude.{Finite, read_magnitude, below_infinity, magnitude_is}
use Rattle.floats.specs.Narrowing.{narrowed}
use Rattle.floats.specs.OnBits.{absolute}

-- ---- below the smallest normal f32, which is 2 ^ 948 units, nothing is dropped
none : (z : ℕ) → z ≤ 23 → z - 24 ≡ 0
none z h = omega arith

pub low_written : (X : ℕ) → X < 2 ^ 948 → written 24 X (2 ^ 925) ≡ closest X (2 ^ 925)
unfolding written
low_written X h =
    ap (λ (k : ℕ). k * 2 ^ 23 + closest X (2 ^ 925 * 2 ^ k)) (none (size (X / 2 ^ 925)) (size-le (X / 2 ^ 925) 23 ((div-lt_iff_lt-mul (pow_pos 925)).1 h)))
    ∙ zero-add (closest X (2 ^ 925))

-- X + 2 ^ 977 has 978 digits, of which the f64 drops 925
sum_digits : (X : ℕ) → X < 2 ^ 948 → size ((X + 2 ^ 977) / 1) - 53 ≡ 925
sum_digits X h =
    ap (λ (z : ℕ). z - 53) (ap size (div-one (X + 2 ^ 977)) ∙ size_exact 977 (X + 2 ^ 977) (over X (2 ^ 977)) (lt_of_lt_of_le (more X (2 ^ 948) (2 ^ 977) h) (lit≤ tt)))
  where
    over : (a b : ℕ) → b ≤ a + b
    over a b = omega arith

    more : (a b c : ℕ) → a < b → a + c < b + c
    more a b c h = omega arith

regroup : (a b c : ℕ) → a + (b + c) ≡ a + c + b
regroup a b c = omega arith

pub low_sum_written : (X : ℕ) → X < 2 ^ 948 → written 53 (X + 2 ^ 977) 1 ≡ 926 * 2 ^ 52 + closest X (2 ^ 925)
unfolding written
low_sum_written X h =
    ap (λ (k : ℕ). k * 2 ^ 52 + closest (X + 2 ^ 977) (1 * 2 ^ k)) (sum_digits X h)
    ∙ ap (λ (x : ℕ). 925 * 2 ^ 52 + x) (closest_add_even X (2 ^ 925) (2 ^ 52) (pow_pos 925) refl)
    ∙ regroup (925 * 2 ^ 52) (closest X (2 ^ 925)) (2 ^ 52)

pub low_closest : (X : ℕ) → X < 2 ^ 948 → closest X (2 ^ 925) ≤ 2 ^ 23
low_closest X h = closest_mono X (2 ^ 925) (2 ^ 23) 1 (pow_pos 925) (lit< tt) (le_trans (le_of_eq (mul-one X)) (le_of_lt h))

-- ---- from it up
-- t digits cut off
size_cut : (n t : ℕ) → t < size n → size (n / 2 ^ t) ≡ size n - t
size_cut n t h =
    size_exact (size n - suc t) (n / 2 ^ t)
    ((le-div_iff_mul-le (pow_pos t)).1 (le_trans (le_of_eq (sym (pow-add 2 (size n - suc t) t))) (size_reaches n (size n - suc t + t) (below (size n) t h))))
    ((div-lt_iff_lt-mul (pow_pos t)).1 (lt_of_lt_of_le (size-lt n) (le_of_eq (ap (λ (x : ℕ). 2 ^ x) (whole (size n) t h) ∙ pow-add 2 (suc (size n - suc t)) t))))
    ∙ up (size n) t h
  where
    below : (z t : ℕ) → t < z → z - suc t + t < z
    below z t h = omega arith

    whole : (z t : ℕ) → t < z → z ≡ suc (z - suc t) + t
    whole z t h = omega arith

    up : (z t : ℕ) → t < z → suc (z - suc t) ≡ z - t
    up z t h = omega arith

-- j digits dropped by the f64 are j - 896 by the f32; what is left of them are 29 digits
dropped : (z y : ℕ) → 949 ≤ z → y ≡ z - 925 → y - 24 ≡ z - 53 - 896
dropped z y h e = omega arith

fields : (j : ℕ) → 896 ≤ j → 925 + (j - 896) ≡ 29 + j
fields j h = omega arith

same_kept : (K j : ℕ) → 896 ≤ j → closest (K * 2 ^ j) (2 ^ 925 * 2 ^ (j - 896)) ≡ closest K 536870912
same_kept K j h =
    ap (closest (K * 2 ^ j)) (sym (pow-add 2 925 (j - 896)) ∙ ap (λ (x : ℕ). 2 ^ x) (fields j h) ∙ pow-add 2 29 j)
    ∙ closest_same (K * 2 ^ j) (536870912 * 2 ^ j) K 536870912 (mul-pos (lit< tt) (pow_pos j)) (lit< tt) (mul_assoc K (2 ^ j) 536870912 ∙ ap (λ (x : ℕ). K * x) (mul_comm (2 ^ j) 536870912))

-- the carry out of the kept digits runs into the exponent's field
field_off : (j Y : ℕ) → (j * 4503599627370496 + Y) / 536870912 ≡ j * 8388608 + Y / 536870912
field_off j Y = omega arith

even_field : (j y : ℕ) → (j * 8388608 + y) % 2 ≡ y % 2
even_field j y = omega arith

less_fields : (j y : ℕ) → 896 ≤ j → (j - 896) * 8388608 + y ≡ j * 8388608 + y - 7516192768
less_fields j y h = omega arith

carried : (j K : ℕ) → 896 ≤ j
    → (j - 896) * 8388608 + (K + 268435455 + K / 536870912 % 2) / 536870912
    ≡ (j * 4503599627370496 + K + 268435455 + (j * 4503599627370496 + K) / 536870912 % 2) / 536870912 - 7516192768
carried j K h =
    let b = K / 536870912 % 2 in
    less_fields j ((K + 268435455 + b) / 536870912) h
    ∙ ap (λ (x : ℕ). x - 7516192768) (sym (field_off j (K + 268435455 + b)))
    ∙ ap (λ (x : ℕ). x / 536870912 - 7516192768) (apart (j * 4503599627370496) K 268435455 b)
    ∙ ap (λ (x : ℕ). (j * 4503599627370496 + K + 268435455 + x) / 536870912 - 7516192768) (sym (ap (λ (x : ℕ). x % 2) (field_off j K) ∙ even_field j (K / 536870912)))
  where
    apart : (a b c d : ℕ) → a + (b + c + d) ≡ a + b + c + d
    apart a b c d = omega arith

enough : (z : ℕ) → 949 ≤ z → 896 ≤ z - 53
enough z h = omega arith

pub normal_written : (X : ℕ) → 2 ^ 948 ≤ X → X / 2 ^ (size X - 53) * 2 ^ (size X - 53) ≡ X
    → written 24 X (2 ^ 925) ≡ (place 53 X + 268435455 + place 53 X / 536870912 % 2) / 536870912 - 7516192768
unfolding written
normal_written X h e =
    let z = size X in
    let j = z - 53 in
    let K = X / 2 ^ j in
    let Z : 949 ≤ z = size_above X 948 h in
    ap (λ (k : ℕ). k * 8388608 + closest X (2 ^ 925 * 2 ^ k)) (dropped z (size (X / 2 ^ 925)) Z (size_cut X 925 (lt_of_lt_of_le (lit< tt) Z)))
    ∙ ap (λ (x : ℕ). (j - 896) * 8388608 + closest x (2 ^ 925 * 2 ^ (j - 896))) (sym e)
    ∙ ap (λ (x : ℕ). (j - 896) * 8388608 + x) (same_kept K j (enough z Z) ∙ closest_by_adding K)
    ∙ carried j K (enough z Z)

-- ---- the f32's pattern, by the f64's pattern m
module _ (m : ℕ) (v : Finite binary64 m) where
  units_of : ℕ
  units_of = v.digits * 2 ^ exponent 1074 v.power

  cross : v.digits * up v.power * 2 ^ 149 * 2 ^ 925 ≡ units_of * down v.power
  unfolding units_of
  cross = mul_assoc (v.digits * up v.power) (2 ^ 149) (2 ^ 925) ∙ in_units binary64 false v.digits v.power v.held

  narrowed_pattern : to_bits binary32 (narrowed (of_bits binary64 m)) ≡ min (written 24 units_of (2 ^ 925)) 0x7f800000
  unfolding narrowed written
  narrowed_pattern =
      let a = v.digits * up v.power in
      ap (λ (x : Float). to_bits binary32 (narrowed x)) v.is
      ∙ round_bits binary32 false a (down v.power)
      ∙ zero-add (min (written 24 (a * 2 ^ 149) (down v.power)) 0x7f800000)
      ∙ ap (λ (x : ℕ). min x 0x7f800000) (written_same 24 (a * 2 ^ 149) (down v.power) units_of (2 ^ 925) (down_pos v.power) (pow_pos 925) cross)

  -- below the smallest normal f32: the sum with 2 ^ -97
  units_under : m < 897 * 2 ^ 52 → units_of < 2 ^ 948
  unfolding units_of
  units_under h = units_below 53 896 units_of (lit< tt) (lt_of_le_of_lt (le_of_eq (sym v.at)) h)

  sum_cross : (u D T L P X : ℕ) → u * L ≡ X * D → L ≡ T * P → (u * T + 1 * 1 * D) * L * 1 ≡ (X + P) * (D * T)
  sum_cross u D T L P X e l =
      let g : u * L * T ≡ X * D * T = ap (λ (x : ℕ). x * T) e in
      let h : D * L ≡ D * (T * P) = ap (λ (x : ℕ). D * x) l in
      omega arith

  fit_under : (a b c : ℕ) → b ≤ c → a + c ≤ 0x7ff0000000000000 → min (a + b) 0x7ff0000000000000 ≡ a + b
  fit_under a b c h k = omega arith

  low_sum_bits : m < 897 * 2 ^ 52 → to_bits binary64 (add binary64 (of_bits binary64 m) (of_bits binary64 0x39e0000000000000)) ≡ 926 * 2 ^ 52 + closest units_of (2 ^ 925)
  unfolding units_of add sum of_bits written
  low_sum_bits h =
      let d = v.digits * up v.power in
      let D = down v.power in
      let X = units_of in
      let X_low : X < 2 ^ 948 = units_under h in
      ap (λ (x : Float). to_bits binary64 (add binary64 x (of_bits binary64 0x39e0000000000000))) v.is
      ∙ round_bits binary64 false (d * 2 ^ 97 + 1 * 1 * D) (D * 2 ^ 97)
      ∙ zero-add (min (written 53 ((d * 2 ^ 97 + 1 * 1 * D) * 2 ^ 1074) (D * 2 ^ 97)) 0x7ff0000000000000)
      ∙ ap (λ (x : ℕ). min x 0x7ff0000000000000)
      (written_same 53 ((d * 2 ^ 97 + 1 * 1 * D) * 2 ^ 1074) (D * 2 ^ 97) (X + 2 ^ 977) 1 (mul-pos (down_pos v.power) (pow_pos 97)) (lit< tt)
      (sum_cross d D (2 ^ 97) (2 ^ 1074) (2 ^ 977) X (in_units binary64 false v.digits v.power v.held) refl)
      ∙ low_sum_written X X_low)
      ∙ fit_under (926 * 2 ^ 52) (closest X (2 ^ 925)) (2 ^ 23) (low_closest X X_low) (lit≤ tt)

  with_more : (a b : ℕ) → a ≤ a + b
  with_more a b = omega arith

  pub low_sum_over : m < 897 * 2 ^ 52 → 926 * 2 ^ 52 ≤ to_bits binary64 (add binary64 (of_bits binary64 m) (of_bits binary64 0x39e0000000000000))
  low_sum_over h = le_trans (with_more (926 * 2 ^ 52) (closest units_of (2 ^ 925))) (le_of_eq (sym (low_sum_bits h)))

  pub low_sum_number : T (not (is_nan (add binary64 (of_bits binary64 m) (of_bits binary64 0x39e0000000000000))))
  unfolding add sum of_bits
  low_sum_number =
      subst (λ (x : Float). T (not (is_nan (add binary64 x (of_bits binary64 0x39e0000000000000))))) (sym v.is)
      (round_number binary64 false (v.digits * up v.power * 2 ^ 97 + 1 * 1 * down v.power) (down v.power * 2 ^ 97))

  taken_off : (a b : ℕ) → b ≡ a + b - a
  taken_off a b = omega arith

  in_range : (a : ℕ) → a ≤ 2 ^ 23 → min a 0x7f800000 ≡ a
  in_range a h = omega arith

  pub low_pattern : m < 897 * 2 ^ 52 → to_bits binary32 (narrowed (of_bits binary64 m)) ≡ to_bits binary64 (add binary64 (of_bits binary64 m) (of_bits binary64 0x39e0000000000000)) - 926 * 2 ^ 52
  low_pattern h =
      let X_low : units_of < 2 ^ 948 = units_under h in
      narrowed_pattern
      ∙ ap (λ (x : ℕ). min x 0x7f800000) (low_written units_of X_low)
      ∙ in_range (closest units_of (2 ^ 925)) (low_closest units_of X_low)
      ∙ taken_off (926 * 2 ^ 52) (closest units_of (2 ^ 925))
      ∙ ap (λ (x : ℕ). x - 926 * 2 ^ 52) (sym (low_sum_bits h))

  -- from it up: the f64 holds the value, so what it drops is zeros
  apart : (j i : ℕ) → j ≤ i → i ≡ i - j + j
  apart j i h = omega arith

  spare : (z i : ℕ) → z ≤ 53 + i → z - 53 ≤ i
  spare z i h = omega arith

  held_whole : (d i : ℕ) → d < 2 ^ 53 → d * 2 ^ i / 2 ^ (size (d * 2 ^ i) - 53) * 2 ^ (size (d * 2 ^ i) - 53) ≡ d * 2 ^ i
  held_whole d i h =
      let j = size (d * 2 ^ i) - 53 in
      let e : d * 2 ^ i ≡ d * 2 ^ (i - j) * 2 ^ j =
      ap (λ (x : ℕ). d * x) (ap (λ (x : ℕ). 2 ^ x) (apart j i (spare (size (d * 2 ^ i)) i (size-le (d * 2 ^ i) (53 + i) (shl_lt 53 i h)))) ∙ pow-add 2 (i - j) j) ∙ sym (mul_assoc d (2 ^ (i - j)) (2 ^ j)) in
      ap (λ (x : ℕ). x / 2 ^ j * 2 ^ j) e ∙ ap (λ (x : ℕ). x * 2 ^ j) (mul-div_cancel (d * 2 ^ (i - j)) (pow_pos j)) ∙ sym e

  pub normal_pattern : 897 * 2 ^ 52 ≤ m → to_bits binary32 (narrowed (of_bits binary64 m)) ≡ min ((m + 268435455 + m / 536870912 % 2) / 536870912 - 7516192768) 0x7f800000
  unfolding units_of
  normal_pattern h =
      narrowed_pattern
      ∙ ap (λ (x : ℕ). min x 0x7f800000) (normal_written units_of (units_above 53 896 units_of (lit< tt) (le_trans h (le_of_eq v.at))) (held_whole v.digits (exponent 1074 v.power) (fits_digits binary64 false v.digits v.power v.held)))
      ∙ ap (λ (x : ℕ). min ((x + 268435455 + x / 536870912 % 2) / 536870912 - 7516192768) 0x7f800000) (sym v.at)

-- ---- every magnitude up to the infinity
pub low_finite : (m : ℕ) → m < 897 * 2 ^ 52 → Finite binary64 m
low_finite m h = below_infinity binary64 m (lt_of_lt_of_le h (lit≤ tt))

pub normal_magnitude : (m : ℕ) → m ≤ 0x7ff0000000000000 → 897 * 2 ^ 52 ≤ m
    → to_bits binary32 (narrowed (of_bits binary64 m)) ≡ min ((m + 268435455 + m / 536870912 % 2) / 536870912 - 7516192768) 0x7f800000
unfolding narrowed to_bits
normal_magnitude m h k = go (read_magnitude binary64 m h)
  where
    go : ((of_bits binary64 m ≡ inf false) × (m ≡ 0x7ff0000000000000)) ⊎ Finite binary64 m
        → to_bits binary32 (narrowed (of_bits binary64 m)) ≡ min ((m + 268435455 + m / 536870912 % 2) / 536870912 - 7516192768) 0x7f800000
    go (inl z) =
        ap (λ (x : Float). to_bits binary32 (narrowed x)) z.0
        ∙ ap (λ (x : ℕ). min ((x + 268435455 + x / 536870912 % 2) / 536870912 - 7516192768) 0x7f800000) (sym z.1)
    go (inr v) = normal_pattern m v k

-- an f32 narrows to itself
pub narrowed_same : (x : Float) → T (fits binary32 x) → narrowed x ≡ x
unfolding narrowed
narrowed_same nan t = refl
narrowed_same (inf s) t = refl
narrowed_same (fin s m e) t = round_self binary32 s m e t

-- ---- with its sign
pub narrowed_fits : (x : Float) → T (fits binary32 (narrowed x))
unfolding narrowed
narrowed_fits nan = unfold fits in tt
narrowed_fits (inf s) = unfold fits in tt
narrowed_fits (fin s m e) = round-fits binary32 s (m * up e) (down e)

pub narrowed_number : (x : Float) → T (not (is_nan x)) → T (not (is_nan (narrowed x)))
unfolding narrowed is_nan
narrowed_number nan n = absurd n
narrowed_number (inf s) n = tt
narrowed_number (fin s m e) n = round_number binary32 s (m * up e) (down e)

-- the sign's bit of the f64, moved to that of the f32
abbrev pub sign_bit : ℕ → ℕ
sign_bit n = n / 0x8000000000000000 * 0x80000000

signed_bit : (s : Bool) (c : ℕ) → c < 0x8000000000000000 → sign_bit (cond s 0x8000000000000000 0 + c) ≡ cond s 0x80000000 0
signed_bit true c h = omega arith
signed_bit false c h = omega arith

signed_finite : (s : Bool) (m : ℕ) (e : ℤ) → T (fits binary64 (fin s m e))
    → sign_bit (to_bits binary64 (fin s m e)) + to_bits binary32 (round binary32 false (m * up e) (down e)) ≡ to_bits binary32 (round binary32 s (m * up e) (down e))
signed_finite s m e t =
    let r = min (pattern binary32 (m * up e) (down e)) 0x7f800000 in
    ap (λ (x : ℕ). sign_bit x + to_bits binary32 (round binary32 false (m * up e) (down e))) (bits_of_sign binary64 s m e t)
    ∙ ap (λ (x : ℕ). x + to_bits binary32 (round binary32 false (m * up e) (down e))) (signed_bit s (to_bits binary64 (fin false m e)) (bits_under_top binary64 m e (fits_signed binary64 s false m e t)))
    ∙ ap (λ (x : ℕ). cond s 0x80000000 0 + x) (round_bits binary32 false (m * up e) (down e) ∙ zero-add r)
    ∙ sym (round_bits binary32 s (m * up e) (down e))

pub signed_pattern : (x : Float) → T (fits binary64 x) → T (not (is_nan x)) → sign_bit (to_bits binary64 x) + to_bits binary32 (narrowed (absolute x)) ≡ to_bits binary32 (narrowed x)
unfolding narrowed absolute is_nan to_bits
signed_pattern nan t n = absurd n
signed_pattern (inf true) t n = refl
signed_pattern (inf false) t n = refl
signed_pattern (fin s m e) t n = signed_finite s m e t

-- ---- what the code of `narrow` asks, of an x that is no NaN and its pattern n
module _ (x : Float) (t : T (fits binary64 x)) (n : T (not (is_nan x))) where
  pub magnitude_small : to_bits binary64 x % 0x8000000000000000 ≤ 0x7ff0000000000000
  magnitude_small =
      nltb→le 0x7ff0000000000000 (to_bits binary64 x % 0x8000000000000000)
      (subst (λ (b : Bool). T (not b)) (sym (ap is_nan (of_bits-to_bits binary64 x t)) ∙ sym (nan_bits_is binary64 (to_bits binary64 x)) ∙ nan_bits_above binary64 (to_bits binary64 x)) n)

  pub whole_pattern : sign_bit (to_bits binary64 x) + to_bits binary32 (narrowed (of_bits binary64 (to_bits binary64 x % 0x8000000000000000))) ≡ to_bits binary32 (narrowed x)
  whole_pattern = ap (λ (y : Float). sign_bit (to_bits binary64 x) + to_bits binary32 (narrowed y)) (magnitude_is binary64 x t n) ∙ signed_pattern x t n

  pub pattern_fits : to_bits binary32 (narrowed x) < 2 ^ 32
  pattern_fits = to_bits-lt binary32 (narrowed x) (narrowed_fits x)

  pub pattern_back : of_bits binary32 (to_bits binary32 (narrowed x)) ≡ narrowed x
  pattern_back = of_bits-to_bits binary32 (narrowed x) (narrowed_fits x)

  pub pattern_number : T (not (nan_bits binary32 (to_bits binary32 (narrowed x))))
  pattern_number = subst (λ (b : Bool). T (not b)) (ap is_nan (sym pattern_back) ∙ sym (nan_bits_is binary32 (to_bits binary32 (narrowed x)))) (narrowed_number x n)
