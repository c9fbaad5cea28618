-- The low part of 1 + x, as the accurate logarithm has it with the power of two taken out: where it is an 8c-th of the sum it is 1/c at most (`low_part`), and it always is 2^-23 at most
-- (`low_bound`), as it is a few roundings of the sum, and the sum is 2^-24 at least. Assumes nothing.
use Rattle.std.proofs.Common.{◌≡◌, ℕ, ◌+◌, ◌-◌, ◌*◌, ◌^◌, ◌<◌, ◌≤◌, true, false, T, ◌⊎◌, ℤ, sym, refl, ap, ◌∙◌, subst, inl, inr, le_trans, le_of_eq, le_refl, le-add_right, le_of_lt, add-le-add, mul-le-mul_right, mul_assoc, mul_comm, mul-le-mul, one-mul, zero-add, mul-one, mul_right_comm, not-le_of_lt, le_of_mul-le-mul_right, arith, lit<, lit≤}
use lib.Ieee.{Float, nan, inf, fin, binary32, binary64, fits, to_bits, of_bits, lt, le, eq}
use lib.Ieee.Fits.{fits_widens}
use lib.Ieee.Scale.{finite}
use Rattle.floats.specs.Operations.{◌⊕◌, ◌⊗◌}
use Rattle.floats.proofs.Laws.Order.{or_l, bits_of_clear}
use Rattle.floats.proofs.Laws.Place.{units_above}
use Rattle.floats.proofs.Laws.Sums.{SizeAtMost}
use Rattle.floats.proofs.Laws.Units.{exponent, fits_top, bits_of_sign}
use Rattle.tables.specs.Tables.{entry, log2p1_scale}
use Rattle.tables.proofs.Entries.{carried}
use Rattle.special.specs.Special.{one, minus_one}
use Rattle.bounds.proofs.Values.{per_one, per_one_pos, plus, less, mag, one_side, Number}
use Rattle.bounds.proofs.Operation.{limit, Close, add_near, mul_near}
use Rattle.bounds.proofs.Sums.{sum_small}
use Rattle.bounds.proofs.Scales.{S, one_is, unit, unit_left, Bound, within, tested, mul_limit}
use Rattle.bounds.proofs.Compared.{Positive, tested_positive, le_units, size_in_units}

-- ---- 1 and -1, and a finite f32
pub one_is_1 : Positive (2 ^ 53) (2 ^ 53) one
unfolding fits
one_is_1 = tested_positive (2 ^ 53) (2 ^ 53) one tt

pub one_mag : mag one ≡ per_one
unfolding per_one
one_mag = refl

minus_one_number : Number minus_one
minus_one_number = record { held = unfold fits in tt; plain = tt }

f32_size : (x : Float) → T (fits binary32 x) → T (finite x) → SizeAtMost (2 ^ 128) x
f32_size nan t p = absurd p
f32_size (inf s) t p = absurd p
f32_size (fin s m e) t p = le_of_lt (fits_top binary32 s m e t)

-- at most 2^128
pub f32_number : (x : Float) → T (fits binary32 x) → T (finite x) → Number x × (mag x ≤ 2 ^ 128 * per_one)
f32_number x t p = size_in_units (2 ^ 128) x (fits_widens x t) (f32_size x t p)

-- 2^181 on the scale of 1
pub f32_bound : (x : Float) → Number x → mag x ≤ 2 ^ 128 * per_one → Bound S (2 ^ 181) x
f32_bound x n h = record { scale = unit; number = n; size = le_trans h (le_of_eq (ap (λ (k : ℕ). 2 ^ 128 * k) one_is ∙ go (2 ^ 128) S (2 ^ 53))) }
  where
    go : (a s b : ℕ) → a * (s * b) ≡ a * b * s
    go a s b = ap (λ (k : ℕ). a * k) (mul_comm s b) ∙ sym (mul_assoc a b s)

-- above -1
pub above_minus_one : (x : Float) → Number x → T (lt minus_one x) → less x ≤ plus x + per_one
unfolding le per_one
above_minus_one x n h = le_trans (le_of_eq (sym (zero-add (less x)))) (le_units minus_one x minus_one_number n (or_l (lt minus_one x) (eq minus_one x) h))

-- so the sum with 1 is below the overflow
pub sum_limit : (x : Float) → mag x ≤ 2 ^ 128 * per_one → 2 * (mag one + mag x) ≤ limit
unfolding limit per_one
sum_limit x h = le_trans (mul-le-mul (le_refl 2) (add-le-add (le_refl (mag one)) h)) (lit≤ tt)

-- and it is the exact sum but for a rounding
pub one_plus_near : (x : Float) → Number x → mag x ≤ 2 ^ 128 * per_one → Close (plus one + plus x) (less one + less x) (mag one + mag x) (one ⊕ x)
one_plus_near x n size =
    let d = mag one + mag x in
    add_near d one_is_1.number n (sum_small one x d (le_refl d)) (half d limit (sum_limit x size))
  where
    half : (d l : ℕ) → 2 * d ≤ l → d ≤ l
    half d l h = omega arith

-- ---- the sum is not small beside its terms
-- 2^-24 at least, by its pattern
pub least_units : (u : Float) → T (fits binary64 u) → 999 * 2 ^ 52 ≤ to_bits binary64 u → to_bits binary64 u < 1151 * 2 ^ 52 → per_one ≤ 2 ^ 24 * mag u
unfolding to_bits per_one
least_units nan t l h = absurd (not-le_of_lt h (lit≤ tt))
least_units (inf true) t l h = absurd (not-le_of_lt h (lit≤ tt))
least_units (inf false) t l h = absurd (not-le_of_lt h (lit≤ tt))
least_units (fin true m e) t l h = absurd (not-le_of_lt h (le_trans (lit≤ tt) (set_bit m e t)))
  where
    set_bit : (m : ℕ) (e : ℤ) → T (fits binary64 (fin true m e)) → 2 ^ 63 ≤ to_bits binary64 (fin true m e)
    set_bit m e t = le_trans (le-add_right (2 ^ 63) (to_bits binary64 (fin false m e))) (le_of_eq (sym (bits_of_sign binary64 true m e t)))
least_units (fin false m e) t l h =
    let X = m * 2 ^ exponent 1074 e in
    let g : 2 ^ (53 - 1 + 998) ≤ X = units_above 53 998 X (lit< tt) (le_trans l (le_of_eq (bits_of_clear binary64 m e t))) in
    le_trans (le_of_eq refl) (mul-le-mul (le_refl (2 ^ 24)) (le_trans g (le-add_right X 0)))

-- with o for 1: x is not above 0, or not below it
below_one : (n q m o k W : ℕ) → k ≡ 0 → o + k ≡ W → n ≤ 0 + W → W ≤ 2 ^ 24 * (q + m) → o + k + (0 + n) ≤ 2 ^ 25 * (q + m)
below_one n q m o k W K O a l = omega arith

over_one : (p q m o k : ℕ) → k ≡ 0 → (m + (o + p)) * 2 ^ 53 ≤ q * 2 ^ 53 + (o + p) → o + k + p ≤ 2 ^ 25 * (q + m)
over_one p q m o k K h = omega arith

terms_small : (p n q m o k W : ℕ) → (p ≡ 0) ⊎ (n ≡ 0) → k ≡ 0 → o + k ≡ W → n ≤ p + W → W ≤ 2 ^ 24 * (q + m) → (m + (o + p)) * 2 ^ 53 ≤ (q + (k + n)) * 2 ^ 53 + (o + k + (p + n)) → o + k + (p + n) ≤ 2 ^ 25 * (q + m)
terms_small p n q m o k W (inl z) K O a l h = subst (λ (i : ℕ). o + k + (i + n) ≤ 2 ^ 25 * (q + m)) (sym z) (below_one n q m o k W K O (subst (λ (i : ℕ). n ≤ i + W) z a) l)
terms_small p n q m o k W (inr z) K O a l h = le_trans (le_of_eq (shorter z)) (over_one p q m o k K (le_trans h (le_of_eq (longer z K))))
  where
    shorter : n ≡ 0 → o + k + (p + n) ≡ o + k + p
    shorter z = omega (arith, z)

    longer : n ≡ 0 → k ≡ 0 → (q + (k + n)) * 2 ^ 53 + (o + k + (p + n)) ≡ q * 2 ^ 53 + (o + p)
    longer z K = ap (λ (i : ℕ). (q + (k + i)) * 2 ^ 53 + (o + k + (p + i))) z ∙ ap (λ (i : ℕ). (q + (i + 0)) * 2 ^ 53 + (o + i + (p + 0))) K ∙ plain q o p
      where
        plain : (q o p : ℕ) → (q + (0 + 0)) * 2 ^ 53 + (o + 0 + (p + 0)) ≡ q * 2 ^ 53 + (o + p)
        plain q o p = omega arith

-- |1| + |x| is at most 2^25 of it
pub sum_least : (x : Float) → Number x → less x ≤ plus x + per_one → mag x ≤ 2 ^ 128 * per_one → per_one ≤ 2 ^ 24 * mag (one ⊕ x) → mag one + mag x ≤ 2 ^ 25 * mag (one ⊕ x)
sum_least x n above size least =
    let c = one_plus_near x n size in
    terms_small (plus x) (less x) (plus (one ⊕ x)) (less (one ⊕ x)) (plus one) (less one) per_one (one_side x) one_is_1.clear one_mag above least c.least

-- ---- the low part, with the power of two taken out
-- the powers of two are at most 2^29
pub scale_size : (i : ℕ) → i < 158 → Bound S (2 ^ 82) (entry log2p1_scale i)
unfolding entry log2p1_scale of_bits fits
scale_size i h = tested (2 ^ 82) (entry log2p1_scale i) (carried 158 (λ (k : ℕ). within (2 ^ 82) (entry log2p1_scale k)) tt i h)

-- sizes of products: M of the sum and the power of two, N of the low part and it, with w for 1 and q for its square
low_size : (c m M N T w q : ℕ) → T ≤ 2 * q → w ≤ q → w * (4 * c) ≤ q → M * 2 ^ 53 ≤ T * 2 ^ 53 + M + w * 2 ^ 52 → N * (8 * c) ≤ M → m * 2 ^ 53 ≤ N * 2 ^ 53 + N + w * 2 ^ 52 → m * c ≤ q
low_size c m M N T w q t v r h n g = third (m * c) (N * c) (w * c) q (le_trans (le_of_eq (four w c)) r) (le_trans (le_of_eq (eight N c)) (le_trans n (first M T w q t v h))) (times m N w c (once m N w g))
  where
    first : (M T w q : ℕ) → T ≤ 2 * q → w ≤ q → M * 2 ^ 53 ≤ T * 2 ^ 53 + M + w * 2 ^ 52 → M ≤ 3 * q
    first M T w q t v h = omega arith

    once : (m N w : ℕ) → m * 2 ^ 53 ≤ N * 2 ^ 53 + N + w * 2 ^ 52 → 8 * m ≤ 9 * N + 4 * w
    once m N w h = omega arith

    times : (m N w c : ℕ) → 8 * m ≤ 9 * N + 4 * w → 8 * (m * c) ≤ 9 * (N * c) + 4 * (w * c)
    times m N w c h = le_trans (le_of_eq (left m c)) (le_trans (mul-le-mul_right c h) (le_of_eq (right N w c)))
      where
        left : (m c : ℕ) → 8 * (m * c) ≡ 8 * m * c
        left m c = omega arith

        right : (N w c : ℕ) → (9 * N + 4 * w) * c ≡ 9 * (N * c) + 4 * (w * c)
        right N w c = omega arith

    four : (w c : ℕ) → 4 * (w * c) ≡ w * (4 * c)
    four w c = omega arith

    eight : (N c : ℕ) → 8 * (N * c) ≡ N * (8 * c)
    eight N c = omega arith

    third : (m N w q : ℕ) → 4 * w ≤ q → 8 * N ≤ 3 * q → 8 * m ≤ 9 * N + 4 * w → m ≤ q
    third m N w q r n h = omega arith

-- for an l of at most an 8c-th of the sum
pub record Low (c : ℕ) (x : Float) : Type 0 where
  pub number : Number x
  pub small : mag x * c ≤ per_one

pub low_part : (c : ℕ) (l u s t : Float) → 1 ≤ c → 4 * c ≤ per_one → Number l → mag l * (8 * c) ≤ mag u → Bound S (2 ^ 182) u → Bound S (2 ^ 82) s → u ⊗ s ≡ t → mag t ≤ 3 * 2 ^ 52 * S → Low c (l ⊗ s)
low_part c l u s t some few n h b k e m =
    let L : Bound S (2 ^ 182) l = record { scale = unit; number = n; size = le_trans (le_of_times c (mag l) (mag u) some h) b.size } in
    let us = mul_near b.number k.number (mul_limit (unit_left unit) b k tt tt) in
    let ls = mul_near n k.number (mul_limit (unit_left unit) L k tt tt) in
    let T : mag (u ⊗ s) ≤ 2 * per_one = le_trans (le_of_eq (ap mag e)) (le_trans m (le_trans (twice S) (le_of_eq (ap (λ (i : ℕ). 2 * i) (sym one_is))))) in
    let r = low_size c (mag (l ⊗ s) * per_one) (mag u * mag s) (mag l * mag s) (mag (u ⊗ s) * per_one) per_one (per_one * per_one)
    (le_trans (mul-le-mul_right per_one T) (le_of_eq (mul_assoc 2 per_one per_one))) square (mul-le-mul (le_refl per_one) few) us.least (le_trans (le_of_eq (mul_right_comm (mag l) (mag s) (8 * c))) (mul-le-mul_right (mag s) h)) ls.most in
    record { number = ls.number; small = le_of_mul-le-mul_right (le_trans (le_of_eq (mul_right_comm (mag (l ⊗ s)) c per_one)) r) per_one_pos }
  where
    le_of_times : (c a b : ℕ) → 1 ≤ c → a * (8 * c) ≤ b → a ≤ b
    le_of_times c a b some h = le_trans (le_of_eq (sym (mul-one a))) (le_trans (mul-le-mul (le_refl a) (more c some)) h)
      where
        more : (c : ℕ) → 1 ≤ c → 1 ≤ 8 * c
        more c h = omega arith

    twice : (s : ℕ) → 3 * 2 ^ 52 * s ≤ 2 * (s * 2 ^ 53)
    twice s = omega arith

    square : per_one ≤ per_one * per_one
    square = le_trans (le_of_eq (sym (one-mul per_one))) (mul-le-mul_right per_one per_one_pos)

-- 1 is large
pub one_large : (c : ℕ) → c ≤ 2 ^ 100 → c ≤ per_one
unfolding per_one
one_large c h = le_trans h (lit≤ tt)

-- on the scale of 1: 2^-23
pub low_bound : {x : Float} → Low (2 ^ 23) x → Bound S (2 ^ 30) x
low_bound {x} b = record { scale = unit; number = b.number; size = cut (mag x) S per_one one_is b.small }
  where
    cut : (m s w : ℕ) → w ≡ s * 2 ^ 53 → m * 2 ^ 23 ≤ w → m ≤ 2 ^ 30 * s
    cut m s w e h = omega arith
