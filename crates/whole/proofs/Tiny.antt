-- For |x| <= 2 ^ -29 and |y| <= 16 the f32 sum 1.0 + y * x is 1 (`tiny_is_one`): the product is at most 2 ^ -25 in size, before its rounding and so after
-- it, and what lies within 2 ^ -25 of 1 rounds to 1. So is the power whose exponent is 0, and the code takes that (`power_way`). Assumes nothing.
use Rattle.std.proofs.Common.{◌≡◌, ℕ, ◌+◌, ◌-◌, ◌*◌, ◌^◌, ◌<◌, ◌≤◌, Bool, true, false, cond, T, ltb, pos, negsuc, sym, refl, ap, ◌∙◌, subst, le_trans, le_of_eq, mul-le-mul_right, mul_assoc, le_antisymm, mul-le-mul_left, mul-pos, mul-zero, mul-one, arith, lit<}
use lib.Arith.{le→nltb}
use lib.Ieee.{Float, nan, inf, fin, binary32, up, down, unlike, round, neg, add, sum, mul, div, lt, le, eq, to_unsigned, fits, of_bits}
use lib.Ieee.Bits.{cond_no, of_bits-to_bits}
use lib.Ieee.Fits.{down_pos, round-fits}
use lib.Ieee.Order.{round_mono}
use mir.Val.{bool_byte}
use Rattle.floats.specs.Operations.{◌⊕◌, ◌⊘◌}
use Rattle.floats.specs.Narrowing.{narrowed}
use Rattle.floats.specs.OnBits.{absolute}
use Rattle.floats.proofs.Laws.Tests.{first, second}
use Rattle.floats.proofs.Laws.Rounding.{neg_round}
use Rattle.floats.proofs.Laws.Order.{clear, pattern_mono, round_clear, round_at_most}
use Rattle.special.specs.Special.{zero, one}
use Rattle.whole.specs.Whole.{is_whole, is_tiny, tiny, squarings, whole_power, whole}
use Rattle.floats.proofs.Laws.Compare.{at_most}
use Rattle.whole.proofs.Exponent.{at_most_16}

-- ---- what rounds to 1
same_value : (x y : Float) → T (clear x) → T (clear y) → T (fits binary32 x) → T (fits binary32 y) → T (le x y) → T (le y x) → x ≡ y
same_value x y p q t u h k =
    sym (of_bits-to_bits binary32 x t) ∙ ap (of_bits binary32) (le_antisymm (pattern_mono binary32 x y p q t u h) (pattern_mono binary32 y x q p u t k)) ∙ of_bits-to_bits binary32 y u

near_one : (a c : ℕ) → 0 < c → (2 ^ 25 - 1) * c ≤ a * 2 ^ 25 → a * 2 ^ 25 ≤ (2 ^ 25 + 1) * c → round binary32 false a c ≡ one
unfolding round fits
near_one a c h lower upper =
    same_value (round binary32 false a c) one (round_clear binary32 a c) tt (round-fits binary32 false a c) tt
    (round_mono binary32 a c (2 ^ 25 + 1) (2 ^ 25) h (lit< tt) upper)
    (round_mono binary32 (2 ^ 25 - 1) (2 ^ 25) a c (lit< tt) h lower)

-- ---- 1 and a value of at most 2 ^ -25, with either sign
over_zero : (d : ℕ) → 0 < d → 0 < 1 * d
over_zero d h = omega arith

under : (b d : ℕ) → b * 2 ^ 25 ≤ 1 * 1 * d → b * 1 ≤ 1 * d
under b d h = omega arith

more_least : (b d : ℕ) → b * 2 ^ 25 ≤ 1 * 1 * d → (2 ^ 25 - 1) * (1 * d) ≤ (1 * d + b * 1) * 2 ^ 25
more_least b d h = omega arith

more_most : (b d : ℕ) → b * 2 ^ 25 ≤ 1 * 1 * d → (1 * d + b * 1) * 2 ^ 25 ≤ (2 ^ 25 + 1) * (1 * d)
more_most b d h = omega arith

less_least : (b d : ℕ) → b * 2 ^ 25 ≤ 1 * 1 * d → (2 ^ 25 - 1) * (1 * d) ≤ (1 * d - b * 1) * 2 ^ 25
less_least b d h = omega arith

less_most : (b d : ℕ) → b * 2 ^ 25 ≤ 1 * 1 * d → (1 * d - b * 1) * 2 ^ 25 ≤ (2 ^ 25 + 1) * (1 * d)
less_most b d h = omega arith

add_little : (s : Bool) (x : Float) → T (clear x) → T (le x (fin false 1 (negsuc 24))) → add binary32 one (cond s (neg x) x) ≡ one
unfolding le lt eq add sum neg
add_little s nan p h = absurd p
add_little s (inf true) p h = absurd p
add_little s (inf false) p h = absurd h
add_little s (fin true m e) p h = absurd p
add_little false (fin false m e) p h =
    let k : m * up e * 2 ^ 25 ≤ 1 * 1 * down e = at_most (m * up e * 2 ^ 25) (1 * 1 * down e) h in
    near_one (1 * down e + m * up e * 1) (1 * down e) (over_zero (down e) (down_pos e)) (more_least (m * up e) (down e) k) (more_most (m * up e) (down e) k)
add_little true (fin false m e) p h =
    let k : m * up e * 2 ^ 25 ≤ 1 * 1 * down e = at_most (m * up e * 2 ^ 25) (1 * 1 * down e) h in
    cond_no (ltb (1 * down e) (m * up e * 1)) (round binary32 true (m * up e * 1 - 1 * down e) (1 * down e)) (round binary32 false (1 * down e - m * up e * 1) (1 * down e))
    (le→nltb (1 * down e) (m * up e * 1) (under (m * up e) (down e) k))
    ∙ near_one (1 * down e - m * up e * 1) (1 * down e) (over_zero (down e) (down_pos e)) (less_least (m * up e) (down e) k) (less_most (m * up e) (down e) k)

-- ---- the product
product_le : (x dx y dy : ℕ) → x * 2 ^ 29 ≤ 1 * 1 * dx → y * 1 ≤ 1 * 2 ^ 4 * dy → y * x * 2 ^ 25 ≤ 1 * (dy * dx)
product_le x dx y dy h k =
    let both : y * (x * 2 ^ 29) ≤ 2 ^ 4 * dy * dx = le_trans (mul-le-mul_left y (omega (arith, h))) (mul-le-mul_right dx (omega (arith, k))) in
    go (y * x) (dy * dx) (le_trans (le_of_eq (mul_assoc y x (2 ^ 29))) (le_trans both (le_of_eq (mul_assoc (2 ^ 4) dy dx))))
  where
    go : (p q : ℕ) → p * 2 ^ 29 ≤ 2 ^ 4 * q → p * 2 ^ 25 ≤ 1 * q
    go p q h = omega arith

by_sign : (s : Bool) (a c : ℕ) → round binary32 s a c ≡ cond s (neg (round binary32 false a c)) (round binary32 false a c)
by_sign true a c = sym (neg_round binary32 false a c)
by_sign false a c = refl

tiny_of : (x y : Float) → T (le (absolute y) (fin false 1 (pos 4))) → T (is_tiny x) → tiny x y ≡ one
unfolding absolute is_tiny tiny le lt eq mul fits
tiny_of nan y h k = absurd k
tiny_of (inf s) y h k = absurd k
tiny_of (fin s m e) nan h k = absurd h
tiny_of (fin s m e) (inf t) h k = absurd h
tiny_of (fin s m e) (fin t n d) h k =
    let a = n * up d * (m * up e) in
    let c = down d * down e in
    ap (add binary32 one) (by_sign (unlike t s) a c)
    ∙ add_little (unlike t s) (round binary32 false a c) (round_clear binary32 a c)
    (round_at_most binary32 (fin false 1 (negsuc 24)) a c 1 (2 ^ 25) (mul-pos (down_pos d) (down_pos e)) (lit< tt) tt (refl, refl)
    (product_le (m * up e) (down e) (n * up d) (down d) (at_most (m * up e * 2 ^ 29) (1 * 1 * down e) k) (at_most (n * up d * 1) (1 * 2 ^ 4 * down d) h)))

-- document 01: "which is always 1"
pub tiny_is_one : (x y : Float) → is_whole x y ≡ true → is_tiny x ≡ true → tiny x y ≡ one
tiny_is_one x y e k = tiny_of x y (at_most_16 x y e) (subst T (sym k) tt)

-- ---- so the route's answer is the power's there too, with an exponent of 0
abbrev pub exponent : Float → Float → ℕ
exponent x y = to_unsigned 32 (absolute y) * (1 - bool_byte (is_tiny x))

at_one : (below : Bool) → narrowed (cond below (one ⊘ one) one) ≡ one
unfolding narrowed div round
at_one true = refl
at_one false = refl

no_power : (s : Float) → whole_power s 0 ≡ one
unfolding whole_power squarings
no_power s = refl

pub power_way : (x y acc : Float) → is_whole x y ≡ true → acc ≡ whole_power (x ⊕ one) (exponent x y) → narrowed (cond (lt y zero) (one ⊘ acc) acc) ≡ whole x y
unfolding whole
power_way x y acc h e = go (is_tiny x) refl
  where
    count : ℕ
    count = to_unsigned 32 (absolute y)

    value : ℕ → Float
    value n = let a = whole_power (x ⊕ one) n in narrowed (cond (lt y zero) (one ⊘ a) a)

    by_power : narrowed (cond (lt y zero) (one ⊘ acc) acc) ≡ value (exponent x y)
    by_power = ap (λ (a : Float). narrowed (cond (lt y zero) (one ⊘ a) a)) e

    go : (b : Bool) → is_tiny x ≡ b → narrowed (cond (lt y zero) (one ⊘ acc) acc) ≡ cond (is_tiny x) (tiny x y) (value count)
    go true d =
        by_power ∙ ap (λ (b : Bool). value (count * (1 - bool_byte b))) d ∙ ap value (mul-zero count)
        ∙ ap (λ (a : Float). narrowed (cond (lt y zero) (one ⊘ a) a)) (no_power (x ⊕ one)) ∙ at_one (lt y zero) ∙ sym (tiny_is_one x y h d) ∙ first (is_tiny x) (tiny x y) (value count) d
    go false d = by_power ∙ ap (λ (b : Bool). value (count * (1 - bool_byte b))) d ∙ ap value (mul-one count) ∙ second (is_tiny x) (tiny x y) (value count) d
