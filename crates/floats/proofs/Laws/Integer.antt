-- Why a whole number is told by the exponent's field and the zeros at the end of the digits: an f32 is digits * 2 ^ (field - 150), the leading
-- digit among the digits, so it is whole where the zeros at their end make up for the negative exponent (`integer_of_bits`). Assumes nothing.
use Rattle.std.proofs.Common.{◌≡◌, ℕ, zero, suc, ◌+◌, ◌-◌, ◌*◌, ◌/◌, ◌%◌, ◌^◌, ◌<◌, ◌≤◌, Bool, true, false, cond, T, eqb, leb, ◌⊎◌, ℤ, pos, negsuc, sym, refl, ap, ◌∙◌, subst, inl, inr, lt_of_lt_of_le, le_of_suc-le-suc, le_of_lt, le-add_left, lt_irrefl, mod-lt, zero-lt-suc, div-lt_iff_lt-mul, add_comm, suc-add, eq-or-lt_of_le, mul-pos, pow-suc, mul-one, arith, lit≤, le→leb, eqb→eq, pow_pos, pow_mono, shl_lt}
use native.Mathlib.Nat.{mod-one, mod-mod_of_dvd, dvd-mul_right, pow-succ'}
use lib.Dec.{not_T, leb-suc-suc}
use lib.Arith.{lt→nleb}
use lib.Pow.{field}
use lib.Count.{count_trailing_zeros, under, trailing_le}
use lib.Ieee.{nan, inf, fin, binary32, up, down, minus, odd, fits, of_fields, of_bits}
use lib.Ieee.Bits.{is_true, is_false, cond_no}
use lib.Ieee.Digits.{odd_val}
use lib.Ieee.Fits.{odd-fits, down_pos}
use lib.Ieee.Positive.{first_pos}
use Rattle.floats.specs.OnBits.{is_integer}
use Rattle.floats.proofs.Laws.Units.{held}

-- ---- the zeros at the end of a number, counted in more digits than it has
half_pos : (q : ℕ) → 0 < q → q % 2 ≡ 0 → 0 < q / 2
half_pos q h e = omega arith

none_below_one : (q : ℕ) → 0 < q → q < 1 → ⊥
none_below_one q h k = omega arith

one_more : (d q : ℕ) → 0 < q → q < 2 ^ d → count_trailing_zeros (suc d) q ≡ count_trailing_zeros d q
unfolding count_trailing_zeros
one_more zero q p h = absurd (none_below_one q p h)
one_more (suc d) q p h = go (q % 2) refl (λ (e : q % 2 ≡ 0). one_more d (q / 2) (half_pos q p e) ((div-lt_iff_lt-mul (zero-lt-suc 1)).1 (subst (λ (x : ℕ). q < x) (pow-suc 2 d) h)))
  where
    go : (r : ℕ) → q % 2 ≡ r → (q % 2 ≡ 0 → count_trailing_zeros (suc d) (q / 2) ≡ count_trailing_zeros d (q / 2)) → under r (count_trailing_zeros (suc d) (q / 2)) ≡ under r (count_trailing_zeros d (q / 2))
    go zero e ih = ap suc (ih e)
    go (suc r) e ih = refl

more : (k q : ℕ) → 0 < q → q < 2 ^ 24 → count_trailing_zeros (k + 24) q ≡ count_trailing_zeros 24 q
more zero q p h = refl
more (suc k) q p h = ap (λ (d : ℕ). count_trailing_zeros d q) (suc-add k 24) ∙ one_more (k + 24) q p (lt_of_lt_of_le h (pow_mono (le-add_left 24 k))) ∙ more k q p h

-- ---- a value with odd digits is whole where its exponent is not negative
abbrev whole : ℤ → Bool
whole (pos k) = true
whole (negsuc k) = false

odd_is_not_zero : (r x : ℕ) → r ≡ 1 → r ≡ x → x ≡ 0 → ⊥
odd_is_not_zero r x a b c = omega arith

no_multiple : (m k : ℕ) → m % 2 ≡ 1 → eqb (m * 1 % 2 ^ suc k) 0 ≡ false
no_multiple m k o =
    is_false (eqb (m * 1 % 2 ^ suc k) 0)
    (not_T (eqb (m * 1 % 2 ^ suc k) 0)
    (λ t.
    odd_is_not_zero (m % 2) (0 % 2) o
    (ap (λ (x : ℕ). x % 2) (sym (mul-one m)) ∙ sym (even_part (m * 1)) ∙ ap (λ (x : ℕ). x % 2) (eqb→eq (m * 1 % 2 ^ suc k) 0 t))
    refl))
  where
    even_part : (n : ℕ) → n % 2 ^ suc k % 2 ≡ n % 2
    even_part n = ap (λ (x : ℕ). n % x % 2) (pow-succ' 2 k) ∙ mod-mod_of_dvd 2 n (dvd-mul_right 2 (2 ^ k))

whole_or_not : (s : Bool) (m : ℕ) (e : ℤ) → T (fits binary32 (fin s m e)) → 0 < m → is_integer (fin s m e) ≡ whole e
unfolding is_integer
whole_or_not s zero e t h = absurd (lt_irrefl 0 h)
whole_or_not s (suc m) (pos k) t h = ap (λ (x : ℕ). eqb x 0) (mod-one (suc m * 2 ^ k))
whole_or_not s (suc m) (negsuc k) t h = no_multiple (suc m) k (held binary32 s m (negsuc k) t).odd_digits

whole_of_minus : (a l : ℕ) → whole (minus a l) ≡ leb l a
whole_of_minus a l = go (leb l a)
  where
    go : (b : Bool) → whole (cond b (pos (a - l)) (negsuc (l - suc a))) ≡ b
    go true = refl
    go false = refl

-- ---- q * 2 ^ x units of 2 ^ -149
integer_of_units : (s : Bool) (q x : ℕ) → 0 < q → q < 2 ^ 24 → q * 2 ^ x < 2 ^ 277 → is_integer (odd 24 s q x 149) ≡ leb 149 (x + count_trailing_zeros 24 q)
unfolding odd
integer_of_units s zero x p h k = absurd (lt_irrefl 0 p)
integer_of_units s (suc q) x p h k =
    let t = count_trailing_zeros 24 (suc q) in
    let e = minus (x + t) 149 in
    let m = suc q / 2 ^ t in
    let v : m * up e * 2 ^ 149 ≡ suc q * 2 ^ x * down e = odd_val 24 s (suc q) x 149 in
    whole_or_not s m e (odd-fits binary32 24 s (suc q) x h (le_of_lt h) k)
    (first_pos m (up e) (first_pos (m * up e) (2 ^ 149) (subst (λ (y : ℕ). 0 < y) (sym v) (mul-pos (mul-pos p (pow_pos x)) (down_pos e)))))
    ∙ whole_of_minus (x + t) 149

-- ---- by the fields of the pattern
too_few : (z : ℕ) → z ≤ 32 → 0 + z < 150
too_few z h = omega arith

too_few_low : (z : ℕ) → z ≤ 24 → 0 + z < 149
too_few_low z h = omega arith

low_is_none : (s : Bool) (t : ℕ) → t < 2 ^ 23 → is_integer (odd 24 s t 0 149) ≡ false
unfolding odd is_integer
low_is_none s zero h = refl
low_is_none s (suc t) h =
    integer_of_units s (suc t) 0 (zero-lt-suc t) (lt_of_lt_of_le h (lit≤ tt)) (subst (λ (x : ℕ). x < 2 ^ 277) (sym (mul-one (suc t))) (lt_of_lt_of_le h (lit≤ tt)))
    ∙ is_false (leb 149 (0 + count_trailing_zeros 24 (suc t))) (lt→nleb 149 (0 + count_trailing_zeros 24 (suc t)) (too_few_low (count_trailing_zeros 24 (suc t)) (trailing_le 24 (suc t))))

normal_lt : (t : ℕ) → t < 2 ^ 23 → 2 ^ 23 + t < 2 ^ 24
normal_lt t h = omega arith

lead : (t : ℕ) → 0 < 2 ^ 23 + t
lead t = omega arith

top_field : (x z : ℕ) → x ≡ 255 → 150 ≤ x + z
top_field x z e = omega arith

under_top : (x : ℕ) → suc x < 255 → 24 + x ≤ 277
under_top x h = omega arith

endless : (b s : Bool) → is_integer (cond b (inf s) nan) ≡ true
unfolding is_integer
endless true s = refl
endless false s = refl

integer_of_fields : (s : Bool) (x t : ℕ) → x < 256 → t < 2 ^ 23 → is_integer (of_fields binary32 s x t) ≡ leb 150 (x + count_trailing_zeros 32 (t + 2 ^ 23))
unfolding of_fields
integer_of_fields s zero t X H =
    low_is_none s t H
    ∙ sym (is_false (leb 150 (0 + count_trailing_zeros 32 (t + 2 ^ 23))) (lt→nleb 150 (0 + count_trailing_zeros 32 (t + 2 ^ 23)) (too_few (count_trailing_zeros 32 (t + 2 ^ 23)) (trailing_le 32 (t + 2 ^ 23)))))
integer_of_fields s (suc x) t X H = go (eq-or-lt_of_le (le_of_suc-le-suc X))
  where
    go : (suc x ≡ 255) ⊎ (suc x < 255) → is_integer (cond (eqb (suc x) 255) (cond (eqb t 0) (inf s) nan) (odd 24 s (2 ^ 23 + t) x 149)) ≡ leb 150 (suc x + count_trailing_zeros 32 (t + 2 ^ 23))
    go (inl e) =
        ap (λ (b : Bool). is_integer (cond b (cond (eqb t 0) (inf s) nan) (odd 24 s (2 ^ 23 + t) x 149))) (is_true (eqb (suc x) 255) (subst (λ (y : ℕ). T (eqb y 255)) (sym e) tt))
        ∙ endless (eqb t 0) s
        ∙ sym (is_true (leb 150 (suc x + count_trailing_zeros 32 (t + 2 ^ 23))) (le→leb 150 (suc x + count_trailing_zeros 32 (t + 2 ^ 23)) (top_field (suc x) (count_trailing_zeros 32 (t + 2 ^ 23)) e)))
    go (inr l) =
        ap is_integer (cond_no (eqb (suc x) 255) (cond (eqb t 0) (inf s) nan) (odd 24 s (2 ^ 23 + t) x 149) (not_T (eqb (suc x) 255) (λ u. lt_irrefl 255 (subst (λ (y : ℕ). y < 255) (eqb→eq (suc x) 255 u) l))))
        ∙ integer_of_units s (2 ^ 23 + t) x (lead t) (normal_lt t H) (lt_of_lt_of_le (shl_lt 24 x (normal_lt t H)) (pow_mono (under_top x l)))
        ∙ ap (λ (z : ℕ). leb 149 (x + z)) (sym (more 8 (2 ^ 23 + t) (lead t) (normal_lt t H)) ∙ ap (count_trailing_zeros 32) (add_comm (2 ^ 23) t))
        ∙ sym (ap (leb 150) (suc-add x (count_trailing_zeros 32 (t + 2 ^ 23))) ∙ leb-suc-suc 149 (x + count_trailing_zeros 32 (t + 2 ^ 23)))

pub integer_of_bits : (n : ℕ) → is_integer (of_bits binary32 n) ≡ leb 150 (n / 2 ^ 23 % 256 + count_trailing_zeros 32 (n % 2 ^ 23 + 2 ^ 23))
unfolding of_bits
integer_of_bits n =
    integer_of_fields (leb (2 ^ 31) n) (n % 2 ^ 31 / 2 ^ 23) (n % 2 ^ 23) ((div-lt_iff_lt-mul {k = 2 ^ 23} (pow_pos 23)).1 (mod-lt n (pow_pos 31))) (mod-lt n (pow_pos 23))
    ∙ ap (λ (x : ℕ). leb 150 (x + count_trailing_zeros 32 (n % 2 ^ 23 + 2 ^ 23))) (field n 8 23)
