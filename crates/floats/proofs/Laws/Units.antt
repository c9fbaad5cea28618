-- A finite value in units of its format's smallest value: m * 2 ^ e is m * 2 ^ i units, a whole number (`in_units`). What `round` makes of a
-- fraction turns on its size alone (`written_same`). The sign stands apart, in the value and in the pattern. Assumes nothing.
use Rattle.std.proofs.Common.{◌≡◌, ℕ, zero, suc, ◌+◌, ◌-◌, ◌*◌, ◌%◌, ◌^◌, ◌<◌, ◌≤◌, Bool, true, false, cond, not, ◌&&◌, T, eqb, ltb, leb, ℤ, pos, negsuc, sym, refl, ap, ◌∙◌, subst, le_trans, le_of_eq, lt_of_lt_of_le, le_of_suc-le-suc, lt_of_le_of_lt, lt_irrefl, mul-le-mul_right, mul_assoc, mul-pos, one-mul, lt_of_not-le, zero-add, zero-mul, mul-one, arith, eqb→eq, ltb→lt, leb→le, pow_pos, pow-add}
use lib.Pow.{pow-lt}
use lib.Ieee.{Float, nan, inf, fin, Format, prec, emax, low, up, down, size, odd, units, round, fits, top, is_nan, to_bits}
use lib.Ieee.Bits.{to_bits-lt}
use lib.Ieee.Fits.{and_l, and_r, up_pos, down_pos, round_is}
use lib.Ieee.Nearest.{closest, closest_same, div_same}
use lib.Ieee.Order.{drop, kept}
use Rattle.floats.proofs.Laws.Place.{place, bits_of_units, pattern}

-- ---- what `fits` says of a finite value
-- of one that is not zero: its digits are odd and few enough, and its size is in range
pub record Held (f : Format) (m : ℕ) (e : ℤ) : Type 0 where
  pub odd_digits : m % 2 ≡ 1
  pub few_digits : m < 2 ^ prec f
  pub not_too_low : down e ≤ 2 ^ low f
  pub not_too_high : m * up e < 2 ^ suc (emax f) * down e

pub held : (f : Format) (s : Bool) (m : ℕ) (e : ℤ) → T (fits f (fin s (suc m) e)) → Held f (suc m) e
unfolding fits
held f s m e t =
    let A = eqb (suc m % 2) 1 in
    let B = ltb (suc m) (2 ^ prec f) in
    let C = leb (down e) (2 ^ low f) in
    let D = ltb (suc m * up e) (2 ^ suc (emax f) * down e) in
    let abc : T (A && B && C) = and_l (A && B && C) D t in
    let ab : T (A && B) = and_l (A && B) C abc in
    record {
      odd_digits = eqb→eq (suc m % 2) 1 (and_l A B ab);
      few_digits = ltb→lt (suc m) (2 ^ prec f) (and_r A B ab);
      not_too_low = leb→le (down e) (2 ^ low f) (and_r (A && B) C abc);
      not_too_high = ltb→lt (suc m * up e) (2 ^ suc (emax f) * down e) (and_r (A && B && C) D t);
    }

pub fits_digits : (f : Format) (s : Bool) (m : ℕ) (e : ℤ) → T (fits f (fin s m e)) → m < 2 ^ prec f
fits_digits f s zero e t = pow_pos (prec f)
fits_digits f s (suc m) e t = (held f s m e t).few_digits

pub fits_low : (f : Format) (s : Bool) (m : ℕ) (e : ℤ) → T (fits f (fin s m e)) → down e ≤ 2 ^ low f
unfolding fits
fits_low f s zero e t =
    le_trans (le_of_eq (sym (one-mul (down e))))
    (le_trans (mul-le-mul_right (down e) (up_pos e)) (le_trans (le_of_eq (eqb→eq (up e * down e) 1 t)) (pow_pos (low f))))
fits_low f s (suc m) e t = (held f s m e t).not_too_low

pub fits_top : (f : Format) (s : Bool) (m : ℕ) (e : ℤ) → T (fits f (fin s m e)) → m * up e < 2 ^ suc (emax f) * down e
fits_top f s zero e t = lt_of_le_of_lt (le_of_eq (zero-mul (up e))) (mul-pos (pow_pos (suc (emax f))) (down_pos e))
fits_top f s (suc m) e t = (held f s m e t).not_too_high

pub fits_signed : (f : Format) (s t : Bool) (m : ℕ) (e : ℤ) → T (fits f (fin s m e)) → T (fits f (fin t m e))
unfolding fits
fits_signed f s t zero e h = h
fits_signed f s t (suc m) e h = h

-- ---- the exponent counted from the smallest value
abbrev pub exponent : ℕ → ℤ → ℕ
exponent l (pos k) = k + l
exponent l (negsuc k) = l - suc k

pow_le_back : (a l : ℕ) → 2 ^ a ≤ 2 ^ l → a ≤ l
pow_le_back a l h = le_of_suc-le-suc (lt_of_not-le (λ (g : suc l ≤ a). lt_irrefl (2 ^ l) (lt_of_lt_of_le (pow-lt g) h)))

back : (l k : ℕ) → k ≤ l → l ≡ l - k + k
back l k h = omega arith

pub exponent_is : (l m : ℕ) (e : ℤ) → down e ≤ 2 ^ l → m * up e * 2 ^ l ≡ m * 2 ^ exponent l e * down e
exponent_is l m (pos k) h = mul_assoc m (2 ^ k) (2 ^ l) ∙ ap (λ (x : ℕ). m * x) (sym (pow-add 2 k l)) ∙ sym (mul-one (m * 2 ^ (k + l)))
exponent_is l m (negsuc k) h =
    ap (λ (x : ℕ). x * 2 ^ l) (mul-one m)
    ∙ ap (λ (x : ℕ). m * x) (ap (λ (x : ℕ). 2 ^ x) (back l (suc k) (pow_le_back (suc k) l h)) ∙ pow-add 2 (l - suc k) (suc k))
    ∙ sym (mul_assoc m (2 ^ (l - suc k)) (2 ^ suc k))

pub in_units : (f : Format) (s : Bool) (m : ℕ) (e : ℤ) → T (fits f (fin s m e)) → m * up e * 2 ^ low f ≡ m * 2 ^ exponent (low f) e * down e
in_units f s m e t = exponent_is (low f) m e (fits_low f s m e t)

pub bits_of_value : (f : Format) (s : Bool) (m : ℕ) (e : ℤ) → T (fits f (fin s m e)) → to_bits f (fin s m e) ≡ cond s (top f) 0 + place (prec f) (m * 2 ^ exponent (low f) e)
bits_of_value f s m e t = bits_of_units f s m e (m * 2 ^ exponent (low f) e) (in_units f s m e t)

-- ---- what is dropped and kept of a fraction n / c, as `pattern` puts it together, turns on its size alone
unfoldable pub written : ℕ → ℕ → ℕ → ℕ
written p n c = drop p n c * 2 ^ (p - 1) + kept p n c

pub written_same : (p a b c d : ℕ) → 0 < b → 0 < d → a * d ≡ c * b → written p a b ≡ written p c d
unfolding written
written_same p a b c d B D e =
    let k : drop p a b ≡ drop p c d = ap (λ (z : ℕ). size z - p) (div_same a b c d B D e) in
    let j = drop p c d in
    let y : a * (d * 2 ^ j) ≡ c * (b * 2 ^ j) = sym (mul_assoc a d (2 ^ j)) ∙ ap (λ (z : ℕ). z * 2 ^ j) e ∙ mul_assoc c b (2 ^ j) in
    ap (λ (z : ℕ). z * 2 ^ (p - 1) + closest a (b * 2 ^ z)) k
    ∙ ap (λ (z : ℕ). j * 2 ^ (p - 1) + z) (closest_same a (b * 2 ^ j) c (d * 2 ^ j) (mul-pos B (pow_pos j)) (mul-pos D (pow_pos j)) y)

pub pattern_is : (f : Format) (a c : ℕ) → pattern f a c ≡ written (prec f) (a * 2 ^ low f) c
unfolding written
pattern_is f a c = refl

-- ---- the sign
pub bits_of_sign : (f : Format) (s : Bool) (m : ℕ) (e : ℤ) → T (fits f (fin s m e)) → to_bits f (fin s m e) ≡ cond s (top f) 0 + to_bits f (fin false m e)
bits_of_sign f s m e t =
    bits_of_value f s m e t
    ∙ ap (λ (x : ℕ). cond s (top f) 0 + x) (sym (zero-add (place (prec f) (m * 2 ^ exponent (low f) e))) ∙ sym (bits_of_value f false m e (fits_signed f s false m e t)))

half : (a c : ℕ) → c + a < 2 * c → a < c
half a c h = omega arith

pub bits_under_top : (f : Format) (m : ℕ) (e : ℤ) → T (fits f (fin false m e)) → to_bits f (fin false m e) < top f
bits_under_top f m e t =
    let n : T (fits f (fin true m e)) = fits_signed f false true m e t in
    half (to_bits f (fin false m e)) (top f) (subst (λ (x : ℕ). x < 2 * top f) (bits_of_sign f true m e n) (to_bits-lt f (fin true m e) n))

-- ---- rounding gives a number with the sign that it was handed
abbrev pub HasSign : Bool → Float → Type 0
HasSign s nan = ⊥
HasSign s (inf t) = t ≡ s
HasSign s (fin t m e) = t ≡ s

odd_has_sign : (d : ℕ) (s : Bool) (q k l : ℕ) → HasSign s (odd d s q k l)
unfolding odd
odd_has_sign d s zero k l = refl
odd_has_sign d s (suc q) k l = refl

units_has_sign : (f : Format) (s : Bool) (q k : ℕ) → HasSign s (units f s q k)
unfolding units
units_has_sign f s q k = go (ltb (q * 2 ^ k) (2 ^ (low f + suc (emax f))))
  where
    go : (b : Bool) → HasSign s (cond b (odd (suc (prec f)) s q k (low f)) (inf s))
    go true = odd_has_sign (suc (prec f)) s q k (low f)
    go false = refl

pub round_has_sign : (f : Format) (s : Bool) (a c : ℕ) → HasSign s (round f s a c)
round_has_sign f s a c = subst (HasSign s) (sym (round_is f s a c)) (units_has_sign f s (kept (prec f) (a * 2 ^ low f) c) (drop (prec f) (a * 2 ^ low f) c))

number_of_sign : (s : Bool) (x : Float) → HasSign s x → T (not (is_nan x))
unfolding is_nan
number_of_sign s nan h = absurd h
number_of_sign s (inf t) h = tt
number_of_sign s (fin t m e) h = tt

pub round_number : (f : Format) (s : Bool) (a c : ℕ) → T (not (is_nan (round f s a c)))
round_number f s a c = number_of_sign s (round f s a c) (round_has_sign f s a c)
