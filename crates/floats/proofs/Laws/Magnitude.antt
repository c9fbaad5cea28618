-- A pattern with no sign that is at most the infinity's: what it stands for (`read_magnitude`). And a value that is no NaN, by its pattern
-- without the sign (`magnitude_of_bits`) and by the sign's bit (`set_sign`). Assumes nothing.
use Rattle.std.proofs.Common.{◌≡◌, ℕ, ◌+◌, ◌*◌, ◌%◌, ◌^◌, ◌<◌, ◌≤◌, Bool, true, false, cond, not, T, ◌⊎◌, ℤ, sym, refl, ap, ◌∙◌, subst, inl, inr, le_trans, le_of_eq, lt_of_le_of_lt, le_of_lt, mod-eq_of_lt, zero-add, not-le_of_lt, arith, lit<}
use native.Mathlib.Nat.{add-mod_left}
use lib.Ieee.{Float, nan, inf, fin, Format, binary32, binary64, prec, low, hid, ones, top, neg, fits, is_nan, nan_bits, to_bits, of_bits}
use lib.Ieee.Bits.{nan_bits_is, of_bits-fits, of_bits-to_bits, to_bits-of_bits}
use Rattle.std.specs.Float.{float_with_sign}
use Rattle.floats.specs.OnBits.{absolute}
use Rattle.floats.proofs.Laws.Nan.{number_of_below}
use Rattle.floats.proofs.Laws.Place.{place, bits_of_inf}
use Rattle.floats.proofs.Laws.Units.{exponent, bits_of_value, bits_of_sign, bits_under_top, fits_signed}

-- the infinity's pattern has no sign
pub inf_under_top : (f : Format) → ones f * hid f < top f
inf_under_top binary32 = lit< tt
inf_under_top binary64 = lit< tt

-- ---- a pattern with no sign, up to the infinity's
-- m stands for a finite value that is not negative: digits * 2 ^ power, whose place m is
pub record Finite (f : Format) (m : ℕ) : Type 0 where
  pub digits : ℕ
  pub power : ℤ
  pub is : of_bits f m ≡ fin false digits power
  pub held : T (fits f (fin false digits power))
  pub at : m ≡ place (prec f) (digits * 2 ^ exponent (low f) power)

signed_over : (a b c : ℕ) → a < c → c + b ≡ a → ⊥
signed_over a b c h e = omega arith

under_twice : (a c : ℕ) → a < c → a < 2 * c
under_twice a c h = omega arith

pub read_magnitude : (f : Format) (m : ℕ) → m ≤ ones f * hid f → ((of_bits f m ≡ inf false) × (m ≡ ones f * hid f)) ⊎ Finite f m
unfolding is_nan
read_magnitude f m h = go (of_bits f m) refl number (of_bits-fits f m) (to_bits-of_bits f m (under_twice m (top f) small) number)
  where
    small : m < top f
    small = lt_of_le_of_lt h (inf_under_top f)

    infinite : m % top f ≤ ones f * hid f
    infinite = subst (λ (x : ℕ). x ≤ ones f * hid f) (sym (mod-eq_of_lt small)) h

    number : T (not (is_nan (of_bits f m)))
    number = subst (λ (b : Bool). T (not b)) (nan_bits_is f m) (number_of_below f m infinite)

    go : (x : Float) → of_bits f m ≡ x → T (not (is_nan x)) → T (fits f x) → to_bits f x ≡ m → ((of_bits f m ≡ inf false) × (m ≡ ones f * hid f)) ⊎ Finite f m
    go nan e n t b = absurd n
    go (inf true) e n t b = absurd (signed_over m (ones f * hid f) (top f) small (sym (bits_of_inf f true) ∙ b))
    go (inf false) e n t b = inl (e, sym b ∙ bits_of_inf f false ∙ zero-add (ones f * hid f))
    go (fin true d p) e n t b = absurd (signed_over m (to_bits f (fin false d p)) (top f) small (sym (bits_of_sign f true d p t) ∙ b))
    go (fin false d p) e n t b = inr (record {
      digits = d;
      power = p;
      is = e;
      held = t;
      at = sym b ∙ bits_of_value f false d p t ∙ zero-add (place (prec f) (d * 2 ^ exponent (low f) p));
    })

-- below it, a finite value
pub below_infinity : (f : Format) (m : ℕ) → m < ones f * hid f → Finite f m
below_infinity f m h = go (read_magnitude f m (le_of_lt h))
  where
    go : ((of_bits f m ≡ inf false) × (m ≡ ones f * hid f)) ⊎ Finite f m → Finite f m
    go (inl z) = absurd (not-le_of_lt h (le_of_eq (sym z.1)))
    go (inr v) = v

-- ---- a value that is no NaN, by its pattern
with_sign : (s : Bool) (c a : ℕ) → a < c → (cond s c 0 + a) % c ≡ a
with_sign true c a h = add-mod_left c a ∙ mod-eq_of_lt h
with_sign false c a h = ap (λ (x : ℕ). x % c) (zero-add a) ∙ mod-eq_of_lt h

pub magnitude_of_bits : (f : Format) (x : Float) → T (fits f x) → T (not (is_nan x)) → to_bits f x % top f ≡ to_bits f (absolute x)
unfolding is_nan absolute
magnitude_of_bits f nan t n = absurd n
magnitude_of_bits f (inf s) t n =
    ap (λ (x : ℕ). x % top f) (bits_of_inf f s)
    ∙ with_sign s (top f) (ones f * hid f) (inf_under_top f)
    ∙ sym (bits_of_inf f false ∙ zero-add (ones f * hid f))
magnitude_of_bits f (fin s m e) t n =
    ap (λ (x : ℕ). x % top f) (bits_of_sign f s m e t)
    ∙ with_sign s (top f) (to_bits f (fin false m e)) (bits_under_top f m e (fits_signed f s false m e t))

pub absolute_fits : (f : Format) (x : Float) → T (fits f x) → T (fits f (absolute x))
unfolding absolute
absolute_fits f nan t = t
absolute_fits f (inf s) t = unfold fits in tt
absolute_fits f (fin s m e) t = fits_signed f s false m e t

pub magnitude_is : (f : Format) (x : Float) → T (fits f x) → T (not (is_nan x)) → of_bits f (to_bits f x % top f) ≡ absolute x
magnitude_is f x t n = ap (of_bits f) (magnitude_of_bits f x t n) ∙ of_bits-to_bits f (absolute x) (absolute_fits f x t)

-- a NaN's pattern, as it is written, has no sign either
pub absolute_of_bits : (f : Format) (x : Float) → T (fits f x) → of_bits f (to_bits f x % top f) ≡ absolute x
unfolding absolute to_bits of_bits is_nan
absolute_of_bits binary32 nan t = refl
absolute_of_bits binary64 nan t = refl
absolute_of_bits f (inf s) t = magnitude_is f (inf s) t tt
absolute_of_bits f (fin s m e) t = magnitude_is f (fin s m e) t tt

-- std's `abs` takes off the sign by `float_with_sign`, at a NaN too
pub sign_off : (x : Float) → float_with_sign false x ≡ absolute x
unfolding float_with_sign absolute
sign_off nan = refl
sign_off (inf s) = refl
sign_off (fin s m e) = refl

pub absolute_number : (x : Float) → T (not (is_nan x)) → T (not (is_nan (absolute x)))
unfolding absolute is_nan
absolute_number nan n = absurd n
absolute_number (inf s) n = tt
absolute_number (fin s m e) n = tt

pub magnitude_number : (f : Format) (x : Float) → T (fits f x) → T (not (is_nan x)) → T (not (nan_bits f (to_bits f x % top f)))
magnitude_number f x t n = subst (λ (b : Bool). T (not b)) (sym (nan_bits_is f (to_bits f x % top f) ∙ ap is_nan (magnitude_is f x t n))) (absolute_number x n)

-- ---- the sign's bit
pub set_sign : (f : Format) (x : Float) → T (fits f x) → T (not (is_nan x)) → top f ≤ to_bits f x → neg (absolute x) ≡ x
unfolding absolute is_nan neg
set_sign f nan t n h = absurd n
set_sign f (inf true) t n h = refl
set_sign f (inf false) t n h = absurd (not-le_of_lt (inf_under_top f) (subst (λ (x : ℕ). top f ≤ x) (bits_of_inf f false ∙ zero-add (ones f * hid f)) h))
set_sign f (fin true m e) t n h = refl
set_sign f (fin false m e) t n h = absurd (not-le_of_lt (bits_under_top f m e t) h)

-- so a pattern with the sign set, a NaN's apart, stands for the negated value of the pattern without it
pub negated : (f : Format) (n : ℕ) → n < 2 * top f → n % top f ≤ ones f * hid f → top f ≤ n → neg (of_bits f (n % top f)) ≡ of_bits f n
negated f n b h s =
    let x = of_bits f n in
    let t = of_bits-fits f n in
    let number : T (not (is_nan x)) = subst (λ (c : Bool). T (not c)) (nan_bits_is f n) (number_of_below f n h) in
    let e : to_bits f x ≡ n = to_bits-of_bits f n b number in
    ap (λ (k : ℕ). neg (of_bits f (k % top f))) (sym e) ∙ ap neg (magnitude_is f x t number) ∙ set_sign f x t number (le_trans s (le_of_eq (sym e)))
