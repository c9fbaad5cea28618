-- The power, or 1 divided by it, as one quotient: where the sign of y is clear the power is divided by 1, which changes nothing (`div_one`), and where it
-- is set 1 is divided by the power (`quotient`). The sign is that of the pattern (`sign_of_pattern`). The patterns of power and quotient may be asked for:
-- neither is a NaN (`power_number`, `quotient_number`), since a number and its powers are all at least 1 in size, or all at most 1. Assumes nothing.
use Rattle.std.proofs.Common.{◌≡◌, ℕ, zero, suc, ◌+◌, ◌-◌, ◌*◌, ◌/◌, ◌%◌, ◌^◌, ◌<◌, ◌≤◌, Bool, true, false, cond, not, T, eqb, ltb, leb, ◌⊎◌, ℤ, sym, refl, ap, ◌∙◌, subst, ap₂, inl, inr, le_of_lt, mul-le-mul, mul-pos, one-mul, mul-one, arith, lit<, le-ltb, lt-ltb, ne_eqb}
use lib.Ieee.{Float, nan, inf, fin, binary32, binary64, up, down, unlike, neg, round, mul, div, lt, le, eq, is_nan, fits, to_bits, of_bits}
use lib.Ieee.Bits.{of_bits-to_bits, to_bits-lt}
use lib.Ieee.Fits.{down_pos, mul-fits}
use Rattle.floats.specs.Operations.{◌⊗◌, ◌⊘◌}
use Rattle.floats.specs.OnBits.{is_integer}
use Rattle.floats.proofs.Laws.Compare.{Order, less, same, more, order, at_most, key, key_clear, key_set, lt_by_key}
use Rattle.floats.proofs.Laws.Order.{clear, round_clear, round_at_most, round_at_least}
use Rattle.floats.proofs.Laws.Rounding.{round_self, neg_round}
use Rattle.floats.proofs.Laws.Tests.{first, second}
use Rattle.floats.proofs.Laws.Units.{round_number}
use Rattle.special.specs.Special as Special
use Rattle.special.specs.Special.{one}
use Rattle.whole.specs.Whole.{is_whole, squarings, whole_power}
use Rattle.whole.proofs.Exponent.{number_y, integer_y}
use Rattle.whole.proofs.Squaring.{turn_factor}

-- ---- a value times itself and so on: what products keep, powers keep
kept : (P : Float → Type 0) → ((a b : Float) → P a → P b → P (a ⊗ b)) → (turns n : ℕ) (s acc : Float) → P s → P acc → P (squarings turns n s acc)
unfolding squarings
kept P times zero n s acc p q = q
kept P times (suc turns) n s acc p q = go (leb n 1) (eqb (n / 2 % 2) 1) (λ a r. kept P times turns (n / 2) (s ⊗ s) a (times s s p p) r)
  where
    go : (a b : Bool) → ((a : Float) → P a → P (squarings turns (n / 2) (s ⊗ s) a)) → P (cond a acc (squarings turns (n / 2) (s ⊗ s) (cond b (acc ⊗ (s ⊗ s)) acc)))
    go true b rest = q
    go false true rest = rest (acc ⊗ (s ⊗ s)) (times acc (s ⊗ s) q (times s s p p))
    go false false rest = rest acc q

power_keeps : (P : Float → Type 0) → ((a b : Float) → P a → P b → P (a ⊗ b)) → (n : ℕ) (s : Float) → P one → P s → P (whole_power s n)
unfolding whole_power
power_keeps P times n s o p = go (eqb (n % 2) 1)
  where
    go : (b : Bool) → P (squarings 4 n s (cond b s one))
    go true = kept P times 4 n s s p p
    go false = kept P times 4 n s one p o

pub power_fits : (n : ℕ) (s : Float) → T (fits binary64 s) → T (fits binary64 (whole_power s n))
power_fits n s t = power_keeps (λ (x : Float). T (fits binary64 x)) (λ a b p q. mul-fits binary64 a b) n s (unfold fits in tt) t

-- ---- no NaN
-- at least 1 in size, and at most 1
abbrev Large : Float → Type 0
Large nan = ⊥
Large (inf s) = Unit
Large (fin s m e) = down e ≤ m * up e

abbrev Small : Float → Type 0
Small nan = ⊥
Small (inf s) = ⊥
Small (fin s m e) = m * up e ≤ down e

large_clear : (x : Float) → T (clear x) → T (le one x) → Large x
unfolding le lt eq
large_clear nan p h = absurd p
large_clear (inf s) p h = tt
large_clear (fin true m e) p h = absurd p
large_clear (fin false m e) p h = plain (down e) (m * up e) (at_most (1 * 1 * down e) (m * up e * 1) h)
  where
    plain : (a b : ℕ) → 1 * 1 * a ≤ b * 1 → a ≤ b
    plain a b h = omega arith

small_clear : (x : Float) → T (clear x) → T (le x one) → Small x
unfolding le lt eq
small_clear nan p h = absurd p
small_clear (inf true) p h = absurd p
small_clear (inf false) p h = absurd h
small_clear (fin true m e) p h = absurd p
small_clear (fin false m e) p h = plain (m * up e) (down e) (at_most (m * up e * 1) (1 * 1 * down e) h)
  where
    plain : (a b : ℕ) → a * 1 ≤ 1 * 1 * b → a ≤ b
    plain a b h = omega arith

-- whatever the sign
either_sign : (P : Float → Type 0) → ((x : Float) → P x → P (neg x)) → (s : Bool) (a c : ℕ) → P (round binary64 false a c) → P (round binary64 s a c)
either_sign P turn false a c p = p
either_sign P turn true a c p = subst P (neg_round binary64 false a c) (turn (round binary64 false a c) p)

large_neg : (x : Float) → Large x → Large (neg x)
unfolding neg
large_neg nan h = h
large_neg (inf s) h = h
large_neg (fin s m e) h = h

small_neg : (x : Float) → Small x → Small (neg x)
unfolding neg
small_neg nan h = h
small_neg (inf s) h = h
small_neg (fin s m e) h = h

plain_le : (a c : ℕ) → c ≤ a → 1 * c ≤ a * 1
plain_le a c h = omega arith

large_round : (s : Bool) (a c : ℕ) → 0 < c → c ≤ a → Large (round binary64 s a c)
large_round s a c C h =
    either_sign Large large_neg s a c (large_clear (round binary64 false a c) (round_clear binary64 a c) (round_at_least binary64 one a c 1 1 C (lit< tt) (unfold fits in tt) (refl, refl) (plain_le a c h)))

small_round : (s : Bool) (a c : ℕ) → 0 < c → a ≤ c → Small (round binary64 s a c)
small_round s a c C h =
    either_sign Small small_neg s a c (small_clear (round binary64 false a c) (round_clear binary64 a c) (round_at_most binary64 one a c 1 1 C (lit< tt) (unfold fits in tt) (refl, refl) (plain a c h)))
  where
    plain : (a c : ℕ) → a ≤ c → a * 1 ≤ 1 * c
    plain a c h = omega arith

-- what is at least 1 is not 0
not_none : (n : ℕ) (d : ℤ) → down d ≤ n * up d → eqb n 0 ≡ false
not_none zero d h = absurd (omega (arith, h, down_pos d))
not_none (suc n) d h = ne_eqb (suc n) 0 (omega arith)

large_times : (x y : Float) → Large x → Large y → Large (x ⊗ y)
unfolding mul
large_times nan y p q = absurd p
large_times (inf s) nan p q = absurd q
large_times (inf s) (inf t) p q = tt
large_times (inf s) (fin t n d) p q = rw (not_none n d q) tt
large_times (fin s m e) nan p q = absurd q
large_times (fin s m e) (inf t) p q = rw (not_none m e p) tt
large_times (fin s m e) (fin t n d) p q = large_round (unlike s t) (m * up e * (n * up d)) (down e * down d) (mul-pos (down_pos e) (down_pos d)) (mul-le-mul p q)

small_times : (x y : Float) → Small x → Small y → Small (x ⊗ y)
unfolding mul
small_times nan y p q = absurd p
small_times (inf s) y p q = absurd p
small_times (fin s m e) nan p q = absurd q
small_times (fin s m e) (inf t) p q = absurd q
small_times (fin s m e) (fin t n d) p q = small_round (unlike s t) (m * up e * (n * up d)) (down e * down d) (mul-pos (down_pos e) (down_pos d)) (mul-le-mul p q)

large_number : (x : Float) → Large x → T (not (is_nan x))
unfolding is_nan
large_number nan h = absurd h
large_number (inf s) h = tt
large_number (fin s m e) h = tt

small_number : (x : Float) → Small x → T (not (is_nan x))
unfolding is_nan
small_number nan h = absurd h
small_number (inf s) h = absurd h
small_number (fin s m e) h = tt

either_size : (x : Float) → T (not (is_nan x)) → Large x ⊎ Small x
unfolding is_nan
either_size nan h = absurd h
either_size (inf s) h = inl tt
either_size (fin s m e) h = either (m * up e) (down e)
  where
    either : (a c : ℕ) → (c ≤ a) ⊎ (a ≤ c)
    either a c = grind arith

pub power_number : (n : ℕ) (s : Float) → T (not (is_nan s)) → T (not (is_nan (whole_power s n)))
power_number n s h = go (either_size s h)
  where
    go : Large s ⊎ Small s → T (not (is_nan (whole_power s n)))
    go (inl p) = large_number (whole_power s n) (power_keeps Large large_times n s (omega arith) p)
    go (inr p) = small_number (whole_power s n) (power_keeps Small small_times n s (omega arith) p)

-- ---- the quotient
over_one : (s : Bool) (m : ℕ) (e : ℤ) → T (fits binary64 (fin s m e)) → round binary64 s (m * up e * 1) (1 * down e) ≡ fin s m e
over_one s m e t = ap₂ (round binary64 s) (mul-one (m * up e)) (one-mul (down e)) ∙ round_self binary64 s m e t

div_one : (x : Float) → T (fits binary64 x) → x ⊘ one ≡ x
unfolding div
div_one nan t = refl
div_one (inf true) t = refl
div_one (inf false) t = refl
div_one (fin true m e) t = over_one true m e t
div_one (fin false m e) t = over_one false m e t

-- the sign of y, by its pattern
minus_zero : is_integer (of_bits binary32 0x8000_0000) ≡ false
unfolding of_bits is_integer
minus_zero = refl

zero_bits : (to_bits binary32 Special.zero ≡ 0) × (T (fits binary32 Special.zero) × T (not (is_nan Special.zero)))
unfolding to_bits fits is_nan
zero_bits = (refl, (tt, tt))

pub sign_of_pattern : (x y : Float) → T (fits binary32 y) → is_whole x y ≡ true → to_bits binary32 y / 2 ^ 31 ≡ cond (lt y Special.zero) 1 0
sign_of_pattern x y t h = go (order n (2 ^ 31))
  where
    n : ℕ
    n = to_bits binary32 y

    by_key : lt y Special.zero ≡ ltb (key binary32 n) (2 ^ 31)
    by_key = lt_by_key binary32 y Special.zero t zero_bits.1.0 (number_y x y h) zero_bits.1.1 ∙ ap (λ (k : ℕ). ltb (key binary32 n) (key binary32 k)) zero_bits.0 ∙ ap (ltb (key binary32 n)) (key_clear binary32 0 (lit< tt))

    never : n ≡ 2 ^ 31 → ⊥
    never e = subst T (sym (integer_y x y h) ∙ ap is_integer (sym (of_bits-to_bits binary32 y t)) ∙ ap (λ (k : ℕ). is_integer (of_bits binary32 k)) e ∙ minus_zero) tt

    no : (n : ℕ) → n < 2 ^ 31 → n / 2 ^ 31 ≡ 0
    no n k = omega (arith, k)

    yes : (n : ℕ) → 2 ^ 31 < n → n < 2 ^ 32 → n / 2 ^ 31 ≡ 1
    yes n k l = omega (arith, k, l)

    go : Order n (2 ^ 31) → n / 2 ^ 31 ≡ cond (lt y Special.zero) 1 0
    go (less k) = no n k ∙ second (lt y Special.zero) 1 0 (by_key ∙ ap (λ (z : ℕ). ltb z (2 ^ 31)) (key_clear binary32 n k) ∙ le-ltb (2 ^ 31 + n) (2 ^ 31) (omega arith))
    go (same k) = absurd (never k)
    go (more k) =
        yes n k (to_bits-lt binary32 y t)
        ∙ first (lt y Special.zero) 1 0 (by_key ∙ ap (λ (z : ℕ). ltb z (2 ^ 31)) (key_set binary32 n (le_of_lt k)) ∙ lt-ltb (2 ^ 32 - n) (2 ^ 31) (less_than n k (to_bits-lt binary32 y t)))
      where
        less_than : (n : ℕ) → 2 ^ 31 < n → n < 2 ^ 32 → 2 ^ 32 - n < 2 ^ 31
        less_than n k l = omega (arith, k, l)

-- what the code divides, for the sign's bit b
pub quotient : (acc : Float) (below : Bool) (b : ℕ) → T (fits binary64 acc) → b ≡ cond below 1 0 → turn_factor (1 - b) acc ⊘ turn_factor b acc ≡ cond below (one ⊘ acc) acc
quotient acc below b t e = ap (λ (k : ℕ). turn_factor (1 - k) acc ⊘ turn_factor k acc) e ∙ go below
  where
    go : (below : Bool) → turn_factor (1 - cond below 1 0) acc ⊘ turn_factor (cond below 1 0) acc ≡ cond below (one ⊘ acc) acc
    go true = refl
    go false = div_one acc t

reciprocal_number : (acc : Float) → T (not (is_nan acc)) → T (not (is_nan (one ⊘ acc)))
unfolding div is_nan
reciprocal_number nan h = h
reciprocal_number (inf s) h = tt
reciprocal_number (fin s m e) h = by_zero (eqb m 0)
  where
    by_zero : (b : Bool) → T (not (is_nan (cond b (inf (unlike false s)) (round binary64 (unlike false s) (1 * down e) (m * up e * 1)))))
    by_zero true = tt
    by_zero false = round_number binary64 (unlike false s) (1 * down e) (m * up e * 1)

pub quotient_number : (acc : Float) (below : Bool) → T (not (is_nan acc)) → T (not (is_nan (cond below (one ⊘ acc) acc)))
quotient_number acc true h = reciprocal_number acc h
quotient_number acc false h = h
