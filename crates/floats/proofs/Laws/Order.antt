-- The order of values. Rounding keeps it, whatever the signs, subnormal results and overflow to an infinity included (`rounding_mono`). Of two
-- values whose sign is clear the order is that of their patterns, as numbers (`pattern_mono`, `order_of_patterns`, `values_of_patterns`).
-- Assumes nothing.
use Rattle.std.proofs.Common.{◌≡◌, ℕ, ◌+◌, ◌*◌, ◌^◌, ◌<◌, ◌≤◌, Bool, true, false, not, ◌&&◌, ◌||◌, T, eqb, ltb, ◌⊎◌, ℤ, pos, sym, refl, ap, ◌∙◌, subst, inl, inr, le_trans, le_of_eq, le_of_lt, mul-le-mul_right, mul_assoc, le_antisymm, mul-pos, zero-add, zero-mul, mul_right_comm, le_of_mul-le-mul_right, arith, pow_pos}
use Rattle.std.proofs.lemmas.Bool.Decides.{nat_tests}
use lib.Ieee.{Float, nan, inf, fin, Format, binary32, binary64, prec, low, up, down, round, neg, le, fits, hid, ones, to_bits, of_bits}
use lib.Ieee.Bits.{of_bits-fits, of_bits-to_bits}
use lib.Ieee.Exact.{HasValue}
use lib.Ieee.Fits.{down_pos, two, two-le_pos}
use lib.Ieee.Order.{round_mono, le_of_values}
use lib.Ieee.Scale.{round_same, overflow}
use Rattle.floats.proofs.Laws.Place.{place, place_mono, place_of_overflow, bits_of_inf}
use Rattle.floats.proofs.Laws.Units.{HasSign, round_has_sign, exponent, in_units, bits_of_value}
use Rattle.floats.proofs.Laws.Magnitude.{Finite, read_magnitude}
use Rattle.floats.proofs.Laws.Rounding.{round_holds, neg_round, fits_under}

-- ---- tests joined
pub or_split : (a b : Bool) → T (a || b) → T a ⊎ T b
or_split a b t = grind arith

pub or_l : (a b : Bool) → T a → T (a || b)
or_l a b t = grind arith

-- what `le` says of two finite values whose sign is clear
pub at_most : (a b : ℕ) → T (ltb a b || (eqb a b && true)) → a ≤ b
at_most a b t = grind (arith, nat_tests)

-- ---- values whose sign is clear, an infinity among them, and no NaN
abbrev pub clear : Float → Bool
clear nan = false
clear (inf s) = not s
clear (fin s m e) = not s

-- what holds of any two of the infinity and the finite values whose sign is clear holds of any two values whose sign is clear
pub clear_both : (P : Float → Float → Type 0) → P (inf false) (inf false) → ((n : ℕ) (d : ℤ) → P (inf false) (fin false n d)) → ((m : ℕ) (e : ℤ) → P (fin false m e) (inf false))
    → ((m : ℕ) (e : ℤ) (n : ℕ) (d : ℤ) → P (fin false m e) (fin false n d)) → (x y : Float) → T (clear x) → T (clear y) → P x y
clear_both P both over under finite nan y p q = absurd p
clear_both P both over under finite (inf true) y p q = absurd p
clear_both P both over under finite (fin true m e) y p q = absurd p
clear_both P both over under finite (inf false) nan p q = absurd q
clear_both P both over under finite (inf false) (inf true) p q = absurd q
clear_both P both over under finite (inf false) (inf false) p q = both
clear_both P both over under finite (inf false) (fin true n d) p q = absurd q
clear_both P both over under finite (inf false) (fin false n d) p q = over n d
clear_both P both over under finite (fin false m e) nan p q = absurd q
clear_both P both over under finite (fin false m e) (inf true) p q = absurd q
clear_both P both over under finite (fin false m e) (inf false) p q = under m e
clear_both P both over under finite (fin false m e) (fin true n d) p q = absurd q
clear_both P both over under finite (fin false m e) (fin false n d) p q = finite m e n d

-- in units the order is that of the numbers of units
units_le : (f : Format) (m : ℕ) (e : ℤ) (n : ℕ) (d : ℤ) → T (fits f (fin false m e)) → T (fits f (fin false n d)) → m * up e * down d ≤ n * up d * down e
    → m * 2 ^ exponent (low f) e ≤ n * 2 ^ exponent (low f) d
units_le f m e n d p q h =
    let X = m * 2 ^ exponent (low f) e in
    let Y = n * 2 ^ exponent (low f) d in
    let l : X * (down e * down d) ≡ m * up e * down d * 2 ^ low f =
    sym (mul_assoc X (down e) (down d)) ∙ ap (λ (x : ℕ). x * down d) (sym (in_units f false m e p)) ∙ mul_right_comm (m * up e) (2 ^ low f) (down d) in
    let r : n * up d * down e * 2 ^ low f ≡ Y * (down e * down d) =
    mul_right_comm (n * up d) (down e) (2 ^ low f) ∙ ap (λ (x : ℕ). x * down e) (in_units f false n d q) ∙ mul_right_comm Y (down d) (down e) ∙ mul_assoc Y (down e) (down d) in
    le_of_mul-le-mul_right (le_trans (le_of_eq l) (le_trans (mul-le-mul_right (2 ^ low f) h) (le_of_eq r))) (mul-pos (down_pos e) (down_pos d))

pub bits_of_clear : (f : Format) (m : ℕ) (e : ℤ) → T (fits f (fin false m e)) → to_bits f (fin false m e) ≡ place (prec f) (m * 2 ^ exponent (low f) e)
bits_of_clear f m e t = bits_of_value f false m e t ∙ zero-add (place (prec f) (m * 2 ^ exponent (low f) e))

pub pattern_mono : (f : Format) (x y : Float) → T (clear x) → T (clear y) → T (fits f x) → T (fits f y) → T (le x y) → to_bits f x ≤ to_bits f y
unfolding le
pattern_mono f =
    clear_both (λ (x y : Float). T (fits f x) → T (fits f y) → T (le x y) → to_bits f x ≤ to_bits f y)
    (λ t u h. le_of_eq refl)
    (λ n d t u h. absurd h)
    (λ m e t u h.
    le_trans (le_of_eq (bits_of_clear f m e t))
    (le_trans (place_mono (prec f) (m * 2 ^ exponent (low f) e) (overflow f) (two-le_pos (prec f) (two f)) (le_of_lt (fits_under f false m e t)))
    (le_of_eq (place_of_overflow f ∙ sym (bits_of_inf f false ∙ zero-add (ones f * hid f))))))
    (λ m e n d t u h.
    le_trans (le_of_eq (bits_of_clear f m e t))
    (le_trans (place_mono (prec f) (m * 2 ^ exponent (low f) e) (n * 2 ^ exponent (low f) d) (two-le_pos (prec f) (two f)) (units_le f m e n d t u (at_most (m * up e * down d) (n * up d * down e) h)))
    (le_of_eq (sym (bits_of_clear f n d u)))))

-- one of two is at most the other
either_le : (a b : ℕ) → (a ≤ b) ⊎ (b ≤ a)
either_le a b = grind (arith, nat_tests)

pub le_either : (x y : Float) → T (clear x) → T (clear y) → T (le x y) ⊎ T (le y x)
unfolding le
le_either = clear_both (λ (x y : Float). T (le x y) ⊎ T (le y x)) (inl tt) (λ n d. inr tt) (λ m e. inl tt) (λ m e n d. go m e n d (either_le (m * up e * down d) (n * up d * down e)))
  where
    go : (m : ℕ) (e : ℤ) (n : ℕ) (d : ℤ) → (m * up e * down d ≤ n * up d * down e) ⊎ (n * up d * down e ≤ m * up e * down d) → T (le (fin false m e) (fin false n d)) ⊎ T (le (fin false n d) (fin false m e))
    go m e n d (inl h) = inl (le_of_values (fin false m e) (fin false n d) (m * up e) (down e) (n * up d) (down d) (down_pos e) (down_pos d) (refl, refl) (refl, refl) h)
    go m e n d (inr h) = inr (le_of_values (fin false n d) (fin false m e) (n * up d) (down d) (m * up e) (down e) (down_pos d) (down_pos e) (refl, refl) (refl, refl) h)

pub order_of_patterns : (f : Format) (x y : Float) → T (clear x) → T (clear y) → T (fits f x) → T (fits f y) → to_bits f x ≤ to_bits f y → T (le x y)
order_of_patterns f x y p q t u h = go (le_either x y p q)
  where
    same : T (le y x) → x ≡ y
    same k = sym (of_bits-to_bits f x t) ∙ ap (of_bits f) (le_antisymm h (pattern_mono f y x q p u t k)) ∙ of_bits-to_bits f y u

    go : T (le x y) ⊎ T (le y x) → T (le x y)
    go (inl k) = k
    go (inr k) = subst (λ (z : Float). T (le x z)) (same k) (subst (λ (z : Float). T (le z x)) (sym (same k)) k)

-- ---- the other signs
-- b ≤ a, as the test has it for two negative values
pub le_below : (a b : ℕ) → b ≤ a → T (ltb b a || (eqb a b && true))
le_below a b h = grind (arith, nat_tests)

-- turned round by the sign
le_neg : (x y : Float) → T (clear x) → T (clear y) → T (le x y) → T (le (neg y) (neg x))
unfolding le neg
le_neg = clear_both (λ (x y : Float). T (le x y) → T (le (neg y) (neg x))) (λ h. tt) (λ n d h. absurd h) (λ m e h. tt) (λ m e n d h. turned (m * up e * down d) (n * up d * down e) h)
  where
    turned : (a b : ℕ) → T (ltb a b || (eqb a b && true)) → T (ltb a b || (eqb b a && true))
    turned a b h = grind (arith, nat_tests)

-- a value that is not above zero is at most one that is not below it
pub under_zero : (a b : ℕ) → T (ltb 0 (a + b) || (eqb a b && (false || eqb a 0)))
under_zero a b = grind (arith, nat_tests)

le_across : (x y : Float) → T (clear x) → T (clear y) → T (le (neg x) y)
unfolding le neg
le_across = clear_both (λ (x y : Float). T (le (neg x) y)) tt (λ n d. tt) (λ m e. tt) (λ m e n d. under_zero (m * up e * down d) (n * up d * down e))

-- ---- rounding with its sign
clear_of_sign : (x : Float) → HasSign false x → T (clear x)
clear_of_sign nan h = absurd h
clear_of_sign (inf t) h = subst (λ (s : Bool). T (not s)) (sym h) tt
clear_of_sign (fin t m e) h = subst (λ (s : Bool). T (not s)) (sym h) tt

pub round_clear : (f : Format) (a c : ℕ) → T (clear (round f false a c))
round_clear f a c = clear_of_sign (round f false a c) (round_has_sign f false a c)

zero_is : (f : Format) (s : Bool) → round f s 0 1 ≡ fin s 0 (pos 0)
unfolding round
zero_is binary32 s = refl
zero_is binary64 s = refl

pub round_zero : (f : Format) (s : Bool) (c : ℕ) → 0 < c → round f s 0 c ≡ fin s 0 (pos 0)
round_zero f s c C = round_same f s 0 c 0 1 C (pow_pos 0) (sym (zero-mul c)) ∙ zero_is f s

-- ±a / b is at most ±c / d, as exact numbers
abbrev pub AtMost : Bool → ℕ → ℕ → Bool → ℕ → ℕ → Type 0
AtMost false a b false c d = a * d ≤ c * b
AtMost true a b true c d = c * b ≤ a * d
AtMost true a b false c d = Unit
AtMost false a b true c d = (a ≡ 0) × (c ≡ 0)

pub rounding_mono : (f : Format) (s : Bool) (a b : ℕ) (t : Bool) (c d : ℕ) → 0 < b → 0 < d → AtMost s a b t c d → T (le (round f s a b) (round f t c d))
rounding_mono f false a b false c d B D h = round_mono f a b c d B D h
rounding_mono f true a b true c d B D h =
    subst (λ (x : Float). T (le x (round f true c d))) (neg_round f false a b)
    (subst (λ (x : Float). T (le (neg (round f false a b)) x)) (neg_round f false c d)
    (le_neg (round f false c d) (round f false a b) (round_clear f c d) (round_clear f a b) (round_mono f c d a b D B h)))
rounding_mono f true a b false c d B D h =
    subst (λ (x : Float). T (le x (round f false c d))) (neg_round f false a b) (le_across (round f false a b) (round f false c d) (round_clear f a b) (round_clear f c d))
rounding_mono f false a b true c d B D h =
    subst (λ (x : Float). T (le x (round f true c d))) (sym (ap (λ (x : ℕ). round f false x b) h.0 ∙ round_zero f false b B))
    (subst (λ (x : Float). T (le (fin false 0 (pos 0)) x)) (sym (ap (λ (x : ℕ). round f true x d) h.1 ∙ round_zero f true d D)) (unfold le in tt))

-- so a value of the format that bounds a fraction bounds what it rounds to
pub round_at_most : (f : Format) (x : Float) (a c b d : ℕ) → 0 < c → 0 < d → T (fits f x) → HasValue x false b d → a * d ≤ b * c → T (le (round f false a c) x)
round_at_most f x a c b d C D t v h = subst (λ (y : Float). T (le (round f false a c) y)) (round_holds f x false b d D t v) (round_mono f a c b d C D h)

pub round_at_least : (f : Format) (x : Float) (a c b d : ℕ) → 0 < c → 0 < d → T (fits f x) → HasValue x false b d → b * c ≤ a * d → T (le x (round f false a c))
round_at_least f x a c b d C D t v h = subst (λ (y : Float). T (le y (round f false a c))) (round_holds f x false b d D t v) (round_mono f b d a c D C h)

-- ---- the order of the values of patterns, up to the infinity's
bits_back : (f : Format) (m : ℕ) → m ≤ ones f * hid f → T (clear (of_bits f m)) × (to_bits f (of_bits f m) ≡ m)
bits_back f m h = go (read_magnitude f m h)
  where
    go : ((of_bits f m ≡ inf false) × (m ≡ ones f * hid f)) ⊎ Finite f m → T (clear (of_bits f m)) × (to_bits f (of_bits f m) ≡ m)
    go (inl z) = (subst (λ (x : Float). T (clear x)) (sym z.0) tt, ap (to_bits f) z.0 ∙ bits_of_inf f false ∙ zero-add (ones f * hid f) ∙ sym z.1)
    go (inr v) = (subst (λ (x : Float). T (clear x)) (sym v.is) tt, ap (to_bits f) v.is ∙ bits_of_clear f v.digits v.power v.held ∙ sym v.at)

pub values_of_patterns : (f : Format) (m n : ℕ) → m ≤ n → n ≤ ones f * hid f → T (le (of_bits f m) (of_bits f n))
values_of_patterns f m n h k =
    let p = bits_back f m (le_trans h k) in
    let q = bits_back f n k in
    order_of_patterns f (of_bits f m) (of_bits f n) p.0 q.0 (of_bits-fits f m) (of_bits-fits f n) (le_trans (le_of_eq p.1) (le_trans h (le_of_eq (sym q.1))))
