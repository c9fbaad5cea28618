-- Comparisons by patterns. A pattern has a key, a number that grows with the value: the pattern counted up from the middle where the sign is
-- clear, and down from it where it is set, so that both zeros have the middle. Of two values that are no NaN the comparisons are those of
-- their patterns' keys (`lt_by_key`, `eq_by_key`, `le_by_key`). Assumes nothing.
use Rattle.std.proofs.Common.{◌≡◌, ℕ, zero, suc, ◌+◌, ◌-◌, ◌*◌, ◌%◌, ◌<◌, ◌≤◌, Bool, true, false, cond, not, ◌&&◌, ◌||◌, T, ◌⊎◌, inl, inr, le_antisymm, eqb, ltb, leb, pos, sym, refl, ap, ◌∙◌, subst, ap₂, zero-lt-suc, add_comm, mul-pos, zero-add, zero-mul, arith, le→leb, leb→le, lt-ltb, le-leb}
use borrow.Author.Tests.{lt-leb}
use lib.Ieee.{Float, nan, inf, fin, Format, binary32, binary64, up, down, neg, lt, eq, le, fits, is_nan, hid, ones, top, to_bits, of_bits}
use lib.Ieee.Bits.{of_bits-fits, to_bits-of_bits, nan_bits_is}
use lib.Ieee.Fits.{up_pos, down_pos}
use Rattle.floats.proofs.Laws.Nan.{number_of_below}
use Rattle.floats.proofs.Laws.Place.{bits_of_inf}
use Rattle.floats.proofs.Laws.Units.{bits_of_sign, bits_under_top, fits_signed}
use Rattle.floats.proofs.Laws.Magnitude.{inf_under_top}
use Rattle.std.proofs.lemmas.Bool.{cases_lt}
use Rattle.std.proofs.lemmas.Bool.Decides.{nat_tests}
pub use Rattle.floats.proofs.Laws.Order.{at_most}
use Rattle.floats.proofs.Laws.Order.{clear, clear_both, pattern_mono, order_of_patterns}

-- a pattern's place in the order of the values
abbrev pub key : Format → ℕ → ℕ
key f n = cond (leb (top f) n) (2 * top f - n) (top f + n)

-- where the sign is clear
pub key_clear : (f : Format) (n : ℕ) → n < top f → key f n ≡ top f + n
key_clear f n h = rw (lt-leb (top f) n h) refl

-- and where it is set
pub key_set : (f : Format) (n : ℕ) → top f ≤ n → key f n ≡ 2 * top f - n
key_set f n h = rw (le-leb (top f) n h) refl

-- two tests that imply each other
pub same_truth : (a b : Bool) → (T a → T b) → (T b → T a) → a ≡ b
same_truth a b p q = grind arith

-- ---- numbers
-- a below b, equal to it, or above it
pub data Order (a b : ℕ) : Type 0 where
  less : a < b → Order a b
  same : a ≡ b → Order a b
  more : b < a → Order a b

-- one of the three
pub order : (a b : ℕ) → Order a b
order a b = go (cases_lt a b) (cases_lt b a)
  where
    go : (a < b) ⊎ (b ≤ a) → (b < a) ⊎ (a ≤ b) → Order a b
    go (inl h) k = less h
    go (inr h) (inl k) = more k
    go (inr h) (inr k) = same (le_antisymm k h)

pub not_leb : (a b : ℕ) → not (leb b a) ≡ ltb a b
not_leb a b = grind (arith, nat_tests)

-- true and false at the right of a test
pub or_true : (p : Bool) → (p || true) ≡ true
or_true p = grind arith

pub and_false : (p : Bool) → (p && false) ≡ false
and_false p = grind arith

-- ---- values whose sign is clear
lt_of_clear : (x y : Float) → T (clear x) → T (clear y) → lt x y ≡ not (le y x)
unfolding lt le eq
lt_of_clear = clear_both (λ (x y : Float). lt x y ≡ not (le y x)) refl (λ n d. refl) (λ m e. refl) (λ m e n d. go (m * up e * down d) (n * up d * down e))
  where
    go : (a b : ℕ) → ltb a b ≡ not (ltb b a || (eqb b a && true))
    go a b = grind (arith, nat_tests)

lt_clear : (f : Format) (x y : Float) → T (clear x) → T (clear y) → T (fits f x) → T (fits f y) → lt x y ≡ ltb (to_bits f x) (to_bits f y)
lt_clear f x y p q t u =
    lt_of_clear x y p q
    ∙ ap not (same_truth (le y x) (leb (to_bits f y) (to_bits f x))
    (λ h. le→leb (to_bits f y) (to_bits f x) (pattern_mono f y x q p u t h))
    (λ h. order_of_patterns f y x q p u t (leb→le (to_bits f y) (to_bits f x) h)))
    ∙ not_leb (to_bits f x) (to_bits f y)

-- ---- the other signs
lt_both : (x y : Float) → T (clear x) → T (clear y) → lt (neg x) (neg y) ≡ lt y x
unfolding lt neg
lt_both = clear_both (λ (x y : Float). lt (neg x) (neg y) ≡ lt y x) refl (λ n d. refl) (λ m e. refl) (λ m e n d. refl)

lt_down : (x y : Float) → T (clear x) → T (clear y) → lt x (neg y) ≡ false
unfolding lt neg
lt_down = clear_both (λ (x y : Float). lt x (neg y) ≡ false) refl (λ n d. refl) (λ m e. refl) (λ m e n d. refl)

-- from a value that is not above zero up to one that is not below it: they differ unless both are zero
either_pos : (m u d n v c : ℕ) → 0 < u → 0 < d → 0 < v → 0 < c → ltb 0 (m * u * c + n * v * d) ≡ (ltb (0 * 1 * d) (m * u * 1) || ltb (0 * 1 * c) (n * v * 1))
either_pos zero u d zero v c P Q R S = rw (zero-mul u, zero-mul v, zero-mul c, zero-mul d) refl
either_pos zero u d (suc n) v c P Q R S =
    let a : 0 < suc n * v = mul-pos (zero-lt-suc n) R in
    let b : 0 < suc n * v * d = mul-pos a Q in
    lt-ltb 0 (zero * u * c + suc n * v * d) (omega (arith, b)) ∙ sym (ap (λ (z : Bool). ltb (0 * 1 * d) (zero * u * 1) || z) (lt-ltb (0 * 1 * c) (suc n * v * 1) (omega (arith, a))) ∙ or_true (ltb (0 * 1 * d) (zero * u * 1)))
either_pos (suc m) u d n v c P Q R S =
    let a : 0 < suc m * u = mul-pos (zero-lt-suc m) P in
    let b : 0 < suc m * u * c = mul-pos a S in
    lt-ltb 0 (suc m * u * c + n * v * d) (omega (arith, b)) ∙ sym (ap (λ (z : Bool). z || ltb (0 * 1 * c) (n * v * 1)) (lt-ltb (0 * 1 * d) (suc m * u * 1) (omega (arith, a))))

lt_up : (x y : Float) → T (clear x) → T (clear y) → lt (neg x) y ≡ (lt (fin false 0 (pos 0)) x || lt (fin false 0 (pos 0)) y)
unfolding lt neg
lt_up =
    clear_both (λ (x y : Float). lt (neg x) y ≡ (lt (fin false 0 (pos 0)) x || lt (fin false 0 (pos 0)) y)) refl (λ n d. refl)
    (λ m e. sym (or_true (lt (fin false 0 (pos 0)) (fin false m e))))
    (λ m e n d. either_pos m (up e) (down e) n (up d) (down d) (up_pos e) (down_pos e) (up_pos d) (down_pos d))

-- ---- a value that is no NaN: its sign and its size
record Signed (f : Format) (x : Float) : Type 0 where
  sign : Bool
  size : Float
  is : x ≡ cond sign (neg size) size
  plain : T (clear size)
  held : T (fits f size)
  bits : to_bits f x ≡ cond sign (top f) 0 + to_bits f size
  small : to_bits f size < top f

signed : (f : Format) (x : Float) → T (fits f x) → T (not (is_nan x)) → Signed f x
unfolding is_nan neg fits
signed f nan t n = absurd n
signed f (inf s) t n = record {
  sign = s;
  size = inf false;
  is = of_inf s;
  plain = tt;
  held = tt;
  bits = bits_of_inf f s ∙ ap (λ (z : ℕ). cond s (top f) 0 + z) (sym (bits_of_inf f false ∙ zero-add (ones f * hid f)));
  small = subst (λ (z : ℕ). z < top f) (sym (bits_of_inf f false ∙ zero-add (ones f * hid f))) (inf_under_top f);
}
  where
    of_inf : (s : Bool) → inf s ≡ cond s (inf true) (inf false)
    of_inf true = refl
    of_inf false = refl
signed f (fin s m e) t n = record {
  sign = s;
  size = fin false m e;
  is = of_fin s;
  plain = tt;
  held = fits_signed f s false m e t;
  bits = bits_of_sign f s m e t;
  small = bits_under_top f m e (fits_signed f s false m e t);
}
  where
    of_fin : (s : Bool) → fin s m e ≡ cond s (fin true m e) (fin false m e)
    of_fin true = refl
    of_fin false = refl

-- the key of a pattern, by its sign
key_of : (f : Format) (s : Bool) (a : ℕ) → a < top f → key f (cond s (top f) 0 + a) ≡ cond s (top f - a) (top f + a)
key_of f true a h = go (top f)
  where
    go : (t : ℕ) → cond (leb t (t + a)) (2 * t - (t + a)) (t + (t + a)) ≡ t - a
    go t = grind (arith, nat_tests)
key_of f false a h = go (top f) h
  where
    go : (t : ℕ) → a < t → cond (leb t (0 + a)) (2 * t - (0 + a)) (t + (0 + a)) ≡ t + a
    go t h = grind (arith, nat_tests)

above_zero : (f : Format) (x : Float) → T (clear x) → T (fits f x) → lt (fin false 0 (pos 0)) x ≡ ltb 0 (to_bits f x)
unfolding fits to_bits
above_zero binary32 x p t = lt_clear binary32 (fin false 0 (pos 0)) x tt p tt t
above_zero binary64 x p t = lt_clear binary64 (fin false 0 (pos 0)) x tt p tt t

-- two tests of orders that imply each other
pub ltb_same : (a b c d : ℕ) → (a < b → c < d) → (c < d → a < b) → ltb a b ≡ ltb c d
ltb_same a b c d p q = grind (arith, nat_tests)

up_shift : (t a b : ℕ) → ltb a b ≡ ltb (t + a) (t + b)
up_shift t a b = grind (arith, nat_tests)

down_shift : (t a b : ℕ) → a < t → b < t → ltb b a ≡ ltb (t - a) (t - b)
down_shift t a b p q = grind (arith, nat_tests)

apart : (t a b : ℕ) → false ≡ ltb (t + a) (t - b)
apart t a b = grind (arith, nat_tests)

across : (t a b : ℕ) → a < t → b < t → (ltb 0 a || ltb 0 b) ≡ ltb (t - a) (t + b)
across t a b p q = grind (arith, nat_tests)

lt_signed : (f : Format) (s t : Bool) (x y : Float) → T (clear x) → T (clear y) → T (fits f x) → T (fits f y) → to_bits f x < top f → to_bits f y < top f
    → lt (cond s (neg x) x) (cond t (neg y) y) ≡ ltb (cond s (top f - to_bits f x) (top f + to_bits f x)) (cond t (top f - to_bits f y) (top f + to_bits f y))
lt_signed f false false x y p q u v a b = lt_clear f x y p q u v ∙ up_shift (top f) (to_bits f x) (to_bits f y)
lt_signed f true true x y p q u v a b = lt_both x y p q ∙ lt_clear f y x q p v u ∙ down_shift (top f) (to_bits f x) (to_bits f y) a b
lt_signed f false true x y p q u v a b = lt_down x y p q ∙ apart (top f) (to_bits f x) (to_bits f y)
lt_signed f true false x y p q u v a b = lt_up x y p q ∙ ap₂ ◌||◌ (above_zero f x p u) (above_zero f y q v) ∙ across (top f) (to_bits f x) (to_bits f y) a b

-- ---- the laws, for two values that are no NaN
-- x < y
pub lt_by_key : (f : Format) (x y : Float) → T (fits f x) → T (fits f y) → T (not (is_nan x)) → T (not (is_nan y)) → lt x y ≡ ltb (key f (to_bits f x)) (key f (to_bits f y))
lt_by_key f x y t u p q = go (signed f x t p) (signed f y u q)
  where
    go : Signed f x → Signed f y → lt x y ≡ ltb (key f (to_bits f x)) (key f (to_bits f y))
    go a b =
        ap₂ lt a.is b.is
        ∙ lt_signed f a.sign b.sign a.size b.size a.plain b.plain a.held b.held a.small b.small
        ∙ sym (ap₂ ltb (ap (key f) a.bits ∙ key_of f a.sign (to_bits f a.size) a.small) (ap (key f) b.bits ∙ key_of f b.sign (to_bits f b.size) b.small))

level_same : (a b : ℕ) → (eqb a b && true) ≡ (not (ltb a b) && not (ltb b a))
level_same a b = grind (arith, nat_tests)

level_turned : (a b : ℕ) → (eqb a b && true) ≡ (not (ltb b a) && not (ltb a b))
level_turned a b = grind (arith, nat_tests)

level_other : (a b : ℕ) → (eqb a b && (false || eqb a 0)) ≡ not (ltb 0 (a + b))
level_other a b = grind (arith, nat_tests)

level_across : (a b : ℕ) → (eqb a b && (false || eqb a 0)) ≡ (not (ltb 0 (a + b)) && true)
level_across a b = grind (arith, nat_tests)

pub eq_by_lt : (x y : Float) → T (not (is_nan x)) → T (not (is_nan y)) → eq x y ≡ (not (lt x y) && not (lt y x))
unfolding eq lt is_nan
eq_by_lt nan y p q = absurd p
eq_by_lt (inf s) nan p q = absurd q
eq_by_lt (inf true) (inf true) p q = refl
eq_by_lt (inf true) (inf false) p q = refl
eq_by_lt (inf false) (inf true) p q = refl
eq_by_lt (inf false) (inf false) p q = refl
eq_by_lt (inf true) (fin t n d) p q = refl
eq_by_lt (inf false) (fin t n d) p q = refl
eq_by_lt (fin s m e) nan p q = absurd q
eq_by_lt (fin s m e) (inf true) p q = refl
eq_by_lt (fin s m e) (inf false) p q = refl
eq_by_lt (fin true m e) (fin true n d) p q = level_turned (m * up e * down d) (n * up d * down e)
eq_by_lt (fin true m e) (fin false n d) p q = level_across (m * up e * down d) (n * up d * down e)
eq_by_lt (fin false m e) (fin true n d) p q = level_other (m * up e * down d) (n * up d * down e) ∙ ap (λ (z : ℕ). not (ltb 0 z)) (add_comm (m * up e * down d) (n * up d * down e))
eq_by_lt (fin false m e) (fin false n d) p q = level_same (m * up e * down d) (n * up d * down e)

-- x = y
pub eq_by_key : (f : Format) (x y : Float) → T (fits f x) → T (fits f y) → T (not (is_nan x)) → T (not (is_nan y)) → eq x y ≡ eqb (key f (to_bits f x)) (key f (to_bits f y))
eq_by_key f x y t u p q =
    eq_by_lt x y p q
    ∙ ap₂ (λ (a b : Bool). not a && not b) (lt_by_key f x y t u p q) (lt_by_key f y x u t q p)
    ∙ of_two (key f (to_bits f x)) (key f (to_bits f y))
  where
    of_two : (a b : ℕ) → (not (ltb a b) && not (ltb b a)) ≡ eqb a b
    of_two a b = grind (arith, nat_tests)

-- x <= y
pub le_by_key : (f : Format) (x y : Float) → T (fits f x) → T (fits f y) → T (not (is_nan x)) → T (not (is_nan y)) → le x y ≡ leb (key f (to_bits f x)) (key f (to_bits f y))
unfolding le
le_by_key f x y t u p q = ap₂ ◌||◌ (lt_by_key f x y t u p q) (eq_by_key f x y t u p q) ∙ of_two (key f (to_bits f x)) (key f (to_bits f y))
  where
    of_two : (a b : ℕ) → (ltb a b || eqb a b) ≡ leb a b
    of_two a b = grind (arith, nat_tests)

-- ---- the value of a pattern against another value
-- a pattern up to the infinity's, the sign apart, is a number's
pub number_of_bits : (f : Format) (n : ℕ) → n % top f ≤ ones f * hid f → T (not (is_nan (of_bits f n)))
number_of_bits f n k = subst (λ (b : Bool). T (not b)) (nan_bits_is f n) (number_of_below f n k)

module _ (f : Format) (n : ℕ) (y : Float) (h : n < 2 * top f) (k : n % top f ≤ ones f * hid f) (u : T (fits f y)) (q : T (not (is_nan y))) where
  is_number : T (not (is_nan (of_bits f n)))
  is_number = number_of_bits f n k

  back : key f (to_bits f (of_bits f n)) ≡ key f n
  back = ap (key f) (to_bits-of_bits f n h is_number)

  -- the three comparisons with y
  pub lt_of_bits : lt (of_bits f n) y ≡ ltb (key f n) (key f (to_bits f y))
  lt_of_bits = lt_by_key f (of_bits f n) y (of_bits-fits f n) u is_number q ∙ ap (λ (z : ℕ). ltb z (key f (to_bits f y))) back

  pub eq_of_bits : eq (of_bits f n) y ≡ eqb (key f n) (key f (to_bits f y))
  eq_of_bits = eq_by_key f (of_bits f n) y (of_bits-fits f n) u is_number q ∙ ap (λ (z : ℕ). eqb z (key f (to_bits f y))) back

  pub le_of_bits : le (of_bits f n) y ≡ leb (key f n) (key f (to_bits f y))
  le_of_bits = le_by_key f (of_bits f n) y (of_bits-fits f n) u is_number q ∙ ap (λ (z : ℕ). leb z (key f (to_bits f y))) back
