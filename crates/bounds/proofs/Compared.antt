-- The order of two finite f64s in units of 2^-1074 (`le_units`, `le_of_units`); values between two positive numbers on the scale of 1 (`Positive`), through a product
-- and a sum; the patterns of such values (`positive_bits`, `bits_from_two`, `bits_around_one`), which from 1/2 to 2 are no further from each other than the values (`bits_apart`). Assumes nothing.
use Rattle.std.proofs.Common.{rules}
use mathlib.Core.Path.{◌≡◌, refl, sym, ap, ap₂, ◌∙◌, subst}
use mathlib.Core.Logic.{◌⊎◌, inl, inr}
use mathlib.Core.Bool.{Bool, true, false, not, ◌&&◌, ◌||◌}
use Prim.Native.Nat.{ℕ, suc, ◌+◌, ◌-◌, ◌*◌, ◌/◌, ◌^◌, ◌≤◌, ◌<◌}
use native.Mathlib.Nat.{le_trans, le_of_eq, le_antisymm, lt_of_le_of_lt, lt_of_lt_of_le, le_of_mul-le-mul_right, mul_comm, mul_right_comm, mul-le-mul, mul-le-mul_right, mul-pos, add-mul, add-zero, zero-add, le-add_right, mul-mul-mul_comm, mul-lt-mul_of_pos_right, not-le_of_lt, add_comm, add-mul-div_right, div-div-eq-div-mul, div-mul-le_self, div-lt_iff_lt-mul, le-div_iff_mul-le}
use native.Mathlib.Omega.{arith}
use lib.Dec.{T, leb, ltb, eqb, leb→le, nleb→lt, ltb→lt, nltb→le, eqb→eq, lit≤, lit<}
use lib.Pow.{pow_pos, shr_mono}
use lib.IntN.{ℤ}
use lib.Ieee.{Float, nan, inf, fin, binary64, up, down, le, lt, below, level, fits, to_bits, is_nan}
use lib.Ieee.Scale.{finite}
use lib.Ieee.Fits.{and_i, eq→eqb, down_pos}
use Rattle.floats.specs.Operations.{◌⊕◌, ◌⊗◌}
use Rattle.floats.proofs.Laws.Place.{size_exact, place_below, place_above}
use Rattle.floats.proofs.Laws.Compare.{key, not_leb, lt_by_key, le_by_key}
use Rattle.floats.proofs.Laws.Order.{le_below, bits_of_clear, under_zero}
use Rattle.floats.proofs.Laws.Sums.{above, under, above_times, under_times, le_says, SizeAtMost}
use Rattle.floats.proofs.Laws.Units.{exponent, in_units}
use Rattle.bounds.proofs.Values.{per_one, plus, less, mag, mag_of, one_side, Number, of_numbers, cross, cross_under, joined}
use Rattle.bounds.proofs.Operation.{mul_near}
use Rattle.bounds.proofs.Scales.{S, S_pos, unit, one_is, Bound, within, tested, unit_left, ok, product_k, mul_limit, mul_bound, add_bound}
use Rattle.bounds.proofs.Distances.{sum_off, Apart, apart_k, add_apart, not_below}

-- ---- the order
-- a side of it, in units
side : (s : Bool) (m : ℕ) (e : ℤ) (t : Bool) (n : ℕ) (d : ℤ) → T (fits binary64 (fin s m e)) → T (fits binary64 (fin t n d))
    → (above s (m * up e) * down d + under t (n * up d) * down e) * 2 ^ 1074 ≡ (plus (fin s m e) + less (fin t n d)) * (down e * down d)
side s m e t n d f g =
    joined (above s (m * up e)) (under t (n * up d)) (down e) (down d) (plus (fin s m e)) (less (fin t n d)) (2 ^ 1074) (cross s (m * up e) _ (down e) (2 ^ 1074) (in_units binary64 s m e f))
    (cross_under t (n * up d) _ (down d) (2 ^ 1074) (in_units binary64 t n d g))

-- the other side, over the same denominator
other_side : (s : Bool) (m : ℕ) (e : ℤ) (t : Bool) (n : ℕ) (d : ℤ) → T (fits binary64 (fin s m e)) → T (fits binary64 (fin t n d))
    → (above t (n * up d) * down e + under s (m * up e) * down d) * 2 ^ 1074 ≡ (plus (fin t n d) + less (fin s m e)) * (down e * down d)
other_side s m e t n d f g = side t n d s m e g f ∙ ap (λ (z : ℕ). (plus (fin t n d) + less (fin s m e)) * z) (mul_comm (down d) (down e))

pub le_units : (x y : Float) → Number x → Number y → T (le x y) → plus x + less y ≤ plus y + less x
le_units =
    of_numbers (λ (x y : Float). T (le x y) → plus x + less y ≤ plus y + less x)
    (λ s m e t n d f g h.
    le_of_mul-le-mul_right (le_trans (le_of_eq (sym (side s m e t n d f g))) (le_trans (mul-le-mul_right (2 ^ 1074) (le_says s m e t n d h)) (le_of_eq (other_side s m e t n d f g))))
    (mul-pos (down_pos e) (down_pos d)))

-- a ≤ b, and ±a ≤ ±b below, as the test has it
pub at_most : (a b : ℕ) → a ≤ b → T (ltb a b || (eqb a b && true))
at_most a b h = go (ltb a b) (nltb→le a b)
  where
    go : (v : Bool) → (T (not v) → b ≤ a) → T (v || (eqb a b && true))
    go true g = tt
    go false g = and_i (eqb a b) true (eq→eqb (le_antisymm h (g tt))) tt

in_order : (s : Bool) (a : ℕ) (t : Bool) (b : ℕ) → above s a + under t b ≤ above t b + under s a → T (below s a t b || level s a t b)
in_order false a false b h = at_most a b (omega (arith, h))
in_order true a true b h = le_below a b (omega (arith, h))
in_order true a false b h = under_zero a b
in_order false a true b h = subst (λ (k : ℕ). T (eqb k b && (false || eqb k 0))) (sym (zeroes a b h).0) (subst (λ (k : ℕ). T (eqb 0 k && (false || eqb 0 0))) (sym (zeroes a b h).1) tt)
  where
    zeroes : (a b : ℕ) → a + b ≤ 0 + 0 → (a ≡ 0) × (b ≡ 0)
    zeroes a b h = (omega arith, omega arith)

pub le_of_units : (x y : Float) → Number x → Number y → plus x + less y ≤ plus y + less x → T (le x y)
unfolding le
le_of_units =
    of_numbers (λ (x y : Float). plus x + less y ≤ plus y + less x → T (le x y))
    (λ s m e t n d f g h.
    let a = m * up e in
    let b = n * up d in
    let k : above s a * down d + under t b * down e ≤ above t b * down e + under s a * down d =
    le_of_mul-le-mul_right (le_trans (le_of_eq (side s m e t n d f g)) (le_trans (mul-le-mul_right (down e * down d) h) (le_of_eq (sym (other_side s m e t n d f g))))) (pow_pos 1074) in
    in_order s (a * down d) t (b * down e)
    (le_trans (le_of_eq (ap₂ ◌+◌ (above_times s a (down d)) (under_times t b (down e)))) (le_trans k (le_of_eq (sym (ap₂ ◌+◌ (above_times t b (down e)) (under_times s a (down d))))))))

-- at most b in size, as a whole number
pub size_in_units : (b : ℕ) (x : Float) → T (fits binary64 x) → SizeAtMost b x → Number x × (mag x ≤ b * per_one)
unfolding per_one
size_in_units b nan t h = absurd h
size_in_units b (inf s) t h = absurd h
size_in_units b (fin s m e) t h = (
  record { held = t; plain = tt },
  le_trans (le_of_eq (mag_of s (m * 2 ^ exponent 1074 e)))
      (le_of_mul-le-mul_right (le_trans (le_of_eq (sym (in_units binary64 s m e t))) (le_trans (mul-le-mul_right (2 ^ 1074) h) (le_of_eq (mul_right_comm b (down e) (2 ^ 1074))))) (down_pos e)),
)

pub units_in_size : (b : ℕ) (x : Float) → Number x → mag x ≤ b * per_one → SizeAtMost b x
unfolding per_one
units_in_size b nan n h = absurd n.plain
units_in_size b (inf s) n h = absurd n.plain
units_in_size b (fin s m e) n h =
    le_of_mul-le-mul_right
    (le_trans (le_of_eq (in_units binary64 s m e n.held))
    (le_trans (mul-le-mul_right (down e) (le_trans (le_of_eq (sym (mag_of s (m * 2 ^ exponent 1074 e)))) h)) (le_of_eq (mul_right_comm b (2 ^ 1074) (down e)))))
    (pow_pos 1074)

-- ---- from a to b on the scale of 1
pub record Positive (a b : ℕ) (x : Float) : Type 0 where
  pub number : Number x
  pub clear : less x ≡ 0
  pub least : a * S ≤ plus x
  pub most : plus x ≤ b * S

pub positive_bound : {a b : ℕ} {x : Float} → Positive a b x → Bound S b x
positive_bound {a} {b} {x} p = record { scale = unit; number = p.number; size = subst (λ (k : ℕ). plus x + k ≤ b * S) (sym p.clear) (le_trans (le_of_eq (add-zero (plus x))) p.most) }

-- k taken from a, on a scale
taken : (a k s : ℕ) → k < a → (a - k) * s ≤ a * s - k * s
taken a k s h = omega (arith, sym (add-mul (a - k) k s) ∙ ap (λ (z : ℕ). z * s) (back a k h))
  where
    back : (a k : ℕ) → k < a → a - k + k ≡ a
    back a k h = omega arith

-- near a value that is known
pub positive_near : {a b K : ℕ} {x y : Float} → Number x → Apart S K x y → Positive a b y → T (ltb K a) → Positive (a - K) (b + K) x
positive_near {a} {b} {K} {x} {y} n d p t =
    let clear = not_below d p.clear (lt_of_lt_of_le (times K a (ltb→lt K a t)) p.least) in
    let r = go (plus x) (less x) (plus y) (less y) (a * S) (b * S) (K * S) clear p.clear p.least p.most d.over d.under in
    record { number = n; clear = clear; least = le_trans (taken a K S (ltb→lt K a t)) r.0; most = le_trans r.1 (le_of_eq (sym (add-mul b K S))) }
  where
    times : (k a : ℕ) → k < a → k * S < a * S
    times k a h = mul-lt-mul_of_pos_right h S_pos

    go : (p n q m a b d : ℕ) → n ≡ 0 → m ≡ 0 → a ≤ q → q ≤ b → p + m ≤ n + q + d → q + n ≤ m + p + d → (a - d ≤ p) × (p ≤ b + d)
    go p n q m a b d e f g h k l = (omega arith, omega arith)

-- plus a value that is small beside it
pub positive_add : {a b K : ℕ} {x y : Float} → Positive a b x → Bound S K y → T (ok (b + K)) → T (ltb (apart_k b K) a) → Positive (a - apart_k b K) (b + apart_k b K) (x ⊕ y)
positive_add p q t u = positive_near (add_bound (positive_bound p) q t).number (add_apart (positive_bound p) q t) p u

-- a product, from below: numbers a and c give e
abbrev pub product_fits : ℕ → ℕ → ℕ → Bool
product_fits a c e = leb (e * 2 ^ 106 + 2 ^ 105) (a * c * (2 ^ 53 - 1))

pub positive_mul : {a b c d : ℕ} {x y : Float} (e : ℕ) → Positive a b x → Positive c d y → T (ok b) → T (ok d) → T (product_fits a c e) → Positive e (product_k b d) (x ⊗ y)
positive_mul {a} {b} {c} {d} {x} {y} e p q k l t =
    let P = positive_bound p in
    let Q = positive_bound q in
    let z = mul_bound (unit_left unit) P Q k l in
    let n = mul_near p.number q.number (mul_limit (unit_left unit) P Q k l) in
    let clear : less (x ⊗ y) ≡ 0 = sym (zero-add (less (x ⊗ y))) ∙ n.along false false (ap (λ (i : ℕ). 0 + i) p.clear) (ap (λ (i : ℕ). 0 + i) q.clear) in
    let whole : mag (x ⊗ y) ≡ plus (x ⊗ y) = ap (λ (i : ℕ). plus (x ⊗ y) + i) clear ∙ add-zero (plus (x ⊗ y)) in
    let X : a * S ≤ mag x = le_trans p.least (le-add_right (plus x) (less x)) in
    let Y : c * S ≤ mag y = le_trans q.least (le-add_right (plus y) (less y)) in
    let low = from_below a c e (mag (x ⊗ y)) (mag x * mag y) S S_pos (leb→le (e * 2 ^ 106 + 2 ^ 105) (a * c * (2 ^ 53 - 1)) t)
    (le_trans (le_of_eq (mul-mul-mul_comm a c S S)) (mul-le-mul X Y)) (subst (λ (w : ℕ). mag x * mag y * 2 ^ 53 ≤ mag (x ⊗ y) * w * 2 ^ 53 + mag x * mag y + w * 2 ^ 52) one_is n.least) in
    record { number = z.number; clear = clear; least = le_trans low (le_of_eq whole); most = le_trans (le_of_eq (sym whole)) z.size }
  where
    from_below : (a c e m w s : ℕ) → 0 < s → e * 2 ^ 106 + 2 ^ 105 ≤ a * c * (2 ^ 53 - 1) → a * c * (s * s) ≤ w → w * 2 ^ 53 ≤ m * (s * 2 ^ 53) * 2 ^ 53 + w + s * 2 ^ 53 * 2 ^ 52 → e * s ≤ m
    from_below a c e m w s s0 f g h =
        let big : a * c * (2 ^ 53 - 1) * s * s ≤ (m * 2 ^ 106 + 2 ^ 105) * s = omega (arith, first m w s h) in
        let one : a * c * (2 ^ 53 - 1) * s ≤ m * 2 ^ 106 + 2 ^ 105 = le_of_mul-le-mul_right big s0 in
        (omega (arith, le_trans (le_of_eq (spread e s)) (le_trans (mul-le-mul_right s f) one)))
      where
        first : (m w s : ℕ) → w * 2 ^ 53 ≤ m * (s * 2 ^ 53) * 2 ^ 53 + w + s * 2 ^ 53 * 2 ^ 52 → w * (2 ^ 53 - 1) ≤ m * s * 2 ^ 106 + s * 2 ^ 105
        first m w s h = omega arith

        spread : (e s : ℕ) → e * s * 2 ^ 106 + s * 2 ^ 105 ≡ (e * 2 ^ 106 + 2 ^ 105) * s
        spread e s = omega arith

no_size : 2 ^ 33 * S ≤ 0 → ⊥
unfolding S
no_size h = not-le_of_lt (lit< tt) h

low_end : (X : ℕ) → 2 ^ 33 * S ≤ X → 2 ^ (53 - 1 + 1002) ≤ X
unfolding S
low_end X h = le_trans (lit≤ tt) h

high_end : (X : ℕ) → X ≤ 2 ^ 73 * S → X < 2 ^ (53 - 1 + 1044)
unfolding S
high_end X h = lt_of_le_of_lt h (lit< tt)

-- ---- the pattern of what is from 2^-20 to 2^20 in size: its exponent's field is from 1003 to 1044
pub positive_bits : {a b : ℕ} {x : Float} → Positive a b x → T (leb (2 ^ 33) a) → T (leb b (2 ^ 73)) → (1003 * 2 ^ 52 ≤ to_bits binary64 x) × (to_bits binary64 x < 1045 * 2 ^ 52)
positive_bits {a} {b} {x} p u v = go x p.number p.clear (le_trans (mul-le-mul_right S (leb→le (2 ^ 33) a u)) p.least) (le_trans p.most (mul-le-mul_right S (leb→le b (2 ^ 73) v)))
  where
    go : (x : Float) → Number x → less x ≡ 0 → 2 ^ 33 * S ≤ plus x → plus x ≤ 2 ^ 73 * S → (1003 * 2 ^ 52 ≤ to_bits binary64 x) × (to_bits binary64 x < 1045 * 2 ^ 52)
    go nan n c l m = absurd n.plain
    go (inf s) n c l m = absurd n.plain
    go (fin true k e) n c l m = absurd (no_size l)
    go (fin false k e) n c l m =
        let bits = bits_of_clear binary64 k e n.held in
        let X = k * 2 ^ exponent 1074 e in
        (le_trans (place_above 53 1002 X (lit< tt) (low_end X l)) (le_of_eq (sym bits)), lt_of_le_of_lt (le_of_eq bits) (place_below 53 1044 X (lit< tt) (high_end X m)))

-- ---- a positive value that is known, by computing
abbrev pub between : ℕ → ℕ → Float → Bool
between a b x = within b x && eqb (less x) 0 && leb (a * 2 ^ 1021) (plus x)

pub tested_positive : (a b : ℕ) (x : Float) → T (between a b x) → Positive a b x
unfolding S
tested_positive a b x t =
    let bound = tested b x (search rules) in
    record {
      number = bound.number;
      clear = eqb→eq (less x) 0 (search rules);
      least = leb→le (a * 2 ^ 1021) (plus x) (search rules);
      most = le_trans (le-add_right (plus x) (less x)) bound.size;
    }

-- a wider range
pub positive_at : {a b : ℕ} {x : Float} (c d : ℕ) → Positive a b x → T (leb c a) → T (leb b d) → Positive c d x
positive_at {a} {b} c d p t u = record {
  number = p.number;
  clear = p.clear;
  least = le_trans (mul-le-mul_right S (leb→le c a t)) p.least;
  most = le_trans p.most (mul-le-mul_right S (leb→le b d u));
}

-- ---- the pattern by the exponent's field: for what is from 2^(52 + i) to 2^(53 + i) units, its digits are the number of 2^i units in it
pub bits_by_field : (i : ℕ) (x : Float) → Number x → less x ≡ 0 → 2 ^ (52 + i) ≤ plus x → plus x < 2 ^ suc (52 + i) → to_bits binary64 x ≡ i * 2 ^ 52 + plus x / 2 ^ i
bits_by_field i nan n c l m = absurd n.plain
bits_by_field i (inf s) n c l m = absurd n.plain
bits_by_field i (fin true k e) n c l m = absurd (not-le_of_lt (pow_pos (52 + i)) l)
bits_by_field i (fin false k e) n c l m =
    let X = k * 2 ^ exponent 1074 e in
    bits_of_clear binary64 k e n.held ∙ ap (λ (z : ℕ). z * 2 ^ 52 + X / 2 ^ z) (ap (λ (z : ℕ). z - 53) (size_exact (52 + i) X l m) ∙ (omega arith))

-- from 2 to 4
pub bits_from_two : {x : Float} → Positive (2 ^ 54) (2 ^ 55 - 1) x → to_bits binary64 x ≡ 1023 * 2 ^ 52 + plus x / 2 ^ 1023
unfolding S
bits_from_two {x} p = bits_by_field 1023 x p.number p.clear (le_trans (lit≤ tt) p.least) (lt_of_le_of_lt p.most (lit< tt))

-- from 1/2 to 2, with h for the number of 2^-53 in it
record AroundOne (b h : ℕ) : Type 0 where
  least : 2 ^ 52 ≤ h
  most : h < 2 ^ 54
  bits : ((h < 2 ^ 53) × (b ≡ 1021 * 2 ^ 52 + h)) ⊎ ((2 ^ 53 ≤ h) × (b ≡ 1022 * 2 ^ 52 + h / 2))

around_one : {x : Float} → Positive (2 ^ 52) (2 ^ 54 - 1) x → AroundOne (to_bits binary64 x) (plus x / S)
unfolding S
around_one {x} p = record {
  least = (le-div_iff_mul-le (pow_pos 1021)).1 p.least;
  most = (div-lt_iff_lt-mul (pow_pos 1021)).1 (lt_of_le_of_lt p.most (lit< tt));
  bits = go (ltb (plus x) (2 ^ 1074)) (ltb→lt (plus x) (2 ^ 1074)) (nltb→le (plus x) (2 ^ 1074));
}
  where
    go : (u : Bool) → (T u → plus x < 2 ^ 1074) → (T (not u) → 2 ^ 1074 ≤ plus x)
        → ((plus x / 2 ^ 1021 < 2 ^ 53) × (to_bits binary64 x ≡ 1021 * 2 ^ 52 + plus x / 2 ^ 1021)) ⊎ ((2 ^ 53 ≤ plus x / 2 ^ 1021) × (to_bits binary64 x ≡ 1022 * 2 ^ 52 + plus x / 2 ^ 1021 / 2))
    go true l g = inl ((div-lt_iff_lt-mul (pow_pos 1021)).1 (lt_of_lt_of_le (l tt) (lit≤ tt)), bits_by_field 1021 x p.number p.clear (le_trans (lit≤ tt) p.least) (l tt))
    go false l g = inr (
      (le-div_iff_mul-le (pow_pos 1021)).1 (le_trans (lit≤ tt) (g tt)),
      bits_by_field 1022 x p.number p.clear (g tt) (lt_of_le_of_lt p.most (lit< tt)) ∙ ap (λ (n : ℕ). 1022 * 2 ^ 52 + n) (sym (div-div-eq-div-mul (plus x) (2 ^ 1021) 2)),
    )

pub bits_around_one : {x : Float} → Positive (2 ^ 52) (2 ^ 54 - 1) x → (1022 * 2 ^ 52 ≤ to_bits binary64 x) × (to_bits binary64 x < 1024 * 2 ^ 52)
bits_around_one {x} p = go (to_bits binary64 x) (plus x / S) (around_one p).least (around_one p).most (around_one p).bits
  where
    go : (b h : ℕ) → 2 ^ 52 ≤ h → h < 2 ^ 54 → ((h < 2 ^ 53) × (b ≡ 1021 * 2 ^ 52 + h)) ⊎ ((2 ^ 53 ≤ h) × (b ≡ 1022 * 2 ^ 52 + h / 2)) → (1022 * 2 ^ 52 ≤ b) × (b < 1024 * 2 ^ 52)
    go b h l m (inl (g, e)) = (omega arith, omega arith)
    go b h l m (inr (g, e)) = (omega arith, omega arith)

-- the patterns of two such values are no further from each other than the values are, in 2^-53
pub bits_apart : {K : ℕ} {x y : Float} → Positive (2 ^ 52) (2 ^ 54 - 1) x → Positive (2 ^ 52) (2 ^ 54 - 1) y → Apart S K x y → to_bits binary64 x ≤ to_bits binary64 y + K
unfolding S
bits_apart {K} {x} {y} p q a =
    go (to_bits binary64 x) (plus x / S) (to_bits binary64 y) (plus y / S) K
    (le_trans (shr_mono 1021 (omega arith)) (le_of_eq (add-mul-div_right (plus y) K S_pos))) (around_one p).bits (around_one q).bits
  where
    go : (b h c i k : ℕ) → h ≤ i + k → ((h < 2 ^ 53) × (b ≡ 1021 * 2 ^ 52 + h)) ⊎ ((2 ^ 53 ≤ h) × (b ≡ 1022 * 2 ^ 52 + h / 2)) → ((i < 2 ^ 53) × (c ≡ 1021 * 2 ^ 52 + i)) ⊎ ((2 ^ 53 ≤ i) × (c ≡ 1022 * 2 ^ 52 + i / 2)) → b ≤ c + k
    go b h c i k d (inl (g, e)) (inl (l, f)) = omega arith
    go b h c i k d (inl (g, e)) (inr (l, f)) = omega arith
    go b h c i k d (inr (g, e)) (inl (l, f)) = omega arith
    go b h c i k d (inr (g, e)) (inr (l, f)) = omega arith

-- the pattern without its last digits, 2^52 being v × u: the place among the 64ths, and among the 32nds
place_among : {x : Float} (u v : ℕ) → 0 < u → v * u ≡ 2 ^ 52 → Positive (2 ^ 54) (2 ^ 55 - 1) x → to_bits binary64 x / u ≡ 1023 * v + plus x / (2 ^ 1023 * u)
place_among {x} u v h e p =
    ap (λ (n : ℕ). n / u) (bits_from_two p ∙ ap (λ (n : ℕ). 1023 * n + plus x / 2 ^ 1023) (sym e) ∙ (omega arith))
    ∙ add-mul-div_right (plus x / 2 ^ 1023) (1023 * v) h
    ∙ ap (λ (n : ℕ). n + 1023 * v) (div-div-eq-div-mul (plus x) (2 ^ 1023) u)
    ∙ add_comm (plus x / (2 ^ 1023 * u)) (1023 * v)

pub place_in_64ths : {x : Float} → Positive (2 ^ 54) (2 ^ 55 - 1) x → to_bits binary64 x / 2 ^ 45 ≡ 1023 * 2 ^ 7 + plus x / (2 ^ 47 * S)
unfolding S
place_in_64ths p = place_among (2 ^ 45) (2 ^ 7) (lit< tt) refl p

pub place_in_32nds : {x : Float} → Positive (2 ^ 54) (2 ^ 55 - 1) x → to_bits binary64 x / 2 ^ 46 ≡ 1023 * 2 ^ 6 + plus x / (2 ^ 48 * S)
unfolding S
place_in_32nds p = place_among (2 ^ 46) (2 ^ 6) (lit< tt) refl p

-- a quotient by u, from both sides
pub quotient : (X u : ℕ) → 0 < u → (X / u * u ≤ X) × (X < (X / u + 1) * u)
quotient X u h = (div-mul-le_self X u, (div-lt_iff_lt-mul h).0 (omega arith))

-- a sum of two positive values
pub positive_sum : {a b c d : ℕ} {x y : Float} → Positive a b x → Positive c d y → T (ok (b + d)) → T (ltb ((b + d) / 2 ^ 53 + 1) (a + c)) → Positive (a + c - ((b + d) / 2 ^ 53 + 1)) (b + d + ((b + d) / 2 ^ 53 + 1)) (x ⊕ y)
positive_sum {a} {b} {c} {d} {x} {y} p q t u =
    let e = (b + d) / 2 ^ 53 + 1 in
    let z = x ⊕ y in
    let o = sum_off (positive_bound p) (positive_bound q) t in
    let r = go (plus x) (less x) (plus y) (less y) (plus z) (less z) (a * S) (b * S) (c * S) (d * S) (e * S) (one_side z) p.clear q.clear p.least p.most q.least q.most
    (lt_of_lt_of_le (mul-lt-mul_of_pos_right (ltb→lt e (a + c) u) S_pos) (le_of_eq (add-mul a c S))) o.upper o.lower in
    record {
      number = (add_bound (positive_bound p) (positive_bound q) t).number;
      clear = r.0;
      least = le_trans (taken (a + c) e S (ltb→lt e (a + c) u)) (le_trans (le_of_eq (ap (λ (k : ℕ). k - e * S) (add-mul a c S))) r.1);
      most = le_trans r.2 (le_of_eq (sym (add-mul (b + d) e S ∙ ap (λ (k : ℕ). k + e * S) (add-mul b d S))));
    }
  where
    go : (p n q m r l a b c d E : ℕ) → (r ≡ 0) ⊎ (l ≡ 0) → n ≡ 0 → m ≡ 0 → a ≤ p → p ≤ b → c ≤ q → q ≤ d → E < a + c → r + (n + m) ≤ l + (p + q) + E → l + (p + q) ≤ r + (n + m) + E
        → (l ≡ 0) × (a + c - E ≤ r) × (r ≤ b + d + E)
    go p n q m r l a b c d E (inl z) N M ap pb cq qd u g h = (omega arith, omega arith, omega arith)
    go p n q m r l a b c d E (inr z) N M ap pb cq qd u g h = (omega arith, omega arith, omega arith)

-- of two values one is at most the other; where x is not, it is the larger, strictly
pub gt_of_not_le : (x y : Float) → Number x → Number y → le x y ≡ false → plus y + less x < plus x + less y
gt_of_not_le x y p q e = go (leb (plus x + less y) (plus y + less x)) (leb→le (plus x + less y) (plus y + less x)) (nleb→lt (plus x + less y) (plus y + less x))
  where
    go : (b : Bool) → (T b → plus x + less y ≤ plus y + less x) → (T (not b) → plus y + less x < plus x + less y) → plus y + less x < plus x + less y
    go true h g = absurd (subst T e (le_of_units x y p q (h tt)))
    go false h g = g tt

-- ---- the outcomes of comparisons, in units
number_plain : (x : Float) → T (finite x) → T (not (is_nan x))
unfolding is_nan
number_plain nan h = absurd h
number_plain (inf s) h = absurd h
number_plain (fin s m e) h = tt

lt_is : {x y : Float} → Number x → Number y → lt x y ≡ not (le y x)
lt_is {x} {y} p q =
    lt_by_key binary64 x y p.held q.held (number_plain x p.plain) (number_plain y q.plain) ∙ sym (not_leb (key binary64 (to_bits binary64 x)) (key binary64 (to_bits binary64 y)))
    ∙ ap not (sym (le_by_key binary64 y x q.held p.held (number_plain y q.plain) (number_plain x p.plain)))

-- x is at most y, or not
pub le_true : {x y : Float} → Number x → Number y → plus x + less y ≤ plus y + less x → le x y ≡ true
le_true {x} {y} p q h = true_of (le x y) (le_of_units x y p q h)
  where
    true_of : (b : Bool) → T b → b ≡ true
    true_of true t = refl
    true_of false t = elim t [ ]

pub le_false : {x y : Float} → Number x → Number y → plus y + less x < plus x + less y → le x y ≡ false
le_false {x} {y} p q h = go (le x y) (le_units x y p q)
  where
    go : (v : Bool) → (T v → plus x + less y ≤ plus y + less x) → v ≡ false
    go true g = absurd (not-le_of_lt h (g tt))
    go false g = refl

-- x is below y, or not
pub lt_true : {x y : Float} → Number x → Number y → plus x + less y < plus y + less x → lt x y ≡ true
lt_true p q h = lt_is p q ∙ ap not (le_false q p h)

pub lt_false : {x y : Float} → Number x → Number y → plus y + less x ≤ plus x + less y → lt x y ≡ false
lt_false p q h = lt_is p q ∙ ap not (le_true q p h)

-- and back
pub units_of_le : {x y : Float} → Number x → Number y → le x y ≡ true → plus x + less y ≤ plus y + less x
units_of_le {x} {y} p q e = le_units x y p q (subst T (sym e) tt)

pub units_of_not_lt : {x y : Float} → Number x → Number y → lt x y ≡ false → plus y + less x ≤ plus x + less y
units_of_not_lt {x} {y} p q e = units_of_le q p (not_back (le y x) (sym (lt_is p q) ∙ e))
  where
    not_back : (b : Bool) → not b ≡ false → b ≡ true
    not_back true h = refl
    not_back false h = sym h
