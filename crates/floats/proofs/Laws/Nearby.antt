-- A normal value plus one that is small beside it. Where the second is at most n last places of the first in size, the sum's pattern is at most n
-- above the first one's and at most 2 * n below it, where the last places may be half as large (`add_nearby`). Assumes nothing.
use Rattle.std.proofs.Common.{◌≡◌, ℕ, suc, ◌+◌, ◌-◌, ◌*◌, ◌^◌, ◌<◌, ◌≤◌, Bool, true, false, cond, not, T, leb, sym, ap, ◌∙◌, subst, ap₂, le_trans, le_of_eq, lt_of_le_of_lt, le_of_lt, mul-le-mul_right, mod-eq_of_lt, mul-pos, arith, leb→le, pow_pos}
use native.Mathlib.Nat.{pow-succ'}
use lib.Dec.{nleb→lt}
use lib.Ieee.{Float, nan, inf, fin, Format, prec, low, up, down, neg, add, le, fits, is_nan, hid, ones, top, to_bits, of_bits}
use lib.Ieee.Bits.{of_bits-fits, to_bits-of_bits}
use lib.Ieee.Exact.{HasValue}
use lib.Ieee.Fits.{down_pos, add-fits, two, two-le_pos}
use Rattle.std.proofs.lemmas.Bool.Decides.{nat_tests}
use Rattle.std.proofs.lemmas.Float.{le_right}
use Rattle.floats.proofs.Laws.Units.{exponent, in_units}
use Rattle.floats.proofs.Laws.Place.{units_below}
use Rattle.floats.proofs.Laws.Magnitude.{Finite, inf_under_top}
use Rattle.floats.proofs.Laws.Rounding.{round_holds}
use Rattle.floats.proofs.Laws.Compare.{key, key_clear, le_by_key, number_of_bits}
use Rattle.floats.proofs.Laws.Sums.{above, under, Rounded, rounded_mono, add_rounded}
use Rattle.floats.proofs.Laws.Powers.{normal_value}

-- finite, and in size at most b of the format's smallest values
abbrev pub UnitsAtMost : Format → ℕ → Float → Type 0
UnitsAtMost f b nan = ⊥
UnitsAtMost f b (inf s) = ⊥
UnitsAtMost f b (fin s m e) = m * up e * 2 ^ low f ≤ b * down e

-- the sign does not count
pub units_of_neg : (f : Format) (b : ℕ) (d : Float) → UnitsAtMost f b d → UnitsAtMost f b (neg d)
unfolding neg
units_of_neg f b nan h = h
units_of_neg f b (inf s) h = h
units_of_neg f b (fin s m e) h = h

-- ---- between the values of two patterns
-- a value, by its pattern, from a to b
pub record Between (f : Format) (a b : ℕ) (y : Float) : Type 0 where
  pub number : T (not (is_nan y))
  pub from_low : a ≤ to_bits f y
  pub to_high : to_bits f y ≤ b

-- a value of the format that is from the value of a, which is positive, to that of b
pub pattern_within : (f : Format) (a b : ℕ) (y : Float) → 0 < a → a ≤ ones f * hid f → b ≤ ones f * hid f → T (fits f y) → T (le (of_bits f a) y) → T (le y (of_bits f b)) → Between f a b y
pattern_within f a b y P A B u g h =
    let n = le_right (of_bits f a) y g in
    let l : top f + a ≤ key f (to_bits f y) =
    le_trans (le_of_eq (sym (key_of a A))) (leb→le (key f (to_bits f (of_bits f a))) (key f (to_bits f y)) (subst T (le_by_key f (of_bits f a) y (of_bits-fits f a) u (is_number a A) n) g)) in
    let r : key f (to_bits f y) ≤ top f + b =
    le_trans (leb→le (key f (to_bits f y)) (key f (to_bits f (of_bits f b))) (subst T (le_by_key f y (of_bits f b) u (of_bits-fits f b) n (is_number b B)) h)) (le_of_eq (key_of b B)) in
    record { number = n; from_low = (by_keys (top f) (to_bits f y) P l r).0; to_high = (by_keys (top f) (to_bits f y) P l r).1 }
  where
    small : (m : ℕ) → m ≤ ones f * hid f → m < top f
    small m k = lt_of_le_of_lt k (inf_under_top f)

    is_number : (m : ℕ) → m ≤ ones f * hid f → T (not (is_nan (of_bits f m)))
    is_number m k = number_of_bits f m (le_trans (le_of_eq (mod-eq_of_lt (small m k))) k)

    twice : (a c : ℕ) → a < c → a < 2 * c
    twice a c h = omega arith

    key_of : (m : ℕ) → m ≤ ones f * hid f → key f (to_bits f (of_bits f m)) ≡ top f + m
    key_of m k = ap (key f) (to_bits-of_bits f m (twice m (top f) (small m k)) (is_number m k)) ∙ key_clear f m (small m k)

    by_keys : (t n : ℕ) → 0 < a → t + a ≤ cond (leb t n) (2 * t - n) (t + n) → cond (leb t n) (2 * t - n) (t + n) ≤ t + b → (a ≤ n) × (n ≤ b)
    by_keys t n P l r = grind (arith, nat_tests)

-- ---- the size of the value of a pattern whose field is below i + 1: at most 2 ^ (prec - 1 + i) units
pub units_of_pattern : (f : Format) (i m : ℕ) → Finite f m → m < suc i * hid f → UnitsAtMost f (2 ^ (prec f - 1 + i)) (of_bits f m)
units_of_pattern f i m v h =
    subst (UnitsAtMost f (2 ^ (prec f - 1 + i))) (sym v.is)
    (le_trans (le_of_eq (in_units f false v.digits v.power v.held))
    (mul-le-mul_right (down v.power)
    (le_of_lt (units_below (prec f) i (v.digits * 2 ^ exponent (low f) v.power) (two-le_pos (prec f) (two f)) (lt_of_le_of_lt (le_of_eq (sym v.at)) h)))))

-- ---- the sum
held_rounded : (f : Format) (y : Float) (a : ℕ) → T (fits f y) → HasValue y false a (2 ^ low f) → Rounded f a 0 (2 ^ low f) y
held_rounded f y a t v = record { sign = false; digits = a; exact = omega arith; is = sym (round_holds f y false a (2 ^ low f) (pow_pos (low f)) t v) }

-- A / D is K units, and a / c at most N units
sum_at_most : (s : Bool) (A D a c K N Y L : ℕ) → A * L ≡ K * D → a * L ≤ N * c → K + N ≤ Y → (A * c + above s a * D) * L + 0 * (D * c) ≤ Y * (D * c) + (0 * c + under s a * D) * L
sum_at_most false A D a c K N Y L e h l =
    let x : A * L * c ≡ K * D * c = ap (λ (z : ℕ). z * c) e in
    let y : a * L * D ≤ N * c * D = mul-le-mul_right D h in
    let z : (K + N) * (D * c) ≤ Y * (D * c) = mul-le-mul_right (D * c) l in
    omega arith
sum_at_most true A D a c K N Y L e h l =
    let x : A * L * c ≡ K * D * c = ap (λ (z : ℕ). z * c) e in
    let z : (K + N) * (D * c) ≤ Y * (D * c) = mul-le-mul_right (D * c) l in
    omega arith

sum_at_least : (s : Bool) (A D a c K N Y L : ℕ) → A * L ≡ K * D → a * L ≤ N * c → Y + N ≤ K → Y * (D * c) + (0 * c + under s a * D) * L ≤ (A * c + above s a * D) * L + 0 * (D * c)
sum_at_least false A D a c K N Y L e h l =
    let x : A * L * c ≡ K * D * c = ap (λ (z : ℕ). z * c) e in
    let z : (Y + N) * (D * c) ≤ K * (D * c) = mul-le-mul_right (D * c) l in
    omega arith
sum_at_least true A D a c K N Y L e h l =
    let x : A * L * c ≡ K * D * c = ap (λ (z : ℕ). z * c) e in
    let y : a * L * D ≤ N * c * D = mul-le-mul_right D h in
    let z : (Y + N) * (D * c) ≤ K * (D * c) = mul-le-mul_right (D * c) l in
    omega arith

module _ (f : Format) (K N : ℕ) (v d : Float) (value : HasValue v false K (2 ^ low f)) (small : UnitsAtMost f N d) where
  -- v + d is at most y, which is K + N units or more
  sum_below : (y : Float) (Y : ℕ) → K + N ≤ Y → T (fits f y) → HasValue y false Y (2 ^ low f) → T (le (add f v d) y)
  sum_below y Y l t h = go v d value small
    where
      go : (v d : Float) → HasValue v false K (2 ^ low f) → UnitsAtMost f N d → T (le (add f v d) y)
      go nan d p q = absurd p
      go (inf s) d p q = absurd p
      go (fin s m e) nan p q = absurd q
      go (fin s m e) (inf u) p q = absurd q
      go (fin s m e) (fin u n i) p q =
          subst (λ (z : Bool). T (le (add f (fin z m e) (fin u n i)) y)) (sym p.0)
          (rounded_mono (add_rounded f false m e u n i) (held_rounded f y Y t h) (mul-pos (down_pos e) (down_pos i)) (pow_pos (low f))
          (sum_at_most u (m * up e) (down e) (n * up i) (down i) K N Y (2 ^ low f) p.1 q l))

  -- and at least y, which is K - N units or less
  sum_above : (y : Float) (Y : ℕ) → Y + N ≤ K → T (fits f y) → HasValue y false Y (2 ^ low f) → T (le y (add f v d))
  sum_above y Y l t h = go v d value small
    where
      go : (v d : Float) → HasValue v false K (2 ^ low f) → UnitsAtMost f N d → T (le y (add f v d))
      go nan d p q = absurd p
      go (inf s) d p q = absurd p
      go (fin s m i) nan p q = absurd q
      go (fin s m i) (inf u) p q = absurd q
      go (fin s m i) (fin u n j) p q =
          subst (λ (z : Bool). T (le y (add f (fin z m i) (fin u n j)))) (sym p.0)
          (rounded_mono (held_rounded f y Y t h) (add_rounded f false m i u n j) (pow_pos (low f)) (mul-pos (down_pos i) (down_pos j))
          (sum_at_least u (m * up i) (down i) (n * up j) (down j) K N Y (2 ^ low f) p.1 q l))

-- ---- the values beside a pattern with the field x + 2 and the digits t below the leading one: its last place is 2 ^ (x + 1) units
-- the units of a pattern, of which P holds
record Units (f : Format) (m : ℕ) (P : ℕ → Type 0) : Type 0 where
  units : ℕ
  value : HasValue (of_bits f m) false units (2 ^ low f)
  holds : P units

-- the units of the field x + 1 and the digits t, for a pattern that is written otherwise
units : (f : Format) (x t m : ℕ) (P : ℕ → Type 0) → suc x < ones f → t < hid f → suc x * hid f + t ≡ m → P ((hid f + t) * 2 ^ x) → Units f m P
units f x t m P X h e p =
    record { units = (hid f + t) * 2 ^ x; value = subst (λ (k : ℕ). HasValue (of_bits f k) false ((hid f + t) * 2 ^ x) (2 ^ low f)) e (normal_value f x t X h); holds = p }

-- n patterns above it the value is at least n last places more, as those of the next field are twice as large
after : (f : Format) (x t n : ℕ) → suc (suc (suc x)) < ones f → t < hid f → 2 * n ≤ hid f
    → Units f (suc (suc x) * hid f + t + n) (λ (y : ℕ). (hid f + t) * 2 ^ suc x + n * 2 ^ suc x ≤ y)
after f x t n X h N = go (leb (hid f) (t + n)) (leb→le (hid f) (t + n)) (nleb→lt (hid f) (t + n))
  where
    go : (p : Bool) → (T p → hid f ≤ t + n) → (T (not p) → t + n < hid f) → Units f (suc (suc x) * hid f + t + n) (λ (y : ℕ). (hid f + t) * 2 ^ suc x + n * 2 ^ suc x ≤ y)
    go true over _ = units f (suc (suc x)) (t + n - hid f) _ _ X (less (hid f) t n h N) (carried x (hid f) t n (over tt)) (more (hid f) t n (2 ^ suc x) (2 ^ suc (suc x)) (pow-succ' 2 (suc x)) (over tt))
      where
        less : (h t n : ℕ) → t < h → 2 * n ≤ h → t + n - h < h
        less h t n k l = omega arith

        carried : (x h t n : ℕ) → h ≤ t + n → suc (suc (suc x)) * h + (t + n - h) ≡ suc (suc x) * h + t + n
        carried x h t n k = omega arith

        more : (h t n k k' : ℕ) → k' ≡ 2 * k → h ≤ t + n → (h + t) * k + n * k ≤ (h + (t + n - h)) * k'
        more h t n k k' d l =
            let e : h + (t + n - h) ≡ t + n = omega arith in
            let a : h * k ≤ (t + n) * k = mul-le-mul_right k l in
            subst (λ (z : ℕ). (h + t) * k + n * k ≤ z) (ap₂ (λ (y z : ℕ). y * z) (sym e) (sym d)) (omega arith)
    go false _ beneath = units f (suc x) (t + n) _ _ (lower x (ones f) X) (beneath tt) (joined x (hid f) t n) (level (hid f) t n (2 ^ suc x))
      where
        lower : (x o : ℕ) → suc (suc (suc x)) < o → suc (suc x) < o
        lower x o k = omega arith

        joined : (x h t n : ℕ) → suc (suc x) * h + (t + n) ≡ suc (suc x) * h + t + n
        joined x h t n = omega arith

        level : (h t n k : ℕ) → (h + t) * k + n * k ≤ (h + (t + n)) * k
        level h t n k = omega arith

-- 2 * n patterns below it the value is at least n last places less, as those of the field before are half as large
before : (f : Format) (x t n : ℕ) → suc (suc x) < ones f → t < hid f → 2 * n ≤ hid f
    → Units f (suc (suc x) * hid f + t - 2 * n) (λ (y : ℕ). y + n * 2 ^ suc x ≤ (hid f + t) * 2 ^ suc x)
before f x t n X h N = go (leb (2 * n) t) (leb→le (2 * n) t) (nleb→lt (2 * n) t)
  where
    go : (p : Bool) → (T p → 2 * n ≤ t) → (T (not p) → t < 2 * n) → Units f (suc (suc x) * hid f + t - 2 * n) (λ (y : ℕ). y + n * 2 ^ suc x ≤ (hid f + t) * 2 ^ suc x)
    go true over _ = units f (suc x) (t - 2 * n) _ _ X (less (hid f) t n h) (joined x (hid f) t n (over tt)) (level (hid f) t n (2 ^ suc x) (over tt))
      where
        less : (h t n : ℕ) → t < h → t - 2 * n < h
        less h t n k = omega arith

        joined : (x h t n : ℕ) → 2 * n ≤ t → suc (suc x) * h + (t - 2 * n) ≡ suc (suc x) * h + t - 2 * n
        joined x h t n k = omega arith

        level : (h t n k : ℕ) → 2 * n ≤ t → (h + (t - 2 * n)) * k + n * k ≤ (h + t) * k
        level h t n k l =
            let a : (h + (t - 2 * n) + n) * k ≤ (h + t) * k = mul-le-mul_right k (omega arith) in
            omega arith
    go false _ beneath = units f x (hid f + t - 2 * n) _ _ (lower x (ones f) X) (less (hid f) t n (beneath tt) N) (borrowed x (hid f) t n N) (more (hid f) t n (2 ^ x) (2 ^ suc x) (pow-succ' 2 x) N)
      where
        lower : (x o : ℕ) → suc (suc x) < o → suc x < o
        lower x o k = omega arith

        less : (h t n : ℕ) → t < 2 * n → 2 * n ≤ h → h + t - 2 * n < h
        less h t n k l = omega arith

        borrowed : (x h t n : ℕ) → 2 * n ≤ h → suc x * h + (h + t - 2 * n) ≡ suc (suc x) * h + t - 2 * n
        borrowed x h t n k = omega arith

        more : (h t n k k' : ℕ) → k' ≡ 2 * k → 2 * n ≤ h → (h + (h + t - 2 * n)) * k + n * k' ≤ (h + t) * k'
        more h t n k k' d l =
            let a : (h + (h + t - 2 * n) + 2 * n) * k ≤ (h + t + (h + t)) * k = mul-le-mul_right k (omega arith) in
            subst (λ (z : ℕ). (h + (h + t - 2 * n)) * k + n * z ≤ (h + t) * z) (sym d) (omega arith)

-- such a value plus one that is at most n of its last places in size
pub add_nearby : (f : Format) (x t n : ℕ) (d : Float) → suc (suc (suc x)) < ones f → t < hid f → 2 * n ≤ hid f → UnitsAtMost f (n * 2 ^ suc x) d
    → Between f (suc (suc x) * hid f + t - 2 * n) (suc (suc x) * hid f + t + n) (add f (of_bits f (suc (suc x) * hid f + t)) d)
add_nearby f x t n d X h N q =
    let w = suc (suc x) * hid f + t in
    let v = of_bits f w in
    let value = normal_value f (suc x) t (lower x (ones f) X) h in
    let b = before f x t n (lower x (ones f) X) h N in
    let a = after f x t n X h N in
    pattern_within f (w - 2 * n) (w + n) (add f v d)
    (positive x (hid f) t n (pow_pos (prec f - 1)) N)
    (less x (hid f) t n (ones f) h (mul-le-mul_right (hid f) X))
    (room x (hid f) t n (ones f) h N (mul-le-mul_right (hid f) X))
    (add-fits f v d)
    (sum_above f ((hid f + t) * 2 ^ suc x) (n * 2 ^ suc x) v d value q (of_bits f (w - 2 * n)) b.units b.holds (of_bits-fits f (w - 2 * n)) b.value)
    (sum_below f ((hid f + t) * 2 ^ suc x) (n * 2 ^ suc x) v d value q (of_bits f (w + n)) a.units a.holds (of_bits-fits f (w + n)) a.value)
  where
    lower : (x o : ℕ) → suc (suc (suc x)) < o → suc (suc x) < o
    lower x o k = omega arith

    positive : (x h t n : ℕ) → 0 < h → 2 * n ≤ h → 0 < suc (suc x) * h + t - 2 * n
    positive x h t n k l = omega arith

    less : (x h t n o : ℕ) → t < h → suc (suc (suc (suc x))) * h ≤ o * h → suc (suc x) * h + t - 2 * n ≤ o * h
    less x h t n o k l = omega arith

    room : (x h t n o : ℕ) → t < h → 2 * n ≤ h → suc (suc (suc (suc x))) * h ≤ o * h → suc (suc x) * h + t + n ≤ o * h
    room x h t n o k l m = omega arith
