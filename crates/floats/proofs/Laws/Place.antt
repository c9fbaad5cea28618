-- The pattern of a magnitude. In units of its smallest value a format's magnitude is a whole number n, and `place p n`, for a format of p
-- digits, is the pattern that is written for it: how many digits are dropped, times the weight of the exponent's field, and the digits kept.
-- `place` keeps the order (`place_mono`), and the pattern of a rounded fraction is its `grid`'s place, cut at the infinity's (`round_bits`).
-- Assumes nothing.
use Rattle.std.proofs.Common.{◌≡◌, ℕ, zero, suc, ◌+◌, ◌-◌, ◌*◌, ◌/◌, ◌%◌, ◌^◌, ◌<◌, ◌≤◌, min, Bool, true, false, cond, not, T, ltb, ◌⊎◌, ℤ, sym, refl, ap, ◌∙◌, subst, inl, inr, zero-le, le_trans, le_of_eq, le_refl, lt_of_lt_of_le, le_of_suc-le-suc, lt_of_le_of_lt, add-zero, le_of_lt, add_assoc, add-le-add, mul-le-mul_right, mul_assoc, eq-zero-or-pos, le_antisymm, eq-or-lt_of_le, one-mul, lt_of_not-le, le-div_iff_mul-le, zero-add, zero-mul, mul-one, not-le_of_lt, div-one, mul-div_cancel, sub-le, arith, ltb→lt, nltb→le, pow_pos, pow_mono, pow-add, shl_lt}
use Prim.Native.Nat.{compare}
use native.Mathlib.Nat.{div-div-eq-div-mul, pow-succ'}
use lib.Pow.{pow-lt, shr_mono}
use lib.Ieee.{Float, nan, inf, fin, Format, binary32, binary64, prec, emax, low, up, down, size, odd, units, round, hid, ones, top, to_bits}
use lib.Ieee.Digits.{size-lt, size-le, size_reaches}
use lib.Ieee.Exact.{HasValue, odd_sign}
use lib.Ieee.Fits.{kept-lt, nearest-le, round_is, two, two-le_pos, down_pos}
use lib.Ieee.Nearest.{nearest-ge}
use lib.Ieee.Order.{drop, kept}
use lib.Ieee.Scale.{grid, overflow}

-- ---- the digits of a number
pub size_mono : (a b : ℕ) → a ≤ b → size a ≤ size b
size_mono a b h = size-le a (size b) (lt_of_le_of_lt h (size-lt b))

pub twice : (p : ℕ) → 0 < p → 2 ^ p ≡ 2 ^ (p - 1) + 2 ^ (p - 1)
twice p h = ap (λ (x : ℕ). 2 ^ x) (back p h) ∙ pow-succ' 2 (p - 1) ∙ double (2 ^ (p - 1))
  where
    back : (p : ℕ) → 0 < p → p ≡ suc (p - 1)
    back p h = omega arith

    double : (x : ℕ) → 2 * x ≡ x + x
    double x = omega arith

less_one : (p : ℕ) → 0 < p → p - 1 < p
less_one p h = omega arith

-- more than a digits
pub size_above : (n a : ℕ) → 2 ^ a ≤ n → a < size n
size_above n a h = lt_of_not-le (λ (g : size n ≤ a). not-le_of_lt (lt_of_lt_of_le (size-lt n) (pow_mono g)) h)

-- a + 1 digits, from both sides
pub size_exact : (a n : ℕ) → 2 ^ a ≤ n → n < 2 ^ suc a → size n ≡ suc a
size_exact a n lo hi = le_antisymm (size-le n (suc a) hi) (size_above n a lo)

-- ---- the place of a magnitude
abbrev pub place : ℕ → ℕ → ℕ
place p n = (size n - p) * 2 ^ (p - 1) + n / 2 ^ (size n - p)

fewer : (x y p : ℕ) → x ≤ y → x - p ≤ y - p
fewer x y p h = omega arith

under : (k l h x y : ℕ) → k < l → x < h + h → h ≤ y → k * h + x ≤ l * h + y
under k l h x y a b c = omega (arith, mul-le-mul_right h a)

lead_in : (z p : ℕ) → 0 < z - p → 0 < p → p - 1 + (z - p) < z
lead_in z p h k = omega arith

-- where digits are dropped, those kept begin with a one
pub kept_lead : (p n : ℕ) → 0 < p → 0 < size n - p → 2 ^ (p - 1) ≤ n / 2 ^ (size n - p)
kept_lead p n P K =
    (le-div_iff_mul-le (pow_pos (size n - p))).1
    (le_trans (le_of_eq (sym (pow-add 2 (p - 1) (size n - p)))) (size_reaches n (p - 1 + (size n - p)) (lead_in (size n) p K P)))

pub place_mono : (p a b : ℕ) → 0 < p → a ≤ b → place p a ≤ place p b
place_mono p a b P h = go (eq-or-lt_of_le (fewer (size a) (size b) p (size_mono a b h)))
  where
    go : (size a - p ≡ size b - p) ⊎ (size a - p < size b - p) → place p a ≤ place p b
    go (inl e) = subst (λ (k : ℕ). k * 2 ^ (p - 1) + a / 2 ^ k ≤ place p b) (sym e) (add-le-add (le_refl ((size b - p) * 2 ^ (p - 1))) (shr_mono (size b - p) h))
    go (inr l) =
        under (size a - p) (size b - p) (2 ^ (p - 1)) (a / 2 ^ (size a - p)) (b / 2 ^ (size b - p)) l
        (subst (λ (x : ℕ). a / 2 ^ (size a - p) < x) (twice p P) (kept-lt p a))
        (kept_lead p b P (lt_of_le_of_lt zero-le l))

-- ---- the place of q * 2 ^ k, for a q of at most p digits that has all p where k is not 0
place_at : (p q k : ℕ) → size (q * 2 ^ k) - p ≡ k → place p (q * 2 ^ k) ≡ k * 2 ^ (p - 1) + q
place_at p q k e = ap (λ (j : ℕ). j * 2 ^ (p - 1) + q * 2 ^ k / 2 ^ j) e ∙ ap (λ (x : ℕ). k * 2 ^ (p - 1) + x) (mul-div_cancel q (pow_pos k))

none : (z p : ℕ) → z ≤ p → z - p ≡ 0
none z p h = omega arith

over : (p k z : ℕ) → 0 < p → z ≡ suc (p - 1 + k) → z - p ≡ k
over p k z P e = omega arith

full_drop : (p q k : ℕ) → 0 < p → 2 ^ (p - 1) ≤ q → q < 2 ^ p → size (q * 2 ^ k) - p ≡ k
full_drop p q k P lo hi =
    over p k (size (q * 2 ^ k)) P
    (size_exact (p - 1 + k) (q * 2 ^ k) (le_trans (le_of_eq (pow-add 2 (p - 1) k)) (mul-le-mul_right (2 ^ k) lo))
    (subst (λ (x : ℕ). q * 2 ^ k < 2 ^ x) (ahead p k P) (shl_lt p k hi)))
  where
    ahead : (p k : ℕ) → 0 < p → p + k ≡ suc (p - 1 + k)
    ahead p k P = omega arith

pub place_of_grid : (p q k : ℕ) → 0 < p → q ≤ 2 ^ p → (0 < k → 2 ^ (p - 1) ≤ q) → place p (q * 2 ^ k) ≡ k * 2 ^ (p - 1) + q
place_of_grid p q k P h lead = go (eq-or-lt_of_le h) (eq-zero-or-pos k)
  where
    -- 2 ^ p is written with one digit more dropped
    carried : (x : ℕ) → x + x + k * x ≡ suc k * x + x
    carried x = omega arith

    swap : (x y : ℕ) → x + y ≡ y + x
    swap x y = omega arith

    go : (q ≡ 2 ^ p) ⊎ (q < 2 ^ p) → (k ≡ 0) ⊎ (0 < k) → place p (q * 2 ^ k) ≡ k * 2 ^ (p - 1) + q
    go (inl e) z =
        ap (λ (x : ℕ). place p (x * 2 ^ k)) (e ∙ twice p P ∙ sym (mul_two (2 ^ (p - 1))))
        ∙ ap (place p) (mul_assoc (2 ^ (p - 1)) 2 (2 ^ k) ∙ ap (λ (x : ℕ). 2 ^ (p - 1) * x) (sym (pow-succ' 2 k)))
        ∙ place_at p (2 ^ (p - 1)) (suc k) (full_drop p (2 ^ (p - 1)) (suc k) P (le_refl (2 ^ (p - 1))) (pow-lt (less_one p P)))
        ∙ sym (carried (2 ^ (p - 1)))
        ∙ ap (λ (x : ℕ). x + k * 2 ^ (p - 1)) (sym (twice p P))
        ∙ swap (2 ^ p) (k * 2 ^ (p - 1))
        ∙ ap (λ (x : ℕ). k * 2 ^ (p - 1) + x) (sym e)
      where
        mul_two : (x : ℕ) → x * 2 ≡ x + x
        mul_two x = omega arith
    go (inr l) (inl z) =
        place_at p q k
        (subst (λ (j : ℕ). size (q * 2 ^ j) - p ≡ j) (sym z) (none (size (q * 1)) p (size-le (q * 1) p (subst (λ (x : ℕ). x < 2 ^ p) (sym (mul-one q)) l))))
    go (inr l) (inr g) = place_at p q k (full_drop p q k P (lead g) l)

-- ---- places tell of powers of two: the first place with the exponent's field i + 1 is that of 2 ^ (p - 1 + i)
before_next : (k i h x : ℕ) → x < h + h → k < i → k * h + x < suc i * h
before_next k i h x a b = omega (arith, mul-le-mul_right h b)

fewer_dropped : (z p i : ℕ) → 0 < p → z ≤ p - 1 + suc i → z - p < suc i
fewer_dropped z p i P h = omega arith

pub place_below : (p i X : ℕ) → 0 < p → X < 2 ^ (p - 1 + i) → place p X < suc i * 2 ^ (p - 1)
place_below p zero X P h =
    let l : X < 2 ^ (p - 1) = subst (λ (k : ℕ). X < 2 ^ k) (add-zero (p - 1)) h in
    let z : size X - p ≡ 0 = none (size X) p (le_trans (size-le X (p - 1) l) (sub-le p 1)) in
    subst (λ (k : ℕ). k * 2 ^ (p - 1) + X / 2 ^ k < 1 * 2 ^ (p - 1)) (sym z)
    (subst (λ (x : ℕ). x < 1 * 2 ^ (p - 1)) (sym (ap (λ (x : ℕ). x + X / 1) (zero-mul (2 ^ (p - 1))) ∙ zero-add (X / 1) ∙ div-one X)) (subst (λ (x : ℕ). X < x) (sym (one-mul (2 ^ (p - 1)))) l))
place_below p (suc i) X P h =
    before_next (size X - p) (suc i) (2 ^ (p - 1)) (X / 2 ^ (size X - p)) (subst (λ (x : ℕ). X / 2 ^ (size X - p) < x) (twice p P) (kept-lt p X))
    (fewer_dropped (size X) p i P (size-le X (p - 1 + suc i) h))

pub place_above : (p i X : ℕ) → 0 < p → 2 ^ (p - 1 + i) ≤ X → suc i * 2 ^ (p - 1) ≤ place p X
place_above p i X P h =
    le_trans (le_of_eq (last i (2 ^ (p - 1)) ∙ sym (place_at p (2 ^ (p - 1)) i (full_drop p (2 ^ (p - 1)) i P (le_refl (2 ^ (p - 1))) (pow-lt (less_one p P))))))
    (place_mono p (2 ^ (p - 1) * 2 ^ i) X P (le_trans (le_of_eq (sym (pow-add 2 (p - 1) i))) h))
  where
    last : (i h : ℕ) → suc i * h ≡ i * h + h
    last i h = omega arith

pub units_below : (p i X : ℕ) → 0 < p → place p X < suc i * 2 ^ (p - 1) → X < 2 ^ (p - 1 + i)
units_below p i X P h = lt_of_not-le (λ (g : 2 ^ (p - 1 + i) ≤ X). not-le_of_lt h (place_above p i X P g))

pub units_above : (p i X : ℕ) → 0 < p → suc i * 2 ^ (p - 1) ≤ place p X → 2 ^ (p - 1 + i) ≤ X
units_above p i X P h = le_of_suc-le-suc (lt_of_not-le (λ (g : X < 2 ^ (p - 1 + i)). not-le_of_lt (place_below p i X P g) h))

-- ---- what is written for a finite value of n units
pub bits_of_units : (f : Format) (s : Bool) (m : ℕ) (e : ℤ) (n : ℕ) → m * up e * 2 ^ low f ≡ n * down e
    → to_bits f (fin s m e) ≡ cond s (top f) 0 + place (prec f) n
unfolding to_bits
bits_of_units f s m e n h =
    ap (λ (x : ℕ). cond s (top f) 0 + (size x - prec f) * hid f + x / 2 ^ (size x - prec f)) (ap (λ (x : ℕ). x / down e) h ∙ mul-div_cancel n (down_pos e))
    ∙ add_assoc (cond s (top f) 0) ((size n - prec f) * hid f) (n / 2 ^ (size n - prec f))

bits_of_odd : (f : Format) (d : ℕ) (s : Bool) (q k : ℕ) → to_bits f (odd d s q k (low f)) ≡ cond s (top f) 0 + place (prec f) (q * 2 ^ k)
bits_of_odd f d s q k = go (odd d s q k (low f)) (odd_sign d s q k (low f))
  where
    go : (x : Float) → HasValue x s (q * 2 ^ k) (2 ^ low f) → to_bits f x ≡ cond s (top f) 0 + place (prec f) (q * 2 ^ k)
    go nan v = absurd v
    go (inf t) v = absurd v
    go (fin t m e) v = subst (λ (u : Bool). to_bits f (fin u m e) ≡ cond s (top f) 0 + place (prec f) (q * 2 ^ k)) (sym v.0) (bits_of_units f s m e (q * 2 ^ k) v.1)

pub bits_of_inf : (f : Format) (s : Bool) → to_bits f (inf s) ≡ cond s (top f) 0 + ones f * hid f
unfolding to_bits
bits_of_inf f s = refl

-- ---- the place from which on a rounded value is an infinity is the infinity's pattern
pub place_of_overflow : (f : Format) → place (prec f) (overflow f) ≡ ones f * hid f
place_of_overflow f = ap (place (prec f)) (as_grid f) ∙ place_of_grid (prec f) (hid f) (2 * emax f) (two-le_pos (prec f) (two f)) (pow_mono (sub-le (prec f) 1)) (λ _. le_refl (hid f)) ∙ last (emax f) (hid f)
  where
    as_grid : (f : Format) → overflow f ≡ hid f * 2 ^ (2 * emax f)
    as_grid binary32 = refl
    as_grid binary64 = refl

    last : (e h : ℕ) → 2 * e * h + h ≡ (2 * e + 1) * h
    last e h = omega arith

-- ---- rounding: the digits kept and dropped give the pattern
pub kept_le : (p n c : ℕ) → kept p n c ≤ 2 ^ p
kept_le p n c =
    let k = drop p n c in
    let u = c * 2 ^ k in
    le_trans (nearest-le (n / u) (compare (n % u * 2) u)) (subst (λ (x : ℕ). x < 2 ^ p) (div-div-eq-div-mul n c (2 ^ k)) (kept-lt p (n / c)))

pub kept_ge : (p n c : ℕ) → 0 < p → 0 < drop p n c → 2 ^ (p - 1) ≤ kept p n c
kept_ge p n c P K =
    let k = drop p n c in
    let u = c * 2 ^ k in
    le_trans (subst (λ (x : ℕ). 2 ^ (p - 1) ≤ x) (div-div-eq-div-mul n c (2 ^ k)) (kept_lead p (n / c) P K)) (nearest-ge (n / u) (compare (n % u * 2) u))

-- the pattern of a / c rounded, if patterns did not stop at the infinity's
abbrev pub pattern : Format → ℕ → ℕ → ℕ
pattern f a c = drop (prec f) (a * 2 ^ low f) c * hid f + kept (prec f) (a * 2 ^ low f) c

pub place_of_rounded : (f : Format) (a c : ℕ) → place (prec f) (grid f a c) ≡ pattern f a c
place_of_rounded f a c =
    let n = a * 2 ^ low f in
    let p = prec f in
    place_of_grid p (kept p n c) (drop p n c) (two-le_pos p (two f)) (kept_le p n c) (kept_ge p n c (two-le_pos p (two f)))

pub min_left : (a b : ℕ) → a ≤ b → a ≡ min a b
min_left a b h = omega arith

pub min_right : (a b : ℕ) → b ≤ a → b ≡ min a b
min_right a b h = omega arith

bits_of_units_cut : (f : Format) (s : Bool) (q k : ℕ) → to_bits f (units f s q k) ≡ cond s (top f) 0 + min (place (prec f) (q * 2 ^ k)) (ones f * hid f)
unfolding units
bits_of_units_cut f s q k = go (ltb (q * 2 ^ k) (overflow f)) (ltb→lt (q * 2 ^ k) (overflow f)) (nltb→le (q * 2 ^ k) (overflow f))
  where
    P : 0 < prec f
    P = two-le_pos (prec f) (two f)

    go : (b : Bool) → (T b → q * 2 ^ k < overflow f) → (T (not b) → overflow f ≤ q * 2 ^ k)
        → to_bits f (cond b (odd (suc (prec f)) s q k (low f)) (inf s)) ≡ cond s (top f) 0 + min (place (prec f) (q * 2 ^ k)) (ones f * hid f)
    go true h g =
        bits_of_odd f (suc (prec f)) s q k
        ∙ ap (λ (x : ℕ). cond s (top f) 0 + x)
        (min_left (place (prec f) (q * 2 ^ k)) (ones f * hid f) (le_trans (place_mono (prec f) (q * 2 ^ k) (overflow f) P (le_of_lt (h tt))) (le_of_eq (place_of_overflow f))))
    go false h g =
        bits_of_inf f s
        ∙ ap (λ (x : ℕ). cond s (top f) 0 + x)
        (min_right (place (prec f) (q * 2 ^ k)) (ones f * hid f) (le_trans (le_of_eq (sym (place_of_overflow f))) (place_mono (prec f) (overflow f) (q * 2 ^ k) P (g tt))))

pub round_bits : (f : Format) (s : Bool) (a c : ℕ) → to_bits f (round f s a c) ≡ cond s (top f) 0 + min (pattern f a c) (ones f * hid f)
round_bits f s a c =
    ap (to_bits f) (round_is f s a c)
    ∙ bits_of_units_cut f s (kept (prec f) (a * 2 ^ low f) c) (drop (prec f) (a * 2 ^ low f) c)
    ∙ ap (λ (x : ℕ). cond s (top f) 0 + min x (ones f * hid f)) (place_of_rounded f a c)
