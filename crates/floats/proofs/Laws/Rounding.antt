-- One rounding: a value that the format holds rounds to itself (`round_self`), the sign goes through it (`neg_round`), and in the
-- normal range the result is within a relative 2 ^ -prec of the exact fraction (`relative_error`): 2 ^ -24 in binary32 and 2 ^ -53 in
-- binary64. Below that range half a unit comes to it (`rounding_error`). Assumes nothing.
use Rattle.std.proofs.Common.{◌≡◌, ℕ, zero, suc, ◌+◌, ◌-◌, ◌*◌, ◌/◌, ◌^◌, ◌<◌, ◌≤◌, Bool, true, false, cond, not, T, ltb, ◌⊎◌, ℤ, sym, refl, ap, ◌∙◌, subst, inl, inr, le_trans, le_of_eq, le_refl, lt_of_lt_of_le, le-add_right, mul-le-mul_right, mul_assoc, mul_comm, eq-zero-or-pos, lt_of_mul-lt-mul_right, mul-lt-mul_of_pos_right, mul-pos, le-div_iff_mul-le, mul-one, mul_right_comm, le-add_left, arith, pow_pos, pow-add}
use native.Mathlib.Nat.{eq_of_mul-eq-mul_right, div-div-eq-div-mul}
use lib.Ieee.{Float, nan, inf, fin, Format, prec, emax, low, up, down, odd, units, round, neg, fits, top, to_bits, of_bits}
use lib.Ieee.Bits.{of_bits-to_bits}
use lib.Ieee.Exact.{HasValue, round_exact, units_val}
use lib.Ieee.Fits.{down_pos, round-fits, round_is, two, two-le_pos}
use lib.Ieee.Order.{drop, kept}
use lib.Ieee.Scale.{round_same, grid, overflow}
use Rattle.floats.proofs.Laws.Closest.{closest_above, closest_below}
use Rattle.floats.proofs.Laws.Place.{place, twice, kept_lead, bits_of_units}
use Rattle.floats.proofs.Laws.Units.{exponent, in_units, fits_digits, fits_top}

-- ---- two values of a format that are the same number with the same sign are the same
-- x is n units, with the sign s, wherever it is a / c and that is n units
pub in_these_units : (f : Format) (x : Float) (s : Bool) (a c n : ℕ) → 0 < c → a * 2 ^ low f ≡ n * c → HasValue x s a c → to_bits f x ≡ cond s (top f) 0 + place (prec f) n
in_these_units f nan s a c n C h v = absurd v
in_these_units f (inf t) s a c n C h v = absurd v
in_these_units f (fin t m e) s a c n C h v =
    subst (λ (u : Bool). to_bits f (fin u m e) ≡ cond s (top f) 0 + place (prec f) n) (sym v.0)
    (bits_of_units f s m e n
    (eq_of_mul-eq-mul_right c C (m * up e * 2 ^ low f) (n * down e)
    (mul_right_comm (m * up e) (2 ^ low f) c ∙ ap (λ (x : ℕ). x * 2 ^ low f) v.1 ∙ mul_right_comm a (down e) (2 ^ low f) ∙ ap (λ (x : ℕ). x * down e) h ∙ mul_right_comm n c (down e))))

pub same_value : (f : Format) (x y : Float) (s : Bool) (a c n : ℕ) → 0 < c → a * 2 ^ low f ≡ n * c → T (fits f x) → T (fits f y) → HasValue x s a c → HasValue y s a c → x ≡ y
same_value f x y s a c n C h p q v w =
    sym (of_bits-to_bits f x p) ∙ ap (of_bits f) (in_these_units f x s a c n C h v ∙ sym (in_these_units f y s a c n C h w)) ∙ of_bits-to_bits f y q

-- ---- a value that the format holds rounds to itself
pub fits_under : (f : Format) (s : Bool) (m : ℕ) (e : ℤ) → T (fits f (fin s m e)) → m * 2 ^ exponent (low f) e < overflow f
fits_under f s m e t =
    lt_of_mul-lt-mul_right (down e)
    (subst (λ (x : ℕ). x < overflow f * down e) (in_units f s m e t)
    (lt_of_lt_of_le (mul-lt-mul_of_pos_right (fits_top f s m e t) (pow_pos (low f)))
    (le_of_eq (mul_right_comm (2 ^ suc (emax f)) (down e) (2 ^ low f) ∙ ap (λ (x : ℕ). x * down e) (mul_comm (2 ^ suc (emax f)) (2 ^ low f) ∙ sym (pow-add 2 (low f) (suc (emax f))))))))

pub round_self : (f : Format) (s : Bool) (m : ℕ) (e : ℤ) → T (fits f (fin s m e)) → round f s (m * up e) (down e) ≡ fin s m e
round_self f s m e t =
    let n = m * 2 ^ exponent (low f) e in
    same_value f (round f s (m * up e) (down e)) (fin s m e) s (m * up e) (down e) n (down_pos e) (in_units f s m e t) (round-fits f s (m * up e) (down e)) t
    (round_exact f s (m * up e) (down e) m (exponent (low f) e) (down_pos e) (fits_digits f s m e t) (fits_under f s m e t) (in_units f s m e t))
    (refl, refl)

-- and so does any fraction that it equals
pub round_holds : (f : Format) (x : Float) (s : Bool) (a c : ℕ) → 0 < c → T (fits f x) → HasValue x s a c → round f s a c ≡ x
round_holds f nan s a c C t v = absurd v
round_holds f (inf u) s a c C t v = absurd v
round_holds f (fin u m e) s a c C t v =
    round_same f s a c (m * up e) (down e) C (down_pos e) (sym v.1)
    ∙ ap (λ (w : Bool). round f w (m * up e) (down e)) (sym v.0)
    ∙ round_self f u m e t

-- ---- the sign goes through
neg_odd : (d : ℕ) (s : Bool) (q k l : ℕ) → neg (odd d s q k l) ≡ odd d (not s) q k l
unfolding neg odd
neg_odd d s zero k l = refl
neg_odd d s (suc q) k l = refl

neg_units : (f : Format) (s : Bool) (q k : ℕ) → neg (units f s q k) ≡ units f (not s) q k
unfolding units neg
neg_units f s q k = go (ltb (q * 2 ^ k) (overflow f))
  where
    go : (b : Bool) → neg (cond b (odd (suc (prec f)) s q k (low f)) (inf s)) ≡ cond b (odd (suc (prec f)) (not s) q k (low f)) (inf (not s))
    go true = neg_odd (suc (prec f)) s q k (low f)
    go false = refl

pub neg_round : (f : Format) (s : Bool) (a c : ℕ) → neg (round f s a c) ≡ round f (not s) a c
neg_round f s a c =
    ap neg (round_is f s a c) ∙ neg_units f s (kept (prec f) (a * 2 ^ low f) c) (drop (prec f) (a * 2 ^ low f) c) ∙ sym (round_is f (not s) a c)

-- ---- what a rounded fraction is: its grid, in units, below the overflow
pub round_value : (f : Format) (s : Bool) (a c : ℕ) → grid f a c < overflow f → HasValue (round f s a c) s (grid f a c) (2 ^ low f)
round_value f s a c h =
    subst (λ (x : Float). HasValue x s (grid f a c) (2 ^ low f)) (sym (round_is f s a c)) (units_val f s (kept (prec f) (a * 2 ^ low f) c) (drop (prec f) (a * 2 ^ low f) c) h)

-- ---- the error of one rounding
-- x is `count` units with the sign s, and these are a / c but for a slack: with n = a * 2 ^ low, count * c and n differ by at most slack / 2 ^ prec
pub record Near (f : Format) (s : Bool) (a c slack : ℕ) (x : Float) : Type 0 where
  pub count : ℕ
  pub value : HasValue x s count (2 ^ low f)
  pub above : count * c * 2 ^ prec f ≤ a * 2 ^ low f * 2 ^ prec f + slack
  pub below : a * 2 ^ low f * 2 ^ prec f ≤ count * c * 2 ^ prec f + slack

-- the last place kept, u = c * 2 ^ drop: half of it, times 2 ^ prec, is at most the slack
half_above : (h w u g n slack : ℕ) → w ≡ h + h → u * h ≤ slack → g * u * 2 ≤ n * 2 + u → g * u * w ≤ n * w + slack
half_above h w u g n slack e a k = rw e (omega (arith, mul-le-mul_right h k))

half_below : (h w u g n slack : ℕ) → w ≡ h + h → u * h ≤ slack → n * 2 ≤ g * u * 2 + u → n * w ≤ g * u * w + slack
half_below h w u g n slack e a k = rw e (omega (arith, mul-le-mul_right h k))

near : (f : Format) (s : Bool) (a c slack : ℕ) → 0 < c → grid f a c < overflow f → c * 2 ^ drop (prec f) (a * 2 ^ low f) c * 2 ^ (prec f - 1) ≤ slack → Near f s a c slack (round f s a c)
near f s a c slack C fine h =
    let p = prec f in
    let n = a * 2 ^ low f in
    let k = drop p n c in
    let u = c * 2 ^ k in
    let P : 0 < p = two-le_pos p (two f) in
    let whole : grid f a c * c ≡ kept p n c * u = mul_assoc (kept p n c) (2 ^ k) c ∙ ap (λ (x : ℕ). kept p n c * x) (mul_comm (2 ^ k) c) in
    record {
      count = grid f a c;
      value = round_value f s a c fine;
      above = rw whole (half_above (2 ^ (p - 1)) (2 ^ p) u (kept p n c) n slack (twice p P) h (closest_above n u));
      below = rw whole (half_below (2 ^ (p - 1)) (2 ^ p) u (kept p n c) n slack (twice p P) h (closest_below n u (mul-pos C (pow_pos k))));
    }

-- where digits are dropped, the last place is at most n / 2 ^ (prec - 1); where none are, it is one unit
dropped_place : (p n c : ℕ) → 0 < p → 0 < c → 0 < drop p n c → c * 2 ^ drop p n c * 2 ^ (p - 1) ≤ n
dropped_place p n c P C k =
    le_trans (le_of_eq (mul_comm (c * 2 ^ drop p n c) (2 ^ (p - 1))))
    ((le-div_iff_mul-le (mul-pos C (pow_pos (drop p n c)))).0
    (subst (λ (x : ℕ). 2 ^ (p - 1) ≤ x) (div-div-eq-div-mul n c (2 ^ drop p n c)) (kept_lead p (n / c) P k)))

last_place : (p n c slack : ℕ) → 0 < p → 0 < c → n ≤ slack → c * 2 ^ (p - 1) ≤ slack → c * 2 ^ drop p n c * 2 ^ (p - 1) ≤ slack
last_place p n c slack P C h l = go (eq-zero-or-pos (drop p n c))
  where
    go : (drop p n c ≡ 0) ⊎ (0 < drop p n c) → c * 2 ^ drop p n c * 2 ^ (p - 1) ≤ slack
    go (inl z) = subst (λ (k : ℕ). c * 2 ^ k * 2 ^ (p - 1) ≤ slack) (sym z) (le_trans (le_of_eq (ap (λ (x : ℕ). x * 2 ^ (p - 1)) (mul-one c))) l)
    go (inr k) = le_trans (dropped_place p n c P C k) h

-- in the normal range, where a / c is 2 ^ (prec - 1) units at least, the error is a relative 2 ^ -prec
pub relative_error : (f : Format) (s : Bool) (a c : ℕ) → 0 < c → 2 ^ (prec f - 1) * c ≤ a * 2 ^ low f → grid f a c < overflow f → Near f s a c (a * 2 ^ low f) (round f s a c)
relative_error f s a c C normal fine =
    near f s a c (a * 2 ^ low f) C fine
    (last_place (prec f) (a * 2 ^ low f) c (a * 2 ^ low f) (two-le_pos (prec f) (two f)) C (le_refl (a * 2 ^ low f)) (le_trans (le_of_eq (mul_comm c (2 ^ (prec f - 1)))) normal))

-- anywhere below the overflow it is that and half a unit
pub rounding_error : (f : Format) (s : Bool) (a c : ℕ) → 0 < c → grid f a c < overflow f → Near f s a c (a * 2 ^ low f + c * 2 ^ (prec f - 1)) (round f s a c)
rounding_error f s a c C fine =
    near f s a c (a * 2 ^ low f + c * 2 ^ (prec f - 1)) C fine
    (last_place (prec f) (a * 2 ^ low f) c (a * 2 ^ low f + c * 2 ^ (prec f - 1)) (two-le_pos (prec f) (two f)) C (le-add_right (a * 2 ^ low f) (c * 2 ^ (prec f - 1))) (le-add_left (c * 2 ^ (prec f - 1)) (a * 2 ^ low f)))
