-- Where the language's own casts of a value to an integer are defined: at a whole number that is small enough and not -0. `k + 0` is k, and
-- +0 where k is -0 (`add_plus_zero`), so that the cast of it is that of k (`signed_cast`). The sign of |k| is clear (`unsigned_cast`).
-- Assumes nothing.
use Rattle.std.proofs.Common.{◌≡◌, ℕ, zero, suc, ◌-◌, ◌*◌, ◌/◌, ◌%◌, ◌^◌, ◌<◌, ◌≤◌, min, Bool, true, false, cond, not, ◌&&◌, T, eqb, ltb, leb, ℤ, pos, sym, refl, ap, ◌∙◌, subst, ap₂, le_trans, le_of_suc-le-suc, lt_of_le_of_lt, add-zero, le_of_lt, zero-lt-suc, div-lt_iff_lt-mul, mul-pos, zero-mul, mul-one, arith, lit<, le→leb, eqb→eq, lt→ltb}
use mathlib.Core.Bool.{false≢true}
use native.Mathlib.Nat.{zero-div, mul-mod_left}
use lib.Dec.{eqb-suc-zero}
use lib.Arith.{le→nltb}
use lib.Ieee.{Float, nan, inf, fin, Format, binary64, prec, up, down, round, sum, add, fits, whole, to_signed, in_signed, in_unsigned}
use lib.Ieee.Bits.{cond_no, is_true}
use lib.Ieee.Exact.{HasValue}
use lib.Ieee.Fits.{and_i, eq→eqb, up_pos, down_pos, round-fits, nan-fits, inf-fits}
use lib.Ieee.Nearest.{closest, closest_same}
use Rattle.floats.specs.Narrowing.{nearest_whole}
use Rattle.floats.specs.OnBits.{absolute, is_integer}
use Rattle.floats.proofs.Laws.Closest.{closest_one}
use Rattle.floats.proofs.Laws.Rounding.{round_self}
use Rattle.floats.proofs.Laws.Sums.{SizeAtMost}
use Rattle.floats.proofs.Laws.Units.{fits_signed}
use Rattle.floats.proofs.Laws.Whole.{nearest_whole_exact}

-- ---- k + 0
-- the sign s of m, which no zero has
abbrev pub signed : Bool → ℕ → Bool
signed s zero = false
signed s (suc m) = s

-- -a + 0, where it is known whether a is above zero
less_none : (f : Format) (a c : ℕ) (u : Bool) → ltb 0 a ≡ u → sum f true a false 0 c ≡ round f u a c
unfolding sum
less_none f a c u e =
    cond_no (ltb a 0) (round f false (0 - a) c) (round f (ltb 0 a) (a - 0) c) (le→nltb a 0 (omega arith))
    ∙ ap₂ (λ (v : Bool) (n : ℕ). round f v n c) e (whole_left a)
  where
    whole_left : (a : ℕ) → a - 0 ≡ a
    whole_left a = omega arith

-- k, and +0 where k is -0
pub add_plus_zero : (f : Format) (s : Bool) (m : ℕ) (e : ℤ) → T (fits f (fin s m e)) → add f (fin s m e) (fin false 0 (pos 0)) ≡ fin (signed s m) m e
unfolding add
add_plus_zero f s m e t =
    ap₂ (λ (a b : ℕ). sum f s a false b (down e * 1)) (mul-one (m * up e)) (zero-mul (down e))
    ∙ ap (sum f s (m * up e) false 0) (mul-one (down e))
    ∙ go s m t
    ∙ round_self f (signed s m) m e (fits_signed f s (signed s m) m e t)
  where
    go : (s : Bool) (m : ℕ) → T (fits f (fin s m e)) → sum f s (m * up e) false 0 (down e) ≡ round f (signed s m) (m * up e) (down e)
    go true zero t = less_none f (0 * up e) (down e) false (ap (ltb 0) (zero-mul (up e)))
    go true (suc m) t = less_none f (suc m * up e) (down e) true (is_true (ltb 0 (suc m * up e)) (lt→ltb 0 (suc m * up e) (mul-pos (zero-lt-suc m) (up_pos e))))
    go false zero t = ap (λ (a : ℕ). round f false a (down e)) (add-zero (0 * up e))
    go false (suc m) t = ap (λ (a : ℕ). round f false a (down e)) (add-zero (suc m * up e))

-- ---- a whole number that is small enough
-- a bound of a number bounds what is left of it without its fraction
pub part_at_most : (b a d : ℕ) → 0 < d → a ≤ b * d → a / d ≤ b
part_at_most b a d D h = le_of_suc-le-suc ((div-lt_iff_lt-mul D).1 (more b a d D h))
  where
    more : (b a d : ℕ) → 0 < d → a ≤ b * d → a < suc b * d
    more b a d D h = omega arith

whole_of : (f : Format) (b : ℕ) (s : Bool) (m : ℕ) (e : ℤ) → m * up e % down e ≡ 0 → SizeAtMost b (fin s m e) → b ≤ 2 ^ prec f → T (not (s && eqb m 0)) → T (whole f (fin s m e))
unfolding whole
whole_of f b s m e z h p n =
    and_i (eqb (m * up e % down e) 0 && leb (m * up e / down e) (2 ^ prec f)) (not (s && eqb m 0))
    (and_i (eqb (m * up e % down e) 0) (leb (m * up e / down e) (2 ^ prec f)) (eq→eqb z) (le→leb (m * up e / down e) (2 ^ prec f) (le_trans (part_at_most b (m * up e) (down e) (down_pos e) h) p))) n

-- ---- to a signed integer
-- a value that is its own nearest whole value has no fraction
no_fraction : (s : Bool) (m : ℕ) (e : ℤ) → T (fits binary64 (fin s m e)) → nearest_whole (fin s m e) ≡ fin s m e → m * up e % down e ≡ 0
no_fraction s m e t w =
    let v : HasValue (fin s m e) s (closest (m * up e) (down e)) 1 = subst (λ (k : Float). HasValue k s (closest (m * up e) (down e)) 1) w (nearest_whole_exact s m e t) in
    ap (λ (a : ℕ). a % down e) (sym (mul-one (m * up e)) ∙ v.1) ∙ mul-mod_left (closest (m * up e) (down e)) (down e)

never_minus_zero : (s : Bool) (m : ℕ) → T (not (signed s m && eqb m 0))
never_minus_zero s zero = tt
never_minus_zero false (suc m) = tt
never_minus_zero true (suc m) = subst (λ (b : Bool). T (not b)) (sym (eqb-suc-zero m)) tt

sign_kept : (h : ℕ) (s : Bool) (m : ℕ) (e : ℤ) → to_signed h (fin (signed s m) m e) ≡ to_signed h (fin s m e)
unfolding to_signed
sign_kept h s (suc m) e = refl
sign_kept h false zero e = refl
sign_kept h true zero e = rw (zero-mul (up e), zero-div (down e), none (2 ^ h), none (2 ^ h - 1)) refl
  where
    none : (c : ℕ) → min 0 c ≡ 0
    none c = omega arith

-- `(k + 0.0) as i64` is defined, and it is the number of k
pub signed_cast : (h b : ℕ) (k : Float) → T (fits binary64 k) → nearest_whole k ≡ k → SizeAtMost b k → b ≤ 2 ^ 53 → b < 2 ^ h
    → T (in_signed binary64 h (add binary64 k (fin false 0 (pos 0)))) × (to_signed h (add binary64 k (fin false 0 (pos 0))) ≡ to_signed h k)
unfolding in_signed
signed_cast h b nan t w q p r = absurd q
signed_cast h b (inf s) t w q p r = absurd q
signed_cast h b (fin s m e) t w q p r =
    rw (add_plus_zero binary64 s m e t) (
      and_i (whole binary64 (fin (signed s m) m e)) _ (whole_of binary64 b (signed s m) m e (no_fraction s m e t w) q p (never_minus_zero s m)) (in_range (signed s m)),
      sign_kept h s m e,
    )
  where
    part : m * up e / down e ≤ b
    part = part_at_most b (m * up e) (down e) (down_pos e) q

    in_range : (u : Bool) → T (cond u (leb (m * up e / down e) (2 ^ h)) (ltb (m * up e / down e) (2 ^ h)))
    in_range true = le→leb (m * up e / down e) (2 ^ h) (le_trans part (le_of_lt r))
    in_range false = lt→ltb (m * up e / down e) (2 ^ h) (lt_of_le_of_lt part r)

-- a nearest whole value is its own
pub whole_twice : (x : Float) → T (fits binary64 x) → nearest_whole (nearest_whole x) ≡ nearest_whole x
unfolding nearest_whole
whole_twice nan t = refl
whole_twice (inf s) t = refl
whole_twice (fin s m e) t = go (nearest_whole (fin s m e)) (nearest_whole_exact s m e t)
  where
    n : ℕ
    n = closest (m * up e) (down e)

    go : (k : Float) → HasValue k s n 1 → nearest_whole k ≡ round binary64 s n 1
    go nan v = absurd v
    go (inf u) v = absurd v
    go (fin u i d) v =
        ap₂ (λ (z : Bool) (n : ℕ). round binary64 z n 1) v.0
        (closest_same (i * up d) (down d) n 1 (down_pos d) (lit< tt) v.1 ∙ closest_one n)

-- and fits
pub whole_fits : (x : Float) → T (fits binary64 (nearest_whole x))
unfolding nearest_whole
whole_fits nan = nan-fits binary64
whole_fits (inf s) = inf-fits binary64 s
whole_fits (fin s m e) = round-fits binary64 s (closest (m * up e) (down e)) 1

-- ---- to an unsigned integer
-- `|k| as u64` is defined
pub unsigned_cast : (f : Format) (w b : ℕ) (k : Float) → is_integer k ≡ true → SizeAtMost b k → b ≤ 2 ^ prec f → b < 2 ^ w → T (in_unsigned f w (absolute k))
unfolding in_unsigned is_integer absolute
unsigned_cast f w b nan i q p r = absurd q
unsigned_cast f w b (inf s) i q p r = absurd q
unsigned_cast f w b (fin s zero e) i q p r = absurd (false≢true i)
unsigned_cast f w b (fin s (suc m) e) i q p r =
    and_i (whole f (fin false (suc m) e)) (ltb (suc m * up e / down e) (2 ^ w))
    (whole_of f b false (suc m) e (eqb→eq (suc m * up e % down e) 0 (subst T (sym i) tt)) q p tt)
    (lt→ltb (suc m * up e / down e) (2 ^ w) (lt_of_le_of_lt (part_at_most b (suc m * up e) (down e) (down_pos e) q) r))
