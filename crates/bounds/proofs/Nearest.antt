-- Signs by units (`sign_above`, `sign_below`), and the nearest whole value: it stays within a whole bound (`whole_bound`), a nearest whole value that is nearer than a half to
-- another f64 of the same sign is that one's as well (`whole_shared`), and what is left over it is exact (`part_exact`). Assumes nothing.
use mathlib.Core.Path.{◌≡◌, refl, sym, ap, ap₂, ◌∙◌, subst}
use mathlib.Core.Bool.{Bool, true, false, not}
use Prim.Native.Nat.{ℕ, zero, suc, ◌+◌, ◌-◌, ◌*◌, ◌^◌, ◌≤◌, ◌<◌}
use native.Mathlib.Nat.{lt_irrefl, lt_of_lt_of_le, lt_of_le_of_lt, le_trans, le_of_eq, le_of_lt, le_of_mul-le-mul_right, mul-lt-mul_of_pos_right, mul-one, mul_assoc, mul_comm, mul_right_comm, add-zero, zero-add}
use native.Mathlib.Omega.{arith}
use lib.Dec.{T, leb, ltb, leb→le, nleb→lt, ltb→lt, lit≤, lit<}
use lib.Pow.{pow-add, pow_pos}
use lib.IntN.{ℤ}
use lib.Ieee.{Float, nan, inf, fin, binary64, up, down, round, neg, sub, fits}
use lib.Ieee.Exact.{HasValue}
use lib.Ieee.Fits.{down_pos}
use lib.Ieee.Nearest.{closest, closest_same}
use Rattle.floats.specs.Narrowing.{nearest_whole}
use Rattle.floats.specs.Operations.{◌⊖◌}
use Rattle.floats.proofs.Laws.Closest.{closest_above, closest_unique}
use Rattle.floats.proofs.Laws.Sums.{above, under, whole_at_most}
use Rattle.floats.proofs.Laws.Units.{HasSign, exponent, in_units, fits_digits}
use Rattle.floats.proofs.Laws.Whole.{nearest_whole_exact}
use Rattle.floats.proofs.Laws.Cast.{whole_fits}
use Rattle.bounds.proofs.Values.{per_one, per_one_pos, plus, less, mag, mag_of, Number, neg_plus, neg_less, neg_number, Units, by_value}
use Rattle.bounds.proofs.Scales.{S, S_pos, one_is, unit, Bound}
use Rattle.bounds.proofs.Distances.{Apart}
use Rattle.bounds.proofs.Compared.{size_in_units, units_in_size}
use Rattle.bounds.proofs.Exactly.{ExactSum, exact_sum}

-- ---- the sign of what is above 0, and of what is below
pub sign_above : (x : Float) → 0 < plus x → HasSign false x
sign_above nan h = absurd (lt_irrefl 0 h)
sign_above (inf s) h = absurd (lt_irrefl 0 h)
sign_above (fin true m e) h = absurd (lt_irrefl 0 h)
sign_above (fin false m e) h = refl

pub sign_below : (x : Float) → 0 < less x → HasSign true x
sign_below nan h = absurd (lt_irrefl 0 h)
sign_below (inf s) h = absurd (lt_irrefl 0 h)
sign_below (fin true m e) h = refl
sign_below (fin false m e) h = absurd (lt_irrefl 0 h)

-- ---- in units
pub whole_value : (s : Bool) (m : ℕ) (e : ℤ) → T (fits binary64 (fin s m e)) → Units s (closest (m * up e) (down e) * per_one) (nearest_whole (fin s m e))
whole_value s m e t = by_value (nearest_whole (fin s m e)) s (closest (m * up e) (down e) * per_one) (whole_fits (fin s m e)) (go (nearest_whole (fin s m e)) (nearest_whole_exact s m e t))
  where
    go : (k : Float) → HasValue k s (closest (m * up e) (down e)) 1 → HasValue k s (closest (m * up e) (down e) * per_one) per_one
    go nan v = absurd v
    go (inf u) v = absurd v
    go (fin u n d) v = (v.0, ap (λ (z : ℕ). z * per_one) (sym (mul-one (n * up d)) ∙ v.1) ∙ mul_right_comm (closest (m * up e) (down e)) (down d) per_one)

closest_in_units : (s : Bool) (m : ℕ) (e : ℤ) → T (fits binary64 (fin s m e)) → closest (m * up e) (down e) ≡ closest (m * 2 ^ exponent 1074 e) per_one
unfolding per_one
closest_in_units s m e t = closest_same (m * up e) (down e) (m * 2 ^ exponent 1074 e) (2 ^ 1074) (down_pos e) per_one_pos (in_units binary64 s m e t)

-- ---- a whole bound
pub whole_bound : {x : Float} (b : ℕ) → Bound S (b * 2 ^ 53) x → Bound S (b * 2 ^ 53) (nearest_whole x)
whole_bound {x} b p =
    let w = size_in_units b (nearest_whole x) (whole_fits x) (whole_at_most x p.number.held b (units_in_size b x p.number (le_trans p.size (le_of_eq (scale b))))) in
    record { scale = unit; number = w.0; size = le_trans w.1 (le_of_eq (sym (scale b))) }
  where
    scale : (b : ℕ) → b * 2 ^ 53 * S ≡ b * per_one
    scale b = mul_assoc b (2 ^ 53) S ∙ ap (λ (z : ℕ). b * z) (mul_comm (2 ^ 53) S ∙ sym one_is)

-- ---- the same nearest whole value
-- y units, as p - n, nearer than the half of w to X units
from_low : (X y p n w : ℕ) → p ≡ y → n ≡ 0 → (0 + p) * 2 < (X + n) * 2 + w → y * 2 < X * 2 + w
from_low X y p n w e f h = omega arith

from_high : (X y p n w : ℕ) → p ≡ y → n ≡ 0 → (X + n) * 2 < (0 + p) * 2 + w → X * 2 < y * 2 + w
from_high X y p n w e f h = omega arith

-- N × w units, with the sign s
shared : (s : Bool) (X N w p n : ℕ) → 0 < w → p ≡ above s (N * w) → n ≡ under s (N * w) → (above s X + n) * 2 < (under s X + p) * 2 + w → (under s X + p) * 2 < (above s X + n) * 2 + w → closest X w ≡ N
shared false X N w p n W e f g h = closest_unique X w N W (from_low X (N * w) p n w e f h) (from_high X (N * w) p n w e f g)
shared true X N w p n W e f g h = closest_unique X w N W (from_low X (N * w) n p w f e g) (from_high X (N * w) n p w f e h)

-- x and y have the sign s, and the nearest whole value of y is nearer than a half to x
pub whole_shared : {K : ℕ} (s : Bool) (x y : Float) → Number x → Number y → HasSign s x → HasSign s y → Apart S K x (nearest_whole y) → T (ltb K (2 ^ 52)) → nearest_whole x ≡ nearest_whole y
unfolding nearest_whole
whole_shared s nan y p q a b c t = absurd p.plain
whole_shared s (inf u) y p q a b c t = absurd p.plain
whole_shared s (fin u m e) nan p q a b c t = absurd q.plain
whole_shared s (fin u m e) (inf v) p q a b c t = absurd q.plain
whole_shared {K} s (fin u m e) (fin v n d) p q a b c t =
    let k = whole_value v n d q.held in
    let same : v ≡ u = b ∙ sym a in
    let N = closest (n * up d) (down d) in
    let X = m * 2 ^ exponent 1074 e in
    let K_half = subst (λ (w : ℕ). K * S * 2 < w) (sym one_is) (half K S (ltb→lt K (2 ^ 52) t) S_pos) in
    ap₂ (λ (z : Bool) (i : ℕ). round binary64 z i 1) (sym same)
    (closest_in_units u m e p.held
    ∙ shared u X N per_one (plus (nearest_whole (fin v n d))) (less (nearest_whole (fin v n d))) per_one_pos (k.plus_is ∙ ap (λ (z : Bool). above z (N * per_one)) same)
    (k.less_is ∙ ap (λ (z : Bool). under z (N * per_one)) same) (omega arith)
    (omega arith))
  where
    half : (K s : ℕ) → K < 2 ^ 52 → 0 < s → K * s * 2 < s * 2 ^ 53
    half K s h P = lt_of_lt_of_le (mul-lt-mul_of_pos_right (mul-lt-mul_of_pos_right h P) (lit< tt)) (le_of_eq (omega arith))

-- ---- what is left over the nearest whole value
-- that value is at most twice as large
twice_at_most : (a w : ℕ) → closest a w * w ≤ 2 * a
twice_at_most a w = go (closest a w) (closest_above a w)
  where
    go : (n : ℕ) → n * w * 2 ≤ a * 2 + w → n * w ≤ 2 * a
    go zero g = omega arith
    go (suc n) g = omega arith

-- M × 2^j and K × 2^j with the sign s: what they differ by is exact
few : (M K : ℕ) → M < 2 ^ 53 → K ≤ 2 * M → (M < K + 2 ^ 53) × (K < M + 2 ^ 53)
few M K h g = (omega arith, omega arith)

differ : {x k : Float} (s : Bool) (j M K : ℕ) → j ≤ 1900 → Units s (M * 2 ^ j) x → Units s (K * 2 ^ j) k → M < 2 ^ 53 → K ≤ 2 * M → ExactSum x (neg k)
differ {x} {k} false j M K l p q h g =
    exact_sum j M K l p.number (neg_number q.number) (ap₂ ◌+◌ p.plus_is (neg_plus k ∙ q.less_is) ∙ add-zero (M * 2 ^ j)) (ap₂ ◌+◌ p.less_is (neg_less k ∙ q.plus_is) ∙ zero-add (K * 2 ^ j)) (few M K h g).0 (few M K h g).1
differ {x} {k} true j M K l p q h g =
    exact_sum j K M l p.number (neg_number q.number) (ap₂ ◌+◌ p.plus_is (neg_plus k ∙ q.less_is) ∙ zero-add (K * 2 ^ j)) (ap₂ ◌+◌ p.less_is (neg_less k ∙ q.plus_is) ∙ add-zero (M * 2 ^ j)) (few M K h g).1 (few M K h g).0

-- the exact difference: x is k and what is left
pub record Left (x k : Float) : Type 0 where
  pub number : Number (x ⊖ k)
  pub is : plus (x ⊖ k) + less x + plus k ≡ less (x ⊖ k) + plus x + less k

-- a and b at 2^j, and a × 2^i with fewer of them
cut : (a b j : ℕ) → a * 2 ^ j ≤ 2 * (b * 2 ^ j) → a ≤ 2 * b
cut a b j h = le_of_mul-le-mul_right (le_trans h (le_of_eq (sym (mul_assoc 2 b (2 ^ j))))) (pow_pos j)

spread : (a i j : ℕ) → j ≤ i → a * 2 ^ i ≡ a * 2 ^ (i - j) * 2 ^ j
spread a i j h = ap (λ (d : ℕ). a * 2 ^ d) (sym (omega arith)) ∙ ap (λ (d : ℕ). a * d) (pow-add 2 (i - j) j) ∙ sym (mul_assoc a (2 ^ (i - j)) (2 ^ j))

-- X of 2^y, at most 2^20 in size, and its nearest whole number of K
exact_from : {x k : Float} (s : Bool) (m y K : ℕ) → Units s (m * 2 ^ y) x → Units s (K * 2 ^ 1074) k → m < 2 ^ 53 → m * 2 ^ y ≤ 2 ^ 20 * 2 ^ 1074 → K * 2 ^ 1074 ≤ 2 * (m * 2 ^ y) → ExactSum x (neg k)
exact_from {x} {k} s m y K p q d h g = go (leb y 1074) (leb→le y 1074) (nleb→lt y 1074)
  where
    small : (a : ℕ) → a * 2 ^ 1074 ≤ 2 ^ 20 * 2 ^ 1074 → a < 2 ^ 53
    small a h =
        let l : a ≤ 2 ^ 20 = le_of_mul-le-mul_right h (pow_pos 1074) in
        lt_of_le_of_lt l (lit< tt)

    go : (b : Bool) → (T b → y ≤ 1074) → (T (not b) → 1074 < y) → ExactSum x (neg k)
    go true f _ =
        let same = spread K 1074 y (f tt) in
        differ s y m (K * 2 ^ (1074 - y)) (le_trans (f tt) (lit≤ tt)) p (subst (λ (i : ℕ). Units s i k) same q) d (cut (K * 2 ^ (1074 - y)) m y (subst (λ (i : ℕ). i ≤ 2 * (m * 2 ^ y)) same g))
    go false _ f =
        let same = spread m y 1074 (le_of_lt (f tt)) in
        differ s 1074 (m * 2 ^ (y - 1074)) K (lit≤ tt) (subst (λ (i : ℕ). Units s i x) same p) q (small (m * 2 ^ (y - 1074)) (subst (λ (i : ℕ). i ≤ 2 ^ 20 * 2 ^ 1074) same h))
        (cut K (m * 2 ^ (y - 1074)) 1074 (subst (λ (i : ℕ). K * 2 ^ 1074 ≤ 2 * i) same g))

left_of_lem : {x k : Float} → ExactSum x (neg k) → Left x k
unfolding sub
left_of_lem {x} {k} d = record {
  number = d.number;
  is = ap (λ (i : ℕ). plus (x ⊖ k) + less x + i) (sym (neg_less k)) ∙ d.is ∙ ap (λ (i : ℕ). less (x ⊖ k) + plus x + i) (neg_plus k);
}

pub part_exact : (x : Float) → Number x → mag x ≤ 2 ^ 20 * per_one → Left x (nearest_whole x)
unfolding per_one
part_exact nan n h = absurd n.plain
part_exact (inf s) n h = absurd n.plain
part_exact (fin s m e) n h =
    let y = exponent 1074 e in
    left_of_lem
    (exact_from s m y (closest (m * up e) (down e)) (record { number = n; plus_is = refl; less_is = refl }) (whole_value s m e n.held) (fits_digits binary64 s m e n.held) (subst (λ (i : ℕ). i ≤ 2 ^ 20 * 2 ^ 1074) (mag_of s (m * 2 ^ y)) h)
    (subst (λ (i : ℕ). i * 2 ^ 1074 ≤ 2 * (m * 2 ^ y)) (sym (closest_in_units s m e n.held)) (twice_at_most (m * 2 ^ y) (2 ^ 1074))))
