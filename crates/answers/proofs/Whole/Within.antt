-- An f64 and how near it is to a fraction, in factors of (2^53 - 1) / 2^53: one rounding is one of them (`rounded`), so a product of values has those of
-- both and one more (`times`), and a reciprocal has one more too, unless it leaves the normal range (`reciprocal`). That a result is in range is known
-- from the fraction, up to 33 factors (`not_over`, `not_under`). Assumes nothing.
use mathlib.Core.Path.{◌≡◌, refl, sym, ap, ap₂, ◌∙◌, subst, subst₂}
use mathlib.Core.Bool.{Bool, true, false, not}
use Prim.Native.Nat.{ℕ, zero, suc, ◌+◌, ◌-◌, ◌*◌, ◌^◌, ◌≤◌, ◌<◌}
use native.Mathlib.Nat.{le_trans, le_of_eq, not-le_of_lt, mul-pos, mul-one, one-mul, zero-mul, mul_comm, mul_assoc, one-le-pow, mul-le-mul_left, mul-le-mul_right, mul-lt-mul_of_pos_left, le_of_mul-le-mul_right, lt_of_mul-lt-mul_right}
use native.Mathlib.Omega.{arith}
use lib.Dec.{T, eqb, leb, leb→le, nleb→lt, eqb-suc-zero, lit≤, lit<}
use lib.IntN.{ℤ}
use lib.Ieee.{Float, nan, inf, fin, binary64, up, down, round, mul, div}
use lib.Ieee.Exact.{HasValue}
use lib.Ieee.Fits.{down_pos}
use Rattle.floats.specs.Operations.{◌⊗◌, ◌⊘◌}
use Rattle.floats.proofs.Laws.Overflow.{halfway, round_stays}
use Rattle.floats.proofs.Laws.Rounding.{relative_error}
use Rattle.special.specs.Special.{one}
use Rattle.floats.proofs.Laws.Tests.{second}
use Rattle.answers.proofs.Whole.Factors.{WithinFactors, turned, joined, product, looser}

-- one factor of f64
abbrev pub near : ℕ
near = 2 ^ 53 - 1

abbrev pub full : ℕ
full = 2 ^ 53

-- x is finite, its sign is clear, and it is within n factors of A / C
pub record Within (n A C : ℕ) (x : Float) : Type 0 where
  pub digits : ℕ
  pub exponent : ℤ
  pub is : x ≡ fin false digits exponent
  pub close : WithinFactors near full n (digits * up exponent) (down exponent) A C

pub within_more : {n A C : ℕ} {x : Float} (m : ℕ) → n ≤ m → Within n A C x → Within m A C x
within_more m h w = record { digits = w.digits; exponent = w.exponent; is = w.is; close = looser m (lit≤ tt) h w.close }

-- ---- one rounding
-- v / w is `count` units of 1 / L, and these are a / c but for 1 / Q of it
from_above : (v w count L c a q Q : ℕ) → 0 < L * Q → (Q + 1) * q ≤ Q * Q → v * L ≡ count * w → count * c * Q ≤ a * L * Q + a * L → v * c * q ≤ a * w * Q
from_above v w count L c a q Q D s e h =
    let x : count * c * Q * (w * q) ≤ (a * L * Q + a * L) * (w * q) = mul-le-mul_right (w * q) h in
    let y : a * L * w * ((Q + 1) * q) ≤ a * L * w * (Q * Q) = mul-le-mul_left (a * L * w) s in
    let z : v * L * (c * q * Q) ≡ count * w * (c * q * Q) = ap (λ (t : ℕ). t * (c * q * Q)) e in
    le_of_mul-le-mul_right {k = L * Q} (omega arith) D

from_below : (v w count L c a q Q : ℕ) → 0 < L → q + 1 ≡ Q → v * L ≡ count * w → a * L * Q ≤ count * c * Q + a * L → a * w * q ≤ v * c * Q
from_below v w count L c a q Q D s e h =
    let x : a * L * Q * w ≤ (count * c * Q + a * L) * w = mul-le-mul_right w h in
    let y : a * L * w * (q + 1) ≡ a * L * w * Q = ap (λ (t : ℕ). a * L * w * t) s in
    let z : v * L * (c * Q) ≡ count * w * (c * Q) = ap (λ (t : ℕ). t * (c * Q)) e in
    le_of_mul-le-mul_right {k = L} (omega arith) D

pub rounded : (a c : ℕ) → 0 < c → 2 ^ 52 * c ≤ a * 2 ^ 1074 → a < halfway binary64 * c → Within 1 a c (round binary64 false a c)
rounded a c C normal small =
    let r = relative_error binary64 false a c C normal (round_stays binary64 a c C small) in
    go (round binary64 false a c) r.count r.value r.above r.below
  where
    go : (x : Float) (count : ℕ) → HasValue x false count (2 ^ 1074) → count * c * 2 ^ 53 ≤ a * 2 ^ 1074 * 2 ^ 53 + a * 2 ^ 1074 → a * 2 ^ 1074 * 2 ^ 53 ≤ count * c * 2 ^ 53 + a * 2 ^ 1074 → Within 1 a c x
    go nan count v g h = absurd v
    go (inf s) count v g h = absurd v
    go (fin s m e) count v g h = record {
      digits = m;
      exponent = e;
      is = ap (λ (t : Bool). fin t m e) v.0;
      close = record {
        above = from_above (m * up e) (down e) count (2 ^ 1074) c a near full (lit< tt) (lit≤ tt) v.1 g;
        below = from_below (m * up e) (down e) count (2 ^ 1074) c a near full (lit< tt) refl v.1 h;
      };
    }

-- of a fraction that is near to A / C
rounded_near : {n A C : ℕ} (a c : ℕ) → 0 < c → 2 ^ 52 * c ≤ a * 2 ^ 1074 → a < halfway binary64 * c → WithinFactors near full n a c A C → Within (1 + n) A C (round binary64 false a c)
rounded_near a c C normal small h =
    let w = rounded a c C normal small in
    record { digits = w.digits; exponent = w.exponent; is = w.is; close = joined C w.close h }

-- ---- the range
-- what is at most (2^64 - 2^39)^16 is below the overflow
over : (a c A C i I M H : ℕ) → 0 < C → 0 < c → M * I < H * i → a * C * i ≤ A * c * I → A ≤ M * C → a < H * c
over a c A C i I M H P D l h k =
    let x : A * (c * I) ≤ M * C * (c * I) = mul-le-mul_right (c * I) k in
    let y : a * i ≤ M * c * I = le_of_mul-le-mul_right {k = C} (omega arith) P in
    let z : c * (M * I) < c * (H * i) = mul-lt-mul_of_pos_left l D in
    lt_of_mul-lt-mul_right i (omega arith)

not_over : {a c A C : ℕ} → 0 < C → 0 < c → A ≤ (2 ^ 64 - 2 ^ 39) ^ 16 * C → WithinFactors near full 33 a c A C → a < halfway binary64 * c
not_over {a} {c} {A} {C} P D h w = over a c A C (near ^ 33) (full ^ 33) ((2 ^ 64 - 2 ^ 39) ^ 16) (halfway binary64) P D (lit< tt) w.above h

-- what is at least 2^-384 is in the normal range
under : (a c A C i I M U L : ℕ) → 0 < A → 0 < i → U * (M * I) ≤ L * i → A * c * i ≤ a * C * I → C ≤ A * M → U * c ≤ a * L
under a c A C i I M U L P D l h k =
    let x : C * (a * I) ≤ A * M * (a * I) = mul-le-mul_right (a * I) k in
    let y : c * i ≤ a * M * I = le_of_mul-le-mul_right {k = A} (omega arith) P in
    let v : c * i * U ≤ a * M * I * U = mul-le-mul_right U y in
    let z : a * (U * (M * I)) ≤ a * (L * i) = mul-le-mul_left a l in
    le_of_mul-le-mul_right {k = i} (omega arith) D

not_under : {a c A C : ℕ} → 0 < A → C ≤ A * 2 ^ 384 → WithinFactors near full 33 a c A C → 2 ^ 52 * c ≤ a * 2 ^ 1074
not_under {a} {c} {A} {C} P h w = under a c A C (near ^ 33) (full ^ 33) (2 ^ 384) (2 ^ 52) (2 ^ 1074) P (lit< tt) (lit≤ tt) w.below h

-- ---- a product and a reciprocal
-- a fraction between 2^-384 and (2^64 - 2^39)^16
pub record InRange (A C : ℕ) : Type 0 where
  pub top : 0 < A
  pub bottom : 0 < C
  pub at_most : A ≤ (2 ^ 64 - 2 ^ 39) ^ 16 * C
  pub at_least : C ≤ A * 2 ^ 384

pub times : {n m A C B D : ℕ} {x y : Float} → n + m ≤ 33 → InRange (A * B) (C * D) → Within n A C x → Within m B D y → Within (1 + (n + m)) (A * B) (C * D) (x ⊗ y)
unfolding mul
times {n} {m} {A} {C} {B} {D} {x} {y} l r v w =
    let near33 = looser 33 (lit≤ tt) l (product v.close w.close) in
    let positive = mul-pos (down_pos v.exponent) (down_pos w.exponent) in
    subst₂ (λ (s t : Float). Within (1 + (n + m)) (A * B) (C * D) (s ⊗ t)) (sym v.is) (sym w.is)
    (rounded_near (v.digits * up v.exponent * (w.digits * up w.exponent)) (down v.exponent * down w.exponent) positive
    (not_under r.top r.at_least near33)
    (not_over r.bottom positive r.at_most near33)
    (product v.close w.close))

-- what is near to a fraction above 0 is above 0
some : (v x y : ℕ) → 0 < x → x ≤ v * y → 0 < v
some zero x y h l = omega arith
some (suc v) x y h l = omega arith

positive : {n A C : ℕ} {x : Float} → 0 < A → (w : Within n A C x) → 0 < w.digits * up w.exponent
positive {n} {A} {C} h w =
    some (w.digits * up w.exponent) (A * down w.exponent * near ^ n) (C * full ^ n) (mul-pos (mul-pos h (down_pos w.exponent)) (one-le-pow n near (lit< tt)))
    (le_trans w.close.below (le_of_eq (mul_assoc (w.digits * up w.exponent) C (full ^ n))))

-- one over a value above 0 is the turned fraction, rounded
one_over : (m : ℕ) (e : ℤ) → 0 < m * up e → one ⊘ fin false m e ≡ round binary64 false (down e) (m * up e)
unfolding div
one_over zero e h = absurd (not-le_of_lt h (le_of_eq (zero-mul (up e))))
one_over (suc m) e h =
    sym (second (eqb (suc m) 0) (inf false) (round binary64 false (1 * down e) (suc m * up e * 1)) (eqb-suc-zero m))
    ∙ ap₂ (round binary64 false) (one-mul (down e)) (mul-one (suc m * up e))

-- the reciprocal x of what is near to A / C: in the normal range it is near to C / A, and else it is below 2^-1022
pub data Reciprocal (n A C : ℕ) (x : Float) : Type 0 where
  normal : Within (1 + n) C A x → Reciprocal n A C x
  small : (a c : ℕ) → 0 < a → 0 < c → WithinFactors near full n a c A C → c * 2 ^ 1074 < 2 ^ 52 * a → x ≡ round binary64 false c a → Reciprocal n A C x

pub reciprocal : {n A C : ℕ} {x : Float} → n ≤ 33 → InRange A C → Within n A C x → Reciprocal n A C (one ⊘ x)
reciprocal {n} {A} {C} {x} l r w = go (leb (2 ^ 52 * a) (c * 2 ^ 1074)) (leb→le (2 ^ 52 * a) (c * 2 ^ 1074)) (nleb→lt (2 ^ 52 * a) (c * 2 ^ 1074))
  where
    a : ℕ
    a = w.digits * up w.exponent

    c : ℕ
    c = down w.exponent

    above_0 : 0 < a
    above_0 = positive r.top w

    is : one ⊘ x ≡ round binary64 false c a
    is = ap (λ (y : Float). one ⊘ y) w.is ∙ one_over w.digits w.exponent above_0

    within_range : C ≤ (2 ^ 64 - 2 ^ 39) ^ 16 * A
    within_range = le_trans r.at_least (le_trans (le_of_eq (mul_comm A (2 ^ 384))) (mul-le-mul_right A (lit≤ tt)))

    go : (b : Bool) → (T b → 2 ^ 52 * a ≤ c * 2 ^ 1074) → (T (not b) → c * 2 ^ 1074 < 2 ^ 52 * a) → Reciprocal n A C (one ⊘ x)
    go true h k =
        normal (subst (Within (1 + n) C A) (sym is)
        (rounded_near c a above_0 (h tt) (not_over r.top above_0 within_range (looser 33 (lit≤ tt) l (turned w.close))) (turned w.close)))
    go false h k = small a c above_0 (down_pos w.exponent) w.close (k tt) is
