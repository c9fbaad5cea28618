-- How far one f64 operation is from the exact result, where nothing overflows. A sum or a difference is within a relative 2^-53 of the exact one,
-- subnormal results too (`add_near`, `sub_near`); a product within that and half of a unit of 2^-1074 (`mul_near`). A sum that an f64 holds is exact
-- (`add_exact`). Division stands once, in the route `whole`: `reciprocal` in answers/proofs/Whole/Within.antt. Assumes nothing.
use mathlib.Core.Path.{◌≡◌, refl, sym, ap, ap₂, ◌∙◌, subst}
use mathlib.Core.Logic.{◌⊎◌, inl, inr}
use mathlib.Core.Bool.{Bool, true, false, not}
use Prim.Native.Nat.{ℕ, zero, suc, ◌+◌, ◌-◌, ◌*◌, ◌^◌, ◌≤◌, ◌<◌}
use native.Mathlib.Nat.{le_trans, le_of_eq, lt_of_lt_of_le, lt_of_le_of_lt, le_of_mul-le-mul_right, mul-one, mul-le-mul_right, mul-pos}
use native.Mathlib.Omega.{arith}
use lib.Dec.{T, ltb, ltb→lt, nltb→le, lit<, lit≤}
use lib.Pow.{pow_pos}
use lib.Ieee.{Float, nan, inf, fin, binary64, unlike, round, neg, sub}
use lib.Ieee.Exact.{HasValue, round_exact}
use lib.Ieee.Fits.{round-fits}
use Rattle.floats.specs.Operations.{◌⊕◌, ◌⊖◌, ◌⊗◌}
use Rattle.floats.proofs.Laws.Overflow.{halfway, round_stays}
use Rattle.floats.proofs.Laws.Rounding.{Near, round_holds, relative_error, rounding_error}
use Rattle.floats.proofs.Laws.Units.{exponent, in_units, fits_signed}
use Rattle.floats.proofs.Laws.Sums.{above, under, Signed, Rounded}
use Rattle.bounds.proofs.Values.{per_one, per_one_pos, plus, less, mag, mag_of, one_side, Number, Units, by_value, sum_in_units, neg_plus, neg_less, neg_number, Along, product_in_units}

-- the largest f64, in units: as far as this nothing overflows
unfoldable pub limit : ℕ
limit = (2 ^ 53 - 1) * 2 ^ 2045

-- ---- one rounding of k units
-- x has the sign s, and its units are k but for a relative 2^-53
pub record Rounding (s : Bool) (k : ℕ) (x : Float) : Type 0 where
  pub count : ℕ
  pub units : Units s count x
  pub most : count * 2 ^ 53 ≤ k * 2 ^ 53 + k
  pub least : k * 2 ^ 53 ≤ count * 2 ^ 53 + k

-- w times as much
less_times_lem : (n k w : ℕ) → 0 < w → n * w * 2 ^ 53 ≤ k * w * 2 ^ 53 + k * w → n * 2 ^ 53 ≤ k * 2 ^ 53 + k
less_times_lem n k w W h =
    let g : n * 2 ^ 53 * w ≤ (k * 2 ^ 53 + k) * w = omega arith in
    le_of_mul-le-mul_right g W

more_times : (n k w : ℕ) → 0 < w → k * w * 2 ^ 53 ≤ n * w * 2 ^ 53 + k * w → k * 2 ^ 53 ≤ n * 2 ^ 53 + k
more_times n k w W h =
    let g : k * 2 ^ 53 * w ≤ (n * 2 ^ 53 + k) * w = omega arith in
    le_of_mul-le-mul_right g W

-- from 2^52 units up a relative 2^-53
normal : (s : Bool) (k : ℕ) → k ≤ limit → 2 ^ 52 ≤ k → Rounding s k (round binary64 s k per_one)
unfolding limit per_one
normal s k h g = go (relative_error binary64 s k (2 ^ 1074) (pow_pos 1074) (mul-le-mul_right (2 ^ 1074) g) (round_stays binary64 k (2 ^ 1074) (pow_pos 1074) (lt_of_le_of_lt h (lit< tt))))
  where
    go : Near binary64 s k (2 ^ 1074) (k * 2 ^ 1074) (round binary64 s k (2 ^ 1074)) → Rounding s k (round binary64 s k (2 ^ 1074))
    go n = record {
      count = n.count;
      units = by_value (round binary64 s k (2 ^ 1074)) s n.count (round-fits binary64 s k (2 ^ 1074)) n.value;
      most = less_times_lem n.count k (2 ^ 1074) (pow_pos 1074) n.above;
      least = more_times n.count k (2 ^ 1074) (pow_pos 1074) n.below;
    }

-- below it is exact
few : (s : Bool) (k : ℕ) → k < 2 ^ 52 → Rounding s k (round binary64 s k per_one)
unfolding per_one
few s k h = record {
  count = k;
  units = by_value (round binary64 s k (2 ^ 1074)) s k (round-fits binary64 s k (2 ^ 1074))
      (round_exact binary64 s k (2 ^ 1074) k 0 (pow_pos 1074) (omega arith) (lt_of_le_of_lt (le_of_eq (mul-one k)) (lt_of_lt_of_le h (lit≤ tt))) (ap (λ (z : ℕ). z * 2 ^ 1074) (sym (mul-one k))));
  most = omega arith;
  least = omega arith;
}

pub round_units : (s : Bool) (k : ℕ) → k ≤ limit → Rounding s k (round binary64 s k per_one)
round_units s k h = go (ltb k (2 ^ 52)) (ltb→lt k (2 ^ 52)) (nltb→le k (2 ^ 52))
  where
    go : (b : Bool) → (T b → k < 2 ^ 52) → (T (not b) → 2 ^ 52 ≤ k) → Rounding s k (round binary64 s k per_one)
    go true l g = few s k (l tt)
    go false l g = normal s k h (g tt)

-- ---- a sum
-- z is p - n but for d / 2^53
pub record Close (p n d : ℕ) (z : Float) : Type 0 where
  pub number : Number z
  pub most : (plus z + n) * 2 ^ 53 ≤ (less z + p) * 2 ^ 53 + d
  pub least : (less z + p) * 2 ^ 53 ≤ (plus z + n) * 2 ^ 53 + d

-- p - n is from -d to d
pub record Small (p n d : ℕ) : Type 0 where
  pub upper : p ≤ n + d
  pub lower : n ≤ p + d

-- k is p - n, and c is k but for a rounding
over_it : (k p n d c : ℕ) → k + n ≡ p → p ≤ n + d → c * 2 ^ 53 ≤ k * 2 ^ 53 + k → (c + n) * 2 ^ 53 ≤ (0 + p) * 2 ^ 53 + d
over_it k p n d c e b h = omega arith

under_it : (k p n d c : ℕ) → k + n ≡ p → p ≤ n + d → k * 2 ^ 53 ≤ c * 2 ^ 53 + k → (0 + p) * 2 ^ 53 ≤ (c + n) * 2 ^ 53 + d
under_it k p n d c e b h = omega arith

close : (s : Bool) (k p n d : ℕ) (z : Float) → Signed s k p n → Small p n d → Rounding s k z → Close p n d z
close false k p n d z e b r = record {
  number = r.units.number;
  most = rw (r.units.plus_is, r.units.less_is) (over_it k p n d r.count e b.upper r.most);
  least = rw (r.units.plus_is, r.units.less_is) (under_it k p n d r.count e b.upper r.least);
}
close true k p n d z e b r = record {
  number = r.units.number;
  most = rw (r.units.plus_is, r.units.less_is) (under_it k n p d r.count e b.lower r.least);
  least = rw (r.units.plus_is, r.units.less_is) (over_it k n p d r.count e b.lower r.most);
}

at_most : (k p n d : ℕ) → k + n ≡ p → p ≤ n + d → k ≤ d
at_most k p n d e h = omega arith

digits_small : (s : Bool) (k p n d : ℕ) → Signed s k p n → Small p n d → k ≤ d
digits_small false k p n d e b = at_most k p n d e b.upper
digits_small true k p n d e b = at_most k n p d e b.lower

rounded_close : {p n : ℕ} {z : Float} (d : ℕ) → Rounded binary64 p n per_one z → Small p n d → d ≤ limit → Close p n d z
rounded_close {p} {n} {z} d R b l =
    subst (Close p n d) (sym R.is)
    (close R.sign R.digits p n d (round binary64 R.sign R.digits per_one) R.exact b
    (round_units R.sign R.digits (le_trans (digits_small R.sign R.digits p n d R.exact b) l)))

-- x + y is from -d to d: the float sum is off by d / 2^53 at most
pub add_near : {x y : Float} (d : ℕ) → Number x → Number y → Small (plus x + plus y) (less x + less y) d → d ≤ limit → Close (plus x + plus y) (less x + less y) d (x ⊕ y)
add_near {x} {y} d p q b l = rounded_close d (sum_in_units x y p q) b l

-- the same for x - y
pub sub_near : {x y : Float} (d : ℕ) → Number x → Number y → Small (plus x + less y) (less x + plus y) d → d ≤ limit → Close (plus x + less y) (less x + plus y) d (x ⊖ y)
unfolding sub
sub_near {x} {y} d p q b l =
    subst (λ (k : ℕ). Close (plus x + k) (less x + plus y) d (x ⊕ neg y)) (neg_plus y)
    (subst (λ (k : ℕ). Close (plus x + plus (neg y)) (less x + k) d (x ⊕ neg y)) (neg_less y)
    (add_near d p (neg_number q)
    (subst (λ (k : ℕ). Small (plus x + k) (less x + less (neg y)) d) (sym (neg_plus y)) (subst (λ (k : ℕ). Small (plus x + less y) (less x + k) d) (sym (neg_less y)) b)) l))

-- ---- a sum that an f64 holds
-- z is the same number as v
pub record Same (z v : Float) : Type 0 where
  pub number : Number z
  pub plus_same : plus z ≡ plus v
  pub less_same : less z ≡ less v

-- the size of v, with the sign s, rounds to itself
pub round_held : (s : Bool) (v : Float) → Number v → Units s (mag v) (round binary64 s (mag v) per_one)
unfolding per_one
round_held s nan h = absurd h.plain
round_held s (inf t) h = absurd h.plain
round_held s (fin t m e) h =
    subst (λ (k : ℕ). Units s k (round binary64 s k (2 ^ 1074))) (sym (mag_of t (m * 2 ^ exponent 1074 e)))
    (let fit = fits_signed binary64 t s m e h.held in
    let value : HasValue (fin s m e) s (m * 2 ^ exponent 1074 e) (2 ^ 1074) = (refl, in_units binary64 s m e fit) in
    subst (Units s (m * 2 ^ exponent 1074 e)) (sym (round_holds binary64 (fin s m e) s (m * 2 ^ exponent 1074 e) (2 ^ 1074) (pow_pos 1074) fit value))
    (by_value (fin s m e) s (m * 2 ^ exponent 1074 e) fit value))

-- p - n with the digits k and the sign s is a - b, of which one is 0
same_digits : (s : Bool) (k p n a b : ℕ) → Signed s k p n → p + b ≡ n + a → (a ≡ 0) ⊎ (b ≡ 0) → (k ≡ a + b) × (above s k ≡ a) × (under s k ≡ b)
same_digits false k p n a b e h (inl z) = (omega (arith, e), omega (arith, e), omega (arith, e))
same_digits false k p n a b e h (inr z) = (omega (arith, e), omega (arith, e), omega (arith, e))
same_digits true k p n a b e h (inl z) = (omega (arith, e), omega (arith, e), omega (arith, e))
same_digits true k p n a b e h (inr z) = (omega (arith, e), omega (arith, e), omega (arith, e))

rounded_same : {p n : ℕ} {z : Float} (v : Float) → Rounded binary64 p n per_one z → Number v → p + less v ≡ n + plus v → Same z v
rounded_same {p} {n} {z} v R h e =
    let d = same_digits R.sign R.digits p n (plus v) (less v) R.exact e (one_side v) in
    let u : Units R.sign R.digits z =
    subst (Units R.sign R.digits) (sym R.is) (subst (λ (k : ℕ). Units R.sign k (round binary64 R.sign k per_one)) (sym d.0) (round_held R.sign v h)) in
    record { number = u.number; plus_same = u.plus_is ∙ d.1; less_same = u.less_is ∙ d.2 }

-- x + y = v
pub add_exact : {x y v : Float} → Number x → Number y → Number v → plus x + plus y + less v ≡ less x + less y + plus v → Same (x ⊕ y) v
add_exact {x} {y} {v} p q h e = rounded_same v (sum_in_units x y p q) h e

-- x - y = v
pub sub_exact : {x y v : Float} → Number x → Number y → Number v → plus x + less y + less v ≡ less x + plus y + plus v → Same (x ⊖ y) v
unfolding sub
sub_exact {x} {y} {v} p q h e =
    add_exact p (neg_number q) h (ap (λ (a : ℕ). plus x + a + less v) (neg_plus y) ∙ e ∙ sym (ap (λ (a : ℕ). less x + a + plus v) (neg_less y)))

-- ---- a product
-- z is |x|×|y| / 2^1074 in size but for a relative 2^-53 and half a unit, with the sign that the signs make
pub record Multiplied (x y z : Float) : Type 0 where
  pub number : Number z
  pub most : mag z * per_one * 2 ^ 53 ≤ mag x * mag y * 2 ^ 53 + mag x * mag y + per_one * 2 ^ 52
  pub least : mag x * mag y * 2 ^ 53 ≤ mag z * per_one * 2 ^ 53 + mag x * mag y + per_one * 2 ^ 52
  pub along : (u v : Bool) → Along u x → Along v y → Along (unlike u v) z

most_times : (n k w : ℕ) → 0 < w → n * (w * w) * 2 ^ 53 ≤ k * w * 2 ^ 53 + (k * w + w * w * 2 ^ 52) → n * w * 2 ^ 53 ≤ k * 2 ^ 53 + k + w * 2 ^ 52
most_times n k w W h =
    let g : n * w * 2 ^ 53 * w ≤ (k * 2 ^ 53 + k + w * 2 ^ 52) * w = omega arith in
    le_of_mul-le-mul_right g W

least_times : (n k w : ℕ) → 0 < w → k * w * 2 ^ 53 ≤ n * (w * w) * 2 ^ 53 + (k * w + w * w * 2 ^ 52) → k * 2 ^ 53 ≤ n * w * 2 ^ 53 + k + w * 2 ^ 52
least_times n k w W h =
    let g : k * 2 ^ 53 * w ≤ (n * w * 2 ^ 53 + k + w * 2 ^ 52) * w = omega arith in
    le_of_mul-le-mul_right g W

-- of less than a half of a unit nothing is left
pub nothing : (n k w : ℕ) → 0 < w → k ≡ 0 → n * w * 2 ^ 53 ≤ k * 2 ^ 53 + k + w * 2 ^ 52 → n ≡ 0
nothing zero k w W e h = refl
nothing (suc n) k w W e h = absurd (no (n * w) w W (omega arith))
  where
    no : (a w : ℕ) → 0 < w → (a + w) * 2 ^ 53 ≤ w * 2 ^ 52 → ⊥
    no a w W h = omega arith

along_sign : (s : Bool) (k : ℕ) (z : Float) → Units s k z → Along s z
along_sign false k z u = ap (λ (n : ℕ). 0 + n) u.less_is
along_sign true k z u = ap (λ (n : ℕ). n + 0) u.plus_is

along_zero : (s t : Bool) (z : Float) → Units s 0 z → Along t z
along_zero false false z u = ap (λ (n : ℕ). 0 + n) u.less_is
along_zero false true z u = ap (λ (n : ℕ). n + 0) u.plus_is
along_zero true false z u = ap (λ (n : ℕ). 0 + n) u.less_is
along_zero true true z u = ap (λ (n : ℕ). n + 0) u.plus_is

pub units_mag : {s : Bool} {k : ℕ} {z : Float} → Units s k z → mag z ≡ k
units_mag {s} {k} {z} u = ap₂ ◌+◌ u.plus_is u.less_is ∙ mag_of s k

multiplied : (x y z : Float) (s : Bool) (n : ℕ) → Units s n z
    → n * per_one * 2 ^ 53 ≤ mag x * mag y * 2 ^ 53 + mag x * mag y + per_one * 2 ^ 52 → mag x * mag y * 2 ^ 53 ≤ n * per_one * 2 ^ 53 + mag x * mag y + per_one * 2 ^ 52
    → ((u v : Bool) → Along u x → Along v y → (s ≡ unlike u v) ⊎ (mag x * mag y ≡ 0)) → Multiplied x y z
multiplied x y z s n u g h t = record {
  number = u.number;
  most = subst (λ (k : ℕ). k * per_one * 2 ^ 53 ≤ mag x * mag y * 2 ^ 53 + mag x * mag y + per_one * 2 ^ 52) (sym (units_mag u)) g;
  least = subst (λ (k : ℕ). mag x * mag y * 2 ^ 53 ≤ k * per_one * 2 ^ 53 + mag x * mag y + per_one * 2 ^ 52) (sym (units_mag u)) h;
  along = λ a b p q. go a b (t a b p q);
}
  where
    go : (a b : Bool) → (s ≡ unlike a b) ⊎ (mag x * mag y ≡ 0) → Along (unlike a b) z
    go a b (inl e) = subst (λ (r : Bool). Along r z) e (along_sign s n z u)
    go a b (inr e) = along_zero s (unlike a b) z (subst (λ (k : ℕ). Units s k z) (nothing n (mag x * mag y) per_one per_one_pos e g) u)

under_halfway : (k : ℕ) → k ≤ limit * per_one → k < halfway binary64 * (per_one * per_one)
unfolding limit per_one
under_halfway k h = lt_of_le_of_lt h (lit< tt)

pub mul_near : {x y : Float} → Number x → Number y → mag x * mag y ≤ limit * per_one → Multiplied x y (x ⊗ y)
unfolding per_one
mul_near {x} {y} p q l = subst (Multiplied x y) (sym (product_in_units x y p q).is) (go (product_in_units x y p q).sign (product_in_units x y p q).toward)
  where
    K : ℕ
    K = mag x * mag y

    go : (s : Bool) → ((u v : Bool) → Along u x → Along v y → (s ≡ unlike u v) ⊎ (K ≡ 0)) → Multiplied x y (round binary64 s K (per_one * per_one))
    go s t = of (rounding_error binary64 s K (per_one * per_one) (mul-pos per_one_pos per_one_pos) (round_stays binary64 K (per_one * per_one) (mul-pos per_one_pos per_one_pos) (under_halfway K l)))
      where
        of : Near binary64 s K (per_one * per_one) (K * 2 ^ 1074 + per_one * per_one * 2 ^ 52) (round binary64 s K (per_one * per_one)) → Multiplied x y (round binary64 s K (per_one * per_one))
        of n = multiplied x y (round binary64 s K (per_one * per_one)) s n.count (by_value _ s n.count (round-fits binary64 s K (per_one * per_one)) n.value)
            (most_times n.count K per_one per_one_pos n.above) (least_times n.count K per_one per_one_pos n.below) t
