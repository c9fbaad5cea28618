-- A finite f64 as a difference of two whole numbers, in units of 2^-1074: what it has above zero, `plus`, less what it has below, `less`. One of the two
-- is 0. What an operation gives, in these units: a sum is the exact sum, rounded (`sum_in_units`), and a product the exact product,
-- rounded (`product_in_units`). Assumes nothing.
use mathlib.Core.Path.{◌≡◌, refl, sym, ap, ap₂, ◌∙◌}
use mathlib.Core.Logic.{◌⊎◌, inl, inr}
use mathlib.Core.Bool.{Bool, true, false}
use Prim.Native.Nat.{ℕ, ◌+◌, ◌-◌, ◌*◌, ◌^◌, ◌≤◌, ◌<◌}
use native.Mathlib.Nat.{le_of_mul-le-mul_right, eq_of_mul-eq-mul_right, mul_comm, mul_assoc, mul_right_comm, mul-mul-mul_comm, add-mul, zero-mul, mul-zero, mul-pos, add-zero, zero-add}
use native.Mathlib.Omega.{arith}
use lib.Dec.{T}
use lib.Pow.{pow_pos}
use lib.IntN.{ℤ}
use lib.Ieee.{Float, nan, inf, fin, binary64, up, down, unlike, round, neg, mul, fits}
use lib.Ieee.Exact.{HasValue}
use lib.Ieee.Fits.{neg-fits, down_pos}
use lib.Ieee.Scale.{finite, round_same}
use Rattle.floats.specs.Operations.{◌⊕◌, ◌⊗◌}
use Rattle.floats.proofs.Laws.Units.{exponent, in_units}
use Rattle.floats.proofs.Laws.Sums.{above, under, Signed, Rounded, add_rounded}

-- the units in 1
unfoldable pub per_one : ℕ
per_one = 2 ^ 1074

pub per_one_pos : 0 < per_one
unfolding per_one
per_one_pos = pow_pos 1074

-- ---- the two parts
abbrev pub plus : Float → ℕ
plus nan = 0
plus (inf s) = 0
plus (fin s m e) = above s (m * 2 ^ exponent 1074 e)

abbrev pub less : Float → ℕ
less nan = 0
less (inf s) = 0
less (fin s m e) = under s (m * 2 ^ exponent 1074 e)

-- the size
abbrev pub mag : Float → ℕ
mag x = plus x + less x

-- an f64 that is finite
pub record Number (x : Float) : Type 0 where
  pub held : T (fits binary64 x)
  pub plain : T (finite x)

-- what holds of any two finite values that fit holds of any two such f64s
pub of_numbers : (P : Float → Float → Type 0)
    → ((s : Bool) (m : ℕ) (e : ℤ) (t : Bool) (n : ℕ) (d : ℤ) → T (fits binary64 (fin s m e)) → T (fits binary64 (fin t n d)) → P (fin s m e) (fin t n d)) → (x y : Float) → Number x → Number y → P x y
of_numbers P finite nan y p q = absurd p.plain
of_numbers P finite (inf s) y p q = absurd p.plain
of_numbers P finite (fin s m e) nan p q = absurd q.plain
of_numbers P finite (fin s m e) (inf t) p q = absurd q.plain
of_numbers P finite (fin s m e) (fin t n d) p q = finite s m e t n d p.held q.held

-- the size of a finite value, whatever its sign
pub mag_of : (s : Bool) (k : ℕ) → above s k + under s k ≡ k
mag_of false k = add-zero k
mag_of true k = zero-add k

-- one of the two parts is 0
pub one_side : (x : Float) → (plus x ≡ 0) ⊎ (less x ≡ 0)
one_side nan = inl refl
one_side (inf s) = inl refl
one_side (fin true m e) = inl refl
one_side (fin false m e) = inr refl

-- the sign
pub neg_plus : (x : Float) → plus (neg x) ≡ less x
unfolding neg
neg_plus nan = refl
neg_plus (inf s) = refl
neg_plus (fin true m e) = refl
neg_plus (fin false m e) = refl

pub neg_less : (x : Float) → less (neg x) ≡ plus x
unfolding neg
neg_less nan = refl
neg_less (inf s) = refl
neg_less (fin true m e) = refl
neg_less (fin false m e) = refl

neg_finite : (x : Float) → T (finite x) → T (finite (neg x))
unfolding neg
neg_finite nan t = t
neg_finite (inf s) t = t
neg_finite (fin s m e) t = tt

pub neg_number : {x : Float} → Number x → Number (neg x)
neg_number {x} n = record { held = neg-fits binary64 x n.held; plain = neg_finite x n.plain }

-- ---- x has the sign s and k units
pub record Units (s : Bool) (k : ℕ) (x : Float) : Type 0 where
  pub number : Number x
  pub plus_is : plus x ≡ above s k
  pub less_is : less x ≡ under s k

pub by_value : (z : Float) (s : Bool) (k : ℕ) → T (fits binary64 z) → HasValue z s k per_one → Units s k z
unfolding per_one
by_value nan s k t v = absurd v
by_value (inf u) s k t v = absurd v
by_value (fin u m e) s k t v =
    let same : m * 2 ^ exponent 1074 e ≡ k = eq_of_mul-eq-mul_right (down e) (down_pos e) (m * 2 ^ exponent 1074 e) k (sym (in_units binary64 u m e t) ∙ v.1) in
    record { number = record { held = t; plain = tt }; plus_is = ap₂ above v.0 same; less_is = ap₂ under v.0 same }

-- ---- a sum
pub cross : (s : Bool) (a u i w : ℕ) → a * w ≡ u * i → above s a * w ≡ above s u * i
cross false a u i w e = e
cross true a u i w e = zero-mul w ∙ sym (zero-mul i)

pub cross_under : (s : Bool) (a u i w : ℕ) → a * w ≡ u * i → under s a * w ≡ under s u * i
cross_under true a u i w e = e
cross_under false a u i w e = zero-mul w ∙ sym (zero-mul i)

-- a / i and b / j are u and v units
pub joined : (a b i j u v w : ℕ) → a * w ≡ u * i → b * w ≡ v * j → (a * j + b * i) * w ≡ (u + v) * (i * j)
joined a b i j u v w e d =
    add-mul (a * j) (b * i) w
    ∙ ap₂ ◌+◌ (mul_right_comm a j w ∙ ap (λ (z : ℕ). z * j) e ∙ mul_assoc u i j) (mul_right_comm b i w ∙ ap (λ (z : ℕ). z * i) d ∙ mul_assoc v j i ∙ ap (λ (z : ℕ). v * z) (mul_comm j i))
    ∙ sym (add-mul u v (i * j))

-- k / c with the sign s is p / c - n / c, and these are q and r units: then k / c is the difference, as a whole number of units
difference : (k p n q r c w : ℕ) → 0 < c → k + n ≡ p → p * w ≡ q * c → n * w ≡ r * c → (k * w ≡ (q - r) * c) × (q - r + r ≡ q)
difference k p n q r c w C e P N =
    let sum : k * w + r * c ≡ q * c = ap (λ (z : ℕ). k * w + z) (sym N) ∙ sym (add-mul k n w) ∙ ap (λ (z : ℕ). z * w) e ∙ P in
    let order : r ≤ q = le_of_mul-le-mul_right (omega arith) C in
    let whole : q - r + r ≡ q = omega arith in
    (omega (arith, sym (add-mul (q - r) r c) ∙ ap (λ (z : ℕ). z * c) whole), whole)

in_whole_units : {p n c q r w : ℕ} {x : Float} → 0 < c → 0 < w → p * w ≡ q * c → n * w ≡ r * c → Rounded binary64 p n c x → Rounded binary64 q r w x
in_whole_units {p} {n} {c} {q} {r} {w} {x} C W P N R = go R.sign R.exact R.is
  where
    go : (s : Bool) → Signed s R.digits p n → x ≡ round binary64 s R.digits c → Rounded binary64 q r w x
    go false e i =
        let d = difference R.digits p n q r c w C e P N in
        record { sign = false; digits = q - r; exact = d.1; is = i ∙ round_same binary64 false R.digits c (q - r) w C W d.0 }
    go true e i =
        let d = difference R.digits n p r q c w C e N P in
        record { sign = true; digits = r - q; exact = d.1; is = i ∙ round_same binary64 true R.digits c (r - q) w C W d.0 }

finite_sum : (s : Bool) (m : ℕ) (e : ℤ) (t : Bool) (n : ℕ) (d : ℤ) → T (fits binary64 (fin s m e)) → T (fits binary64 (fin t n d))
    → Rounded binary64 (plus (fin s m e) + plus (fin t n d)) (less (fin s m e) + less (fin t n d)) (2 ^ 1074) (fin s m e ⊕ fin t n d)
finite_sum s m e t n d f g =
    let X = m * 2 ^ exponent 1074 e in
    let Y = n * 2 ^ exponent 1074 d in
    let a = in_units binary64 s m e f in
    let b = in_units binary64 t n d g in
    in_whole_units (mul-pos (down_pos e) (down_pos d)) (pow_pos 1074)
    (joined (above s (m * up e)) (above t (n * up d)) (down e) (down d) (above s X) (above t Y) (2 ^ 1074) (cross s (m * up e) X (down e) (2 ^ 1074) a) (cross t (n * up d) Y (down d) (2 ^ 1074) b))
    (joined (under s (m * up e)) (under t (n * up d)) (down e) (down d) (under s X) (under t Y) (2 ^ 1074) (cross_under s (m * up e) X (down e) (2 ^ 1074) a) (cross_under t (n * up d) Y (down d) (2 ^ 1074) b))
    (add_rounded binary64 s m e t n d)

-- the exact sum, as a whole number of units, rounded
pub sum_in_units : (x y : Float) → Number x → Number y → Rounded binary64 (plus x + plus y) (less x + less y) per_one (x ⊕ y)
unfolding per_one
sum_in_units = of_numbers (λ (x y : Float). Rounded binary64 (plus x + plus y) (less x + less y) (2 ^ 1074) (x ⊕ y)) finite_sum

-- ---- a product
-- x is not against the sign s
abbrev pub Along : Bool → Float → Type 0
Along s x = under s (plus x) + above s (less x) ≡ 0

-- x⊗y is |x|×|y| / 2^1074 units, rounded, with the sign that the two signs make
pub record Product (x y : Float) : Type 0 where
  pub sign : Bool
  pub is : x ⊗ y ≡ round binary64 sign (mag x * mag y) (per_one * per_one)
  pub toward : (u v : Bool) → Along u x → Along v y → (sign ≡ unlike u v) ⊎ (mag x * mag y ≡ 0)

-- a value with the sign s that is not against the sign u: they are the same, or it is 0
same_sign : (s u : Bool) (k : ℕ) → under u (above s k) + above u (under s k) ≡ 0 → (s ≡ u) ⊎ (above s k + under s k ≡ 0)
same_sign false false k h = inl refl
same_sign true true k h = inl refl
same_sign false true k h = inr h
same_sign true false k h = inr h

signs : (s t u v : Bool) (a b : ℕ) → (s ≡ u) ⊎ (a ≡ 0) → (t ≡ v) ⊎ (b ≡ 0) → (unlike s t ≡ unlike u v) ⊎ (a * b ≡ 0)
signs s t u v a b (inl e) (inl d) = inl (ap₂ unlike e d)
signs s t u v a b (inl e) (inr d) = inr (ap (λ (z : ℕ). a * z) d ∙ mul-zero a)
signs s t u v a b (inr e) d = inr (ap (λ (z : ℕ). z * b) e ∙ zero-mul b)

finite_product : (s : Bool) (m : ℕ) (e : ℤ) (t : Bool) (n : ℕ) (d : ℤ) → T (fits binary64 (fin s m e)) → T (fits binary64 (fin t n d)) → Product (fin s m e) (fin t n d)
unfolding mul per_one
finite_product s m e t n d f g =
    let X = m * 2 ^ exponent 1074 e in
    let Y = n * 2 ^ exponent 1074 d in
    record {
      sign = unlike s t;
      is = round_same binary64 (unlike s t) (m * up e * (n * up d)) (down e * down d) (X * Y) (2 ^ 1074 * 2 ^ 1074) (mul-pos (down_pos e) (down_pos d)) (mul-pos (pow_pos 1074) (pow_pos 1074))
          (mul-mul-mul_comm (m * up e) (n * up d) (2 ^ 1074) (2 ^ 1074) ∙ ap₂ ◌*◌ (in_units binary64 s m e f) (in_units binary64 t n d g) ∙ mul-mul-mul_comm X (down e) Y (down d))
          ∙ ap₂ (λ (i j : ℕ). round binary64 (unlike s t) (i * j) (2 ^ 1074 * 2 ^ 1074)) (sym (mag_of s X)) (sym (mag_of t Y));
      toward = λ u v a b. signs s t u v (above s X + under s X) (above t Y + under t Y) (same_sign s u X a) (same_sign t v Y b);
    }

pub product_in_units : (x y : Float) → Number x → Number y → Product x y
product_in_units = of_numbers Product finite_product
