-- Dekker's product, from above, where nothing overflows: the lo of `from_exact_mult` is at most 2^-51 of the product and four units of 2^-1074 (`dekker_near`), and in full little more than 2^-52 of it and
-- two and a half units (its `lo_near`). Each of its steps is held against the exact sum of the products of the parts, with its sign; the four of them make the product of a and b but for 2^-76, so that what
-- is left is the two roundings of the largest products. That lo is the error exactly is not claimed here. Assumes nothing.
use mathlib.Core.Path.{◌≡◌, refl, sym, ap, ap₂, ◌∙◌, subst}
use mathlib.Core.Logic.{◌⊎◌, inl, inr}
use mathlib.Core.Bool.{Bool, true, false, not}
use Prim.Native.Nat.{ℕ, ◌+◌, ◌-◌, ◌*◌, ◌^◌, ◌≤◌, ◌<◌}
use native.Mathlib.Nat.{le_refl, le_trans, le_of_eq, le_of_mul-le-mul_right, mul-le-mul, mul_comm, mul-le-mul_right, add-le-add, add_assoc, add_comm, add-zero, zero-add, zero-mul, one-mul}
use native.Mathlib.Omega.{arith}
use lib.Dec.{T, leb, leb→le, nleb→lt, lit≤, lit<}
use lib.Ieee.{Float, unlike}
use Rattle.floats.specs.Operations.{◌⊕◌, ◌⊖◌, ◌⊗◌}
use Rattle.double_double.specs.DoubleDouble.{split, from_exact_mult}
use Rattle.floats.proofs.Laws.Sums.{above, under}
use Rattle.bounds.proofs.Values.{per_one, per_one_pos, plus, less, mag, one_side, Number, Along}
use Rattle.bounds.proofs.Operation.{limit, Small, Multiplied, add_near, sub_near, mul_near}
use Rattle.bounds.proofs.Sums.{close_mag, sum_small, add_mag}
use Rattle.bounds.proofs.Split.{Halves, split_near}

-- ---- the parts of a factor have its sign
-- some sign that x is along
pub direction : (x : Float) → Along true x ⊎ Along false x
direction x = go (plus x) (less x) (one_side x)
  where
    go : (p n : ℕ) → (p ≡ 0) ⊎ (n ≡ 0) → (p + 0 ≡ 0) ⊎ (0 + n ≡ 0)
    go p n (inl e) = inl (omega arith)
    go p n (inr e) = inr (omega arith)

-- hi is along the sign of a, and within 2^-25 of it in size
record Part (s : Bool) (a h : Float) : Type 0 where
  along : Along s h
  most : mag h * 2 ^ 25 ≤ mag a * 2 ^ 25 + mag a
  least : mag a * 2 ^ 25 ≤ mag h * 2 ^ 25 + mag a

clear_part : (p n q m : ℕ) → (q ≡ 0) ⊎ (m ≡ 0) → 0 + n ≡ 0 → (q + n) * 2 ^ 25 ≤ (m + p) * 2 ^ 25 + (p + n) → (m + p) * 2 ^ 25 ≤ (q + n) * 2 ^ 25 + (p + n)
    → (0 + m ≡ 0) × ((q + m) * 2 ^ 25 ≤ (p + n) * 2 ^ 25 + (p + n)) × ((p + n) * 2 ^ 25 ≤ (q + m) * 2 ^ 25 + (p + n))
clear_part p n q m (inl e) z g h = (omega arith, omega arith, omega arith)
clear_part p n q m (inr e) z g h = (omega arith, omega arith, omega arith)

set_part : (p n q m : ℕ) → (q ≡ 0) ⊎ (m ≡ 0) → p + 0 ≡ 0 → (q + n) * 2 ^ 25 ≤ (m + p) * 2 ^ 25 + (p + n) → (m + p) * 2 ^ 25 ≤ (q + n) * 2 ^ 25 + (p + n)
    → (q + 0 ≡ 0) × ((q + m) * 2 ^ 25 ≤ (p + n) * 2 ^ 25 + (p + n)) × ((p + n) * 2 ^ 25 ≤ (q + m) * 2 ^ 25 + (p + n))
set_part p n q m (inl e) z g h = (omega arith, omega arith, omega arith)
set_part p n q m (inr e) z g h = (omega arith, omega arith, omega arith)

part : (s : Bool) (a : Float) → Along s a → Halves a → Part s a (split a).hi
part false a z h =
    let r = clear_part (plus a) (less a) (plus (split a).hi) (less (split a).hi) (one_side (split a).hi) z h.hi_most h.hi_least in
    record { along = r.0; most = r.1; least = r.2 }
part true a z h =
    let r = set_part (plus a) (less a) (plus (split a).hi) (less (split a).hi) (one_side (split a).hi) z h.hi_most h.hi_least in
    record { along = r.0; most = r.1; least = r.2 }

-- ---- two values along the same sign: their difference is that of their sizes
abbrev gap : ℕ → ℕ → ℕ
gap x y = x - y + (y - x)

along_small : (u : Bool) (x y : Float) → Along u x → Along u y → Small (plus x + less y) (less x + plus y) (gap (mag x) (mag y))
along_small false x y a b = go (plus x) (less x) (plus y) (less y) a b
  where
    go : (p n q m : ℕ) → 0 + n ≡ 0 → 0 + m ≡ 0 → Small (p + m) (n + q) (p + n - (q + m) + (q + m - (p + n)))
    go p n q m a b = record { upper = omega arith; lower = omega arith }
along_small true x y a b = go (plus x) (less x) (plus y) (less y) a b
  where
    go : (p n q m : ℕ) → p + 0 ≡ 0 → q + 0 ≡ 0 → Small (p + m) (n + q) (p + n - (q + m) + (q + m - (p + n)))
    go p n q m a b = record { upper = omega arith; lower = omega arith }

-- ---- sizes of products of the parts, with M = |a|×|b|
-- two hi: within 65 × 2^-30 of M
both_hi : (A B x y : ℕ) → x * 2 ^ 25 ≤ A * 2 ^ 25 + A → y * 2 ^ 25 ≤ B * 2 ^ 25 + B → x * y * 2 ^ 30 ≤ A * B * 2 ^ 30 + 65 * (A * B)
both_hi A B x y g h = omega (arith, le_trans (le_of_eq (left x y)) (le_trans (mul-le-mul g h) (le_of_eq (right A B))))
  where
    left : (x y : ℕ) → x * y * 2 ^ 50 ≡ x * 2 ^ 25 * (y * 2 ^ 25)
    left x y = omega arith

    right : (A B : ℕ) → (A * 2 ^ 25 + A) * (B * 2 ^ 25 + B) ≡ A * B * 1125899973951489
    right A B = omega arith

both_hi_least : (A B x y : ℕ) → A * 2 ^ 25 ≤ x * 2 ^ 25 + A → B * 2 ^ 25 ≤ y * 2 ^ 25 + B → A * B * 2 ^ 30 ≤ x * y * 2 ^ 30 + 65 * (A * B)
both_hi_least A B x y g h = omega (arith, le_trans (le_of_eq (left A B)) (le_trans (mul-le-mul (less A x g) (less B y h)) (le_of_eq (right x y))))
  where
    less : (A x : ℕ) → A * 2 ^ 25 ≤ x * 2 ^ 25 + A → A * 33554431 ≤ x * 2 ^ 25
    less A x g = omega arith

    left : (A B : ℕ) → A * B * 1125899839733761 ≡ A * 33554431 * (B * 33554431)
    left A B = omega arith

    right : (x y : ℕ) → x * 2 ^ 25 * (y * 2 ^ 25) ≡ x * y * 2 ^ 50
    right x y = omega arith

-- a hi and a lo, and two lo
hi_lo : (A B x y : ℕ) → x * 2 ^ 25 ≤ A * 2 ^ 25 + A → y * 2 ^ 25 ≤ B → x * y * 2 ^ 30 ≤ 33 * (A * B)
hi_lo A B x y g h = omega (arith, le_trans (le_of_eq (left x y)) (le_trans (mul-le-mul g h) (le_of_eq (right A B))))
  where
    left : (x y : ℕ) → x * y * 2 ^ 50 ≡ x * 2 ^ 25 * (y * 2 ^ 25)
    left x y = omega arith

    right : (A B : ℕ) → (A * 2 ^ 25 + A) * B ≡ A * B * 33554433
    right A B = omega arith

lo_hi : (A B x y : ℕ) → x * 2 ^ 25 ≤ A → y * 2 ^ 25 ≤ B * 2 ^ 25 + B → x * y * 2 ^ 30 ≤ 33 * (A * B)
lo_hi A B x y g h = le_trans (le_of_eq (ap (λ (z : ℕ). z * 2 ^ 30) (mul_comm x y))) (le_trans (hi_lo B A y x h g) (le_of_eq (ap (λ (z : ℕ). 33 * z) (mul_comm B A))))

both_lo : (A B x y : ℕ) → x * 2 ^ 25 ≤ A → y * 2 ^ 25 ≤ B → x * y * 2 ^ 30 ≤ A * B
both_lo A B x y g h = omega (arith, le_trans (le_of_eq (left x y)) (mul-le-mul g h))
  where
    left : (x y : ℕ) → x * y * 2 ^ 50 ≡ x * 2 ^ 25 * (y * 2 ^ 25)
    left x y = omega arith

-- ---- a product with its sign
-- what is along the sign u
along_parts : (u : Bool) (x : Float) → Along u x → (plus x ≡ above u (mag x)) × (less x ≡ under u (mag x))
along_parts false x h = go (plus x) (less x) h
  where
    go : (p n : ℕ) → 0 + n ≡ 0 → (p ≡ p + n) × (n ≡ 0)
    go p n h = (omega arith, omega arith)
along_parts true x h = go (plus x) (less x) h
  where
    go : (p n : ℕ) → p + 0 ≡ 0 → (p ≡ 0) × (n ≡ p + n)
    go p n h = (omega arith, omega arith)

-- z × w is p - n but for e / 2^53
pub record Off (p n e w : ℕ) (z : Float) : Type 0 where
  pub most : (plus z * w + n) * 2 ^ 53 ≤ (less z * w + p) * 2 ^ 53 + e
  pub least : (less z * w + p) * 2 ^ 53 ≤ (plus z * w + n) * 2 ^ 53 + e

abbrev pub plus_times : Float → Float → ℕ
plus_times x y = plus x * plus y + less x * less y

abbrev pub less_times : Float → Float → ℕ
less_times x y = plus x * less y + less x * plus y

off_signs : (u v : Bool) (X Y Z w e : ℕ) → Z * w * 2 ^ 53 ≤ X * Y * 2 ^ 53 + e → X * Y * 2 ^ 53 ≤ Z * w * 2 ^ 53 + e
    → ((above (unlike u v) Z * w + (above u X * under v Y + under u X * above v Y)) * 2 ^ 53 ≤ (under (unlike u v) Z * w + (above u X * above v Y + under u X * under v Y)) * 2 ^ 53 + e)
    × ((under (unlike u v) Z * w + (above u X * above v Y + under u X * under v Y)) * 2 ^ 53 ≤ (above (unlike u v) Z * w + (above u X * under v Y + under u X * above v Y)) * 2 ^ 53 + e)
off_signs false false X Y Z w e g h = (omega arith, omega arith)
off_signs false true X Y Z w e g h = (omega arith, omega arith)
off_signs true false X Y Z w e g h = (omega arith, omega arith)
off_signs true true X Y Z w e g h = (omega arith, omega arith)

-- the two inequalities, over the six parts
abbrev OffAt : ℕ → ℕ → ℕ → ℕ → ℕ → ℕ → ℕ → ℕ → Type 0
OffAt px nx py ny pz nz w e = ((pz * w + (px * ny + nx * py)) * 2 ^ 53 ≤ (nz * w + (px * py + nx * ny)) * 2 ^ 53 + e) × ((nz * w + (px * py + nx * ny)) * 2 ^ 53 ≤ (pz * w + (px * ny + nx * py)) * 2 ^ 53 + e)

parts_at : (px nx py ny pz nz px' nx' py' ny' pz' nz' w e : ℕ) → px ≡ px' → nx ≡ nx' → py ≡ py' → ny ≡ ny' → pz ≡ pz' → nz ≡ nz' → OffAt px' nx' py' ny' pz' nz' w e → OffAt px nx py ny pz nz w e
parts_at px nx py ny pz nz px' nx' py' ny' pz' nz' w e a b c d f g h =
    subst (λ (k : ℕ). OffAt k nx py ny pz nz w e) (sym a)
    (subst (λ (k : ℕ). OffAt px' k py ny pz nz w e) (sym b)
    (subst (λ (k : ℕ). OffAt px' nx' k ny pz nz w e) (sym c)
    (subst (λ (k : ℕ). OffAt px' nx' py' k pz nz w e) (sym d)
    (subst (λ (k : ℕ). OffAt px' nx' py' ny' k nz w e) (sym f)
    (subst (λ (k : ℕ). OffAt px' nx' py' ny' pz' k w e) (sym g) h)))))

off_along : (u v : Bool) (x y z : Float) → Along u x → Along v y → Multiplied x y z → Off (plus_times x y) (less_times x y) (mag x * mag y + per_one * 2 ^ 52) per_one z
off_along u v x y z a b m =
    let X = along_parts u x a in
    let Y = along_parts v y b in
    let Z = along_parts (unlike u v) z (m.along u v a b) in
    let e = mag x * mag y + per_one * 2 ^ 52 in
    let o = parts_at (plus x) (less x) (plus y) (less y) (plus z) (less z) (above u (mag x)) (under u (mag x)) (above v (mag y)) (under v (mag y)) (above (unlike u v) (mag z)) (under (unlike u v) (mag z)) per_one e
    X.0 X.1 Y.0 Y.1 Z.0 Z.1
    (off_signs u v (mag x) (mag y) (mag z) per_one e (le_trans m.most (le_of_eq (add_assoc (mag x * mag y * 2 ^ 53) (mag x * mag y) (per_one * 2 ^ 52)))) (le_trans m.least (le_of_eq (add_assoc (mag z * per_one * 2 ^ 53) (mag x * mag y) (per_one * 2 ^ 52))))) in
    record { most = o.0; least = o.1 }

pub off_product : (x y z : Float) → Multiplied x y z → Off (plus_times x y) (less_times x y) (mag x * mag y + per_one * 2 ^ 52) per_one z
off_product x y z m = go (direction x) (direction y)
  where
    go : Along true x ⊎ Along false x → Along true y ⊎ Along false y → Off (plus_times x y) (less_times x y) (mag x * mag y + per_one * 2 ^ 52) per_one z
    go (inl a) (inl b) = off_along true true x y z a b m
    go (inl a) (inr b) = off_along true false x y z a b m
    go (inr a) (inl b) = off_along false true x y z a b m
    go (inr a) (inr b) = off_along false false x y z a b m

-- ---- Dekker's product, with M = |a|×|b|
-- x is at most k × M / 2^30 and j units of 2^-1074, in size; and it is p - n, over 2^1074, but for c × M / 2^83 and g × 2^-53 units
record Sized (M k j p n c g : ℕ) (x : Float) : Type 0 where
  number : Number x
  size : mag x * per_one * 2 ^ 30 ≤ k * M + j * (per_one * 2 ^ 30)
  most : (plus x * per_one + n) * 2 ^ 83 ≤ (less x * per_one + p) * 2 ^ 83 + (c * M + g * (per_one * 2 ^ 30))
  least : (less x * per_one + p) * 2 ^ 83 ≤ (plus x * per_one + n) * 2 ^ 83 + (c * M + g * (per_one * 2 ^ 30))

-- M is below the overflow
abbrev pub Moderate : ℕ → Type 0
Moderate M = (M + per_one) * 16 ≤ limit * per_one

-- a sum of two, rounded
grown : (x d E F : ℕ) → x * 2 ^ 53 ≤ d * 2 ^ 53 + d → d * 2 ^ 30 ≤ E → E ≤ F * 2 ^ 53 → x * 2 ^ 30 ≤ E + F
grown x d E F h g e = omega arith

in_limit : (d E L w : ℕ) → 0 < w → d * w * 2 ^ 30 ≤ E → E ≤ L * w * 2 ^ 30 → d ≤ L
in_limit d E L w W h e = le_of_mul-le-mul_right (omega (arith, le_trans h e)) W

times_size : (x d w : ℕ) → x * 2 ^ 53 ≤ d * 2 ^ 53 + d → x * w * 2 ^ 53 ≤ d * w * 2 ^ 53 + d * w
times_size x d w h =
    let g : x * 2 ^ 53 * w ≤ (d * 2 ^ 53 + d) * w = mul-le-mul_right w h in
    omega (arith, g)

-- the sum of two that are off, and its own rounding
off_sum : (P N P1 N1 P2 N2 p n q m D X Y Z : ℕ) → (P + (N1 + N2)) * 2 ^ 53 ≤ (N + (P1 + P2)) * 2 ^ 53 + D → (P1 + n) * 2 ^ 83 ≤ (N1 + p) * 2 ^ 83 + X → (P2 + m) * 2 ^ 83 ≤ (N2 + q) * 2 ^ 83 + Y → D * 2 ^ 30 ≤ Z
    → (P + (n + m)) * 2 ^ 83 ≤ (N + (p + q)) * 2 ^ 83 + (X + Y + Z)
off_sum P N P1 N1 P2 N2 p n q m D X Y Z h g k l = omega arith

-- each side times w
spread : (a b c d e f D w : ℕ) → (a + (b + c)) * 2 ^ 53 ≤ (d + (e + f)) * 2 ^ 53 + D → (a * w + (b * w + c * w)) * 2 ^ 53 ≤ (d * w + (e * w + f * w)) * 2 ^ 53 + D * w
spread a b c d e f D w h =
    let g : (a + (b + c)) * 2 ^ 53 * w ≤ ((d + (e + f)) * 2 ^ 53 + D) * w = mul-le-mul_right w h in
    omega (arith, g)

gathered : (c g f h k j M U : ℕ) → c * M + g * U + (f * M + h * U) + (k * M + j * U) ≡ (c + f + k) * M + (g + h + j) * U
gathered c g f h k j M U = omega arith

sized_sum : {M k j p n c g l i q m f h : ℕ} {x y : Float} → Moderate M → Sized M k j p n c g x → Sized M l i q m f h y → k + l ≤ 2 ^ 20 → j + i ≤ 15
    → Sized M (k + l + 1) (j + i + 1) (p + q) (n + m) (c + f + (k + l)) (g + h + (j + i)) (x ⊕ y)
sized_sum {M} {k} {j} {p} {n} {c} {g} {l} {i} {q} {m} {f} {h} {x} {y} moderate X Y K J =
    let U = per_one * 2 ^ 30 in
    let d = mag x + mag y in
    let E = (k + l) * M + (j + i) * U in
    let both : d * per_one * 2 ^ 30 ≤ E = omega arith in
    let most : E ≤ 2 ^ 20 * M + 15 * U = add-le-add (mul-le-mul_right M K) (mul-le-mul_right U J) in
    let lim : d ≤ limit = in_limit d E limit per_one per_one_pos both (le_trans most (omega arith)) in
    let r = grown (mag (x ⊕ y) * per_one) (d * per_one) E (M + U) (times_size (mag (x ⊕ y)) d per_one (add_mag d X.number Y.number (le_of_eq refl) lim)) both (le_trans most (omega arith)) in
    let z = add_near d X.number Y.number (sum_small x y d (le_of_eq refl)) lim in
    let sum = x ⊕ y in
    record {
      number = z.number;
      size = le_trans r (le_of_eq (omega arith));
      most = le_trans
          (off_sum (plus sum * per_one) (less sum * per_one) (plus x * per_one) (less x * per_one) (plus y * per_one) (less y * per_one) p n q m (d * per_one) (c * M + g * U) (f * M + h * U) E
          (spread (plus sum) (less x) (less y) (less sum) (plus x) (plus y) d per_one z.most) X.most Y.most both)
          (add-le-add (le_refl ((less sum * per_one + (p + q)) * 2 ^ 83)) (le_of_eq (gathered c g f h (k + l) (j + i) M U)));
      least = le_trans
          (off_sum (less sum * per_one) (plus sum * per_one) (less x * per_one) (plus x * per_one) (less y * per_one) (plus y * per_one) n p m q (d * per_one) (c * M + g * U) (f * M + h * U) E
          (spread (less sum) (plus x) (plus y) (plus sum) (less x) (less y) d per_one z.least) X.least Y.least both)
          (add-le-add (le_refl ((plus sum * per_one + (n + m)) * 2 ^ 83)) (le_of_eq (gathered c g f h (k + l) (j + i) M U)));
    }

-- the product of two parts, where that of their sizes is at most c × M / 2^30
-- a product, off by its rounding
off_at : (P N p n K W X : ℕ) → (P + n) * 2 ^ 53 ≤ (N + p) * 2 ^ 53 + (K + W * 2 ^ 52) → K * 2 ^ 30 ≤ X → (P + n) * 2 ^ 83 ≤ (N + p) * 2 ^ 83 + (X + 2 ^ 52 * (W * 2 ^ 30))
off_at P N p n K W X h k = omega arith

sized_product : {M : ℕ} {x y : Float} (c : ℕ) → Moderate M → Number x → Number y → mag x * mag y * 2 ^ 30 ≤ c * M → c ≤ 2 ^ 20 → Sized M (c + 1) 1 (plus_times x y) (less_times x y) c (2 ^ 52) (x ⊗ y)
sized_product {M} {x} {y} c moderate p q h C =
    let r = mul_near p q (fit (mag x * mag y) (c * M) M per_one (limit * per_one) h (mul-le-mul_right M C) moderate) in
    let o = off_product x y (x ⊗ y) r in
    record {
      number = r.number;
      size = le_trans (go (mag (x ⊗ y) * per_one) (mag x * mag y) (c * M) M per_one h (mul-le-mul_right M C) r.most) (le_of_eq (one_more c M (per_one * 2 ^ 30)));
      most = off_at (plus (x ⊗ y) * per_one) (less (x ⊗ y) * per_one) (plus_times x y) (less_times x y) (mag x * mag y) per_one (c * M) o.most h;
      least = off_at (less (x ⊗ y) * per_one) (plus (x ⊗ y) * per_one) (less_times x y) (plus_times x y) (mag x * mag y) per_one (c * M) o.least h;
    }
  where
    fit : (K E M w L : ℕ) → K * 2 ^ 30 ≤ E → E ≤ 2 ^ 20 * M → (M + w) * 16 ≤ L → K ≤ L
    fit K E M w L k e h = omega arith

    go : (x K E M w : ℕ) → K * 2 ^ 30 ≤ E → E ≤ 2 ^ 20 * M → x * 2 ^ 53 ≤ K * 2 ^ 53 + K + w * 2 ^ 52 → x * 2 ^ 30 ≤ E + M + w * 2 ^ 30
    go x K E M w k e h = omega arith

    one_more : (c M U : ℕ) → c * M + M + U ≡ (c + 1) * M + 1 * U
    one_more c M U = omega arith

-- the first difference: of two products within 65 × 2^-30 of each other, each rounded
first_gap : (x y N P M W : ℕ) → N + P ≤ 3 * M → N * 2 ^ 30 ≤ P * 2 ^ 30 + 65 * M → x * 2 ^ 53 ≤ N * 2 ^ 53 + N + W * 2 ^ 52 → P * 2 ^ 53 ≤ y * 2 ^ 53 + P + W * 2 ^ 52
    → x * 2 ^ 30 ≤ y * 2 ^ 30 + (66 * M + 1 * (W * 2 ^ 30))
first_gap x y N P M W t n h g = le_trans (past_it (N + P) (65 * M) n t (joined x y N P W h g)) (le_of_eq (together (y * 2 ^ 30) M (W * 2 ^ 30)))
  where
    joined : (x y N P W : ℕ) → x * 2 ^ 53 ≤ N * 2 ^ 53 + N + W * 2 ^ 52 → P * 2 ^ 53 ≤ y * 2 ^ 53 + P + W * 2 ^ 52 → x * 2 ^ 53 + P * 2 ^ 53 ≤ y * 2 ^ 53 + N * 2 ^ 53 + (N + P + W * 2 ^ 53)
    joined x y N P W h g = omega arith

    past_it : (s k : ℕ) → N * 2 ^ 30 ≤ P * 2 ^ 30 + k → s ≤ 3 * M → x * 2 ^ 53 + P * 2 ^ 53 ≤ y * 2 ^ 53 + N * 2 ^ 53 + (s + W * 2 ^ 53) → x * 2 ^ 30 ≤ y * 2 ^ 30 + (k + M + W * 2 ^ 30)
    past_it s k a b h = omega (arith, a, b, h)

    together : (r M U : ℕ) → r + (65 * M + M + U) ≡ r + (66 * M + 1 * U)
    together r M U = omega arith

-- so for the gap of the two
gap_times : (x y w E : ℕ) → x * w * 2 ^ 30 ≤ y * w * 2 ^ 30 + E → y * w * 2 ^ 30 ≤ x * w * 2 ^ 30 + E → gap x y * w * 2 ^ 30 ≤ E
gap_times x y w E g h = go (leb x y) (leb→le x y) (nleb→lt x y)
  where
    over : (x d : ℕ) → (x + d) * w * 2 ^ 30 ≤ x * w * 2 ^ 30 + E → d * w * 2 ^ 30 ≤ E
    over x d h = omega (arith, h)

    gap_up : (x y : ℕ) → x ≤ y → (gap x y ≡ y - x) × (x + (y - x) ≡ y)
    gap_up x y h = (omega arith, omega arith)

    gap_down : (x y : ℕ) → y < x → (gap x y ≡ x - y) × (y + (x - y) ≡ x)
    gap_down x y h = (omega arith, omega arith)

    go : (b : Bool) → (T b → x ≤ y) → (T (not b) → y < x) → gap x y * w * 2 ^ 30 ≤ E
    go true l m =
        let d = gap_up x y (l tt) in
        subst (λ (k : ℕ). k * w * 2 ^ 30 ≤ E) (sym d.0) (over x (y - x) (subst (λ (k : ℕ). k * w * 2 ^ 30 ≤ x * w * 2 ^ 30 + E) (sym d.1) h))
    go false l m =
        let d = gap_down x y (m tt) in
        subst (λ (k : ℕ). k * w * 2 ^ 30 ≤ E) (sym d.0) (over y (x - y) (subst (λ (k : ℕ). k * w * 2 ^ 30 ≤ y * w * 2 ^ 30 + E) (sym d.1) g))

-- hi×hi less the product
sized_gap : {M : ℕ} {x y : Float} (u : Bool) → Moderate M → Along u x → Along u y → Number x → Number y
    → mag x * per_one * 2 ^ 30 ≤ mag y * per_one * 2 ^ 30 + (66 * M + 1 * (per_one * 2 ^ 30)) → mag y * per_one * 2 ^ 30 ≤ mag x * per_one * 2 ^ 30 + (66 * M + 1 * (per_one * 2 ^ 30))
    → {i j k l : ℕ} (K : ℕ) → Off i j (K + per_one * 2 ^ 52) per_one x → K * 2 ^ 30 ≤ (2 ^ 30 + 65) * M → Off k l (M + per_one * 2 ^ 52) per_one y → Sized M 67 2 (i + l) (j + k) (2 ^ 30 + 65 + 2 ^ 30 + 66) (2 ^ 52 + 2 ^ 52 + 1) (x ⊖ y)
sized_gap {M} {x} {y} u moderate a b p q g h {i} {j} {k} {l} K X bound Y =
    let d = gap (mag x) (mag y) in
    let U = per_one * 2 ^ 30 in
    let E = 66 * M + 1 * U in
    let size = gap_times (mag x) (mag y) per_one E g h in
    let lim : d ≤ limit = in_limit d E limit per_one per_one_pos size (omega arith) in
    let small = along_small u x y a b in
    let t = sub_near d p q small lim in
    record {
      number = t.number;
      size = le_trans (grown (mag (x ⊖ y) * per_one) (d * per_one) E (M + U) (times_size (mag (x ⊖ y)) d per_one (close_mag d t small)) size (omega arith)) (le_of_eq (omega arith));
      most = le_trans
          (off_sum (plus (x ⊖ y) * per_one) (less (x ⊖ y) * per_one) (plus x * per_one) (less x * per_one) (less y * per_one) (plus y * per_one) i j l k (d * per_one) ((2 ^ 30 + 65) * M + 2 ^ 52 * U) (2 ^ 30 * M + 2 ^ 52 * U) E
          (spread (plus (x ⊖ y)) (less x) (plus y) (less (x ⊖ y)) (plus x) (less y) d per_one t.most) (off_at (plus x * per_one) (less x * per_one) i j K per_one ((2 ^ 30 + 65) * M) X.most bound)
          (off_at (less y * per_one) (plus y * per_one) l k M per_one (2 ^ 30 * M) Y.least (le_of_eq (mul_comm M (2 ^ 30)))) size)
          (add-le-add (le_refl ((less (x ⊖ y) * per_one + (i + l)) * 2 ^ 83)) (le_of_eq (gathered (2 ^ 30 + 65) (2 ^ 52) (2 ^ 30) (2 ^ 52) 66 1 M U)));
      least = le_trans
          (off_sum (less (x ⊖ y) * per_one) (plus (x ⊖ y) * per_one) (less x * per_one) (plus x * per_one) (plus y * per_one) (less y * per_one) j i k l (d * per_one) ((2 ^ 30 + 65) * M + 2 ^ 52 * U) (2 ^ 30 * M + 2 ^ 52 * U) E
          (spread (less (x ⊖ y)) (plus x) (less y) (plus (x ⊖ y)) (less x) (plus y) d per_one t.least) (off_at (less x * per_one) (plus x * per_one) j i K per_one ((2 ^ 30 + 65) * M) X.least bound)
          (off_at (plus y * per_one) (less y * per_one) k l M per_one (2 ^ 30 * M) Y.most (le_of_eq (mul_comm M (2 ^ 30)))) size)
          (add-le-add (le_refl ((plus (x ⊖ y) * per_one + (j + k)) * 2 ^ 83)) (le_of_eq (gathered (2 ^ 30 + 65) (2 ^ 52) (2 ^ 30) (2 ^ 52) 66 1 M U)));
    }

-- ---- the four products of the parts are the product of the sums of the parts, and these are a and b but for 2^-78
-- p - n, times u - v, is q - m, times u - v, but for e × (u + v)
times_off : (p n q m e u v : ℕ) → p + m ≤ n + q + e → q + n ≤ m + p + e → p * u + n * v + (q * v + m * u) ≤ p * v + n * u + (q * u + m * v) + e * (u + v)
times_off p n q m e u v g h =
    let a : (p + m) * u ≤ (n + q + e) * u = mul-le-mul_right u g in
    let b : (q + n) * v ≤ (m + p + e) * v = mul-le-mul_right v h in
    omega (arith, a, b)

-- with the products of the parts for variables
off_twice : (XP XN AP AN rp rn e f M : ℕ) → (XP + AN) * 2 ^ 78 ≤ (XN + AP) * 2 ^ 78 + e → (AP + rn) * 2 ^ 78 ≤ (AN + rp) * 2 ^ 78 + f → e ≤ 2 * M → f ≡ M → (XP + rn) * 2 ^ 78 ≤ (XN + rp) * 2 ^ 78 + 3 * M
off_twice XP XN AP AN rp rn e f M g h k l = omega arith

regroup : (p n q m u v k : ℕ) → (p * u + n * v + (q * v + m * u)) * k ≡ p * k * u + n * k * v + (q * k * v + m * k * u)
regroup p n q m u v k = omega arith

regroup_right : (p n q m u v k e : ℕ) → p * k * v + n * k * u + (q * k * u + m * k * v) + e ≡ (p * v + n * u + (q * u + m * v)) * k + e
regroup_right p n q m u v k e = omega arith

scaled_off : (p n q m e u v k : ℕ) → (p + m) * k ≤ (n + q) * k + e → (n + q) * k ≤ (p + m) * k + e → (p * u + n * v + (q * v + m * u)) * k ≤ (p * v + n * u + (q * u + m * v)) * k + e * (u + v)
scaled_off p n q m e u v k g h =
    le_trans (le_of_eq (regroup p n q m u v k))
    (le_trans (times_off (p * k) (n * k) (q * k) (m * k) e u v (omega arith) (omega arith)) (le_of_eq (regroup_right p n q m u v k (e * (u + v)))))

-- with x and y for the sums of the parts of a and of b, each in its two parts
sums_off : (xp xn yp yn pa na pb nb : ℕ) → (xp + na) * 2 ^ 78 ≤ (xn + pa) * 2 ^ 78 + (pa + na) → (xn + pa) * 2 ^ 78 ≤ (xp + na) * 2 ^ 78 + (pa + na) → (yp + nb) * 2 ^ 78 ≤ (yn + pb) * 2 ^ 78 + (pb + nb)
    → (yn + pb) * 2 ^ 78 ≤ (yp + nb) * 2 ^ 78 + (pb + nb) → yp + yn ≤ 2 * (pb + nb)
    → (xp * yp + xn * yn + (pa * nb + na * pb)) * 2 ^ 78 ≤ (xp * yn + xn * yp + (pa * pb + na * nb)) * 2 ^ 78 + 3 * ((pa + na) * (pb + nb))
sums_off xp xn yp yn pa na pb nb a b c d s =
    off_twice (xp * yp + xn * yn) (xp * yn + xn * yp) (pa * yp + na * yn) (pa * yn + na * yp) (pa * pb + na * nb) (pa * nb + na * pb) ((pa + na) * (yp + yn)) ((pb + nb) * (pa + na)) ((pa + na) * (pb + nb))
    (scaled_off xp xn pa na (pa + na) yp yn (2 ^ 78) a b)
    (le_trans (le_of_eq (ap (λ (k : ℕ). k * 2 ^ 78) (omega arith))) (le_trans (scaled_off yp yn pb nb (pb + nb) pa na (2 ^ 78) c d) (le_of_eq (ap (λ (k : ℕ). k * 2 ^ 78 + (pb + nb) * (pa + na)) (omega arith)))))
    (le_trans (mul-le-mul (le_refl (pa + na)) s) (le_of_eq (omega arith))) (mul_comm (pb + nb) (pa + na))

-- the parts of b together
both_parts : (h l B : ℕ) → h * 2 ^ 25 ≤ B * 2 ^ 25 + B → l * 2 ^ 25 ≤ B → h + l ≤ 2 * B
both_parts h l B g k = omega arith

halves_of : (p q n m : ℕ) → p + q + (n + m) ≡ p + n + (q + m)
halves_of p q n m = omega arith

turn : (x y a b : ℕ) → x * 2 ^ 78 ≤ y * 2 ^ 78 + (a + b) → x * 2 ^ 78 ≤ y * 2 ^ 78 + (b + a)
turn x y a b h = omega arith

-- the sums that the four products make, as they come
four_products : (ph nh pl nl qh mh ql ml r : ℕ) → pl * ql + nl * ml + (pl * qh + nl * mh + (ph * ql + nh * ml + (ph * qh + nh * mh + r))) ≡ (ph + pl) * (qh + ql) + (nh + nl) * (mh + ml) + r
four_products ph nh pl nl qh mh ql ml r = omega arith

four_turned : (ph nh pl nl qh mh ql ml r : ℕ) → pl * ml + nl * ql + (pl * mh + nl * qh + (ph * ml + nh * ql + (ph * mh + nh * qh + r))) ≡ (ph + pl) * (mh + ml) + (nh + nl) * (qh + ql) + r
four_turned ph nh pl nl qh mh ql ml r = omega arith

four_products' : (ph nh pl nl qh mh ql ml pa na pb nb : ℕ)
    → pl * ql + nl * ml + (pl * qh + nl * mh + (ph * ql + nh * ml + (ph * qh + nh * mh + (pa * nb + na * pb)))) ≡ (nh + nl) * (mh + ml) + (ph + pl) * (qh + ql) + (na * pb + pa * nb)
four_products' ph nh pl nl qh mh ql ml pa na pb nb = omega arith

four_turned' : (ph nh pl nl qh mh ql ml pa na pb nb : ℕ)
    → pl * ml + nl * ql + (pl * mh + nl * qh + (ph * ml + nh * ql + (ph * mh + nh * qh + (pa * pb + na * nb)))) ≡ (nh + nl) * (qh + ql) + (ph + pl) * (mh + ml) + (na * nb + pa * pb)
four_turned' ph nh pl nl qh mh ql ml pa na pb nb = omega arith

-- off p - n, which is small: the size
final_size : (P N p n M w : ℕ) → (P + n) * 2 ^ 83 ≤ (N + p) * 2 ^ 83 + (2147484222 * M + (5 * 2 ^ 52 + 16) * (w * 2 ^ 30)) → p * 2 ^ 78 ≤ n * 2 ^ 78 + 3 * M → N ≡ 0
    → P * 2 ^ 83 ≤ 2147484318 * M + (5 * 2 ^ 52 + 16) * (w * 2 ^ 30)
final_size P N p n M w h g z = omega (arith, wider p n M g)
  where
    wider : (p n M : ℕ) → p * 2 ^ 78 ≤ n * 2 ^ 78 + 3 * M → p * 2 ^ 83 ≤ n * 2 ^ 83 + 96 * M
    wider p n M h = omega arith

-- on whichever side
of_sides : (q m w p n M : ℕ) → (q ≡ 0) ⊎ (m ≡ 0) → (q * w + n) * 2 ^ 83 ≤ (m * w + p) * 2 ^ 83 + (2147484222 * M + (5 * 2 ^ 52 + 16) * (w * 2 ^ 30))
    → (m * w + p) * 2 ^ 83 ≤ (q * w + n) * 2 ^ 83 + (2147484222 * M + (5 * 2 ^ 52 + 16) * (w * 2 ^ 30)) → p * 2 ^ 78 ≤ n * 2 ^ 78 + 3 * M → n * 2 ^ 78 ≤ p * 2 ^ 78 + 3 * M
    → (q + m) * w * 2 ^ 83 ≤ 2147484318 * M + (5 * 2 ^ 52 + 16) * (w * 2 ^ 30)
of_sides q m w p n M (inl e) h g k l =
    le_trans (le_of_eq (ap (λ (i : ℕ). (i + m) * w * 2 ^ 83) e ∙ ap (λ (i : ℕ). i * w * 2 ^ 83) (zero-add m))) (final_size (m * w) (q * w) n p M w g l (ap (λ (i : ℕ). i * w) e ∙ zero-mul w))
of_sides q m w p n M (inr e) h g k l =
    le_trans (le_of_eq (ap (λ (i : ℕ). (q + i) * w * 2 ^ 83) e ∙ ap (λ (i : ℕ). i * w * 2 ^ 83) (add-zero q))) (final_size (q * w) (m * w) p n M w h k (ap (λ (i : ℕ). i * w) e ∙ zero-mul w))

-- the same in round numbers
rounder : (P M w : ℕ) → P * 2 ^ 83 ≤ 2147484318 * M + (5 * 2 ^ 52 + 16) * (w * 2 ^ 30) → P * 2 ^ 51 ≤ M + w * 2 ^ 53
rounder P M w h = le_of_mul-le-mul_right (le_trans (le_of_eq (same P)) (le_trans h (enough M w))) (lit< tt)
  where
    enough : (M w : ℕ) → 2147484318 * M + (5 * 2 ^ 52 + 16) * (w * 2 ^ 30) ≤ (M + w * 2 ^ 53) * 2 ^ 32
    enough M w = omega arith

    same : (P : ℕ) → P * 2 ^ 51 * 2 ^ 32 ≡ P * 2 ^ 83
    same P = omega arith

pub record Dekker (a b : Float) : Type 0 where
  pub hi : Multiplied a b (from_exact_mult a b).hi
  pub lo_number : Number (from_exact_mult a b).lo
  pub lo_near : mag (from_exact_mult a b).lo * per_one * 2 ^ 83 ≤ 2147484318 * (mag a * mag b) + (5 * 2 ^ 52 + 16) * (per_one * 2 ^ 30)
  pub lo_small : mag (from_exact_mult a b).lo * per_one * 2 ^ 51 ≤ mag a * mag b + per_one * 2 ^ 53

module _ {a b : Float} (p : Number a) (q : Number b) (A : (mag a + 1) * 2 ^ 28 ≤ limit) (B : (mag b + 1) * 2 ^ 28 ≤ limit) (moderate : Moderate (mag a * mag b)) where
  dekker_along : (s t : Bool) → Along s a → Along t b → Dekker a b
  unfolding from_exact_mult
  dekker_along s t za zb =
      let M = mag a * mag b in
      let ha = split_near p A in
      let hb = split_near q B in
      let pa = part s a za ha in
      let pb = part t b zb hb in
      let ah = (split a).hi in
      let al = (split a).lo in
      let bh = (split b).hi in
      let bl = (split b).lo in
      let over = both_hi (mag a) (mag b) (mag ah) (mag bh) pa.most pb.most in
      let under = both_hi_least (mag a) (mag b) (mag ah) (mag bh) pa.least pb.least in
      let three = thrice (mag ah * mag bh) M over in
      let r = mul_near p q (inside M per_one (limit * per_one) moderate) in
      let w = mul_near ha.hi_number hb.hi_number (inside_twice (mag ah * mag bh) M per_one (limit * per_one) three moderate) in
      let t1 = sized_gap (unlike s t) moderate (w.along s t pa.along pb.along) (r.along s t za zb) w.number r.number
      (first_gap (mag (ah ⊗ bh) * per_one) (mag (a ⊗ b) * per_one) (mag ah * mag bh) M M per_one three over w.most r.least)
      (first_gap (mag (a ⊗ b) * per_one) (mag (ah ⊗ bh) * per_one) M (mag ah * mag bh) M per_one (turned (mag ah * mag bh) M three) under r.most w.least)
      (mag ah * mag bh) (off_product ah bh (ah ⊗ bh) w) (le_trans over (le_of_eq (together M))) (off_product a b (a ⊗ b) r) in
      let p2 = sized_product 33 moderate ha.hi_number hb.lo_number (hi_lo (mag a) (mag b) (mag ah) (mag bl) pa.most hb.lo_small) (lit≤ tt) in
      let p3 = sized_product 33 moderate ha.lo_number hb.hi_number (lo_hi (mag a) (mag b) (mag al) (mag bh) ha.lo_small pb.most) (lit≤ tt) in
      let p4 = sized_product 1 moderate ha.lo_number hb.lo_number (le_trans (both_lo (mag a) (mag b) (mag al) (mag bl) ha.lo_small hb.lo_small) (le_of_eq (sym (one-mul M)))) (lit≤ tt) in
      let t2 = sized_sum moderate p2 t1 (lit≤ tt) (lit≤ tt) in
      let t3 = sized_sum moderate p3 t2 (lit≤ tt) (lit≤ tt) in
      let lo = sized_sum moderate p4 t3 (lit≤ tt) (lit≤ tt) in
      let e = al ⊗ bl ⊕ (al ⊗ bh ⊕ (ah ⊗ bl ⊕ (ah ⊗ bh ⊖ a ⊗ b))) in
      let beside = both_parts (mag bh) (mag bl) (mag b) pb.most hb.lo_small in
      let parts = sums_off (plus ah + plus al) (less ah + less al) (plus bh + plus bl) (less bh + less bl) (plus a) (less a) (plus b) (less b) ha.sum_most ha.sum_least hb.sum_most hb.sum_least
      (le_trans (le_of_eq (halves_of (plus bh) (plus bl) (less bh) (less bl))) beside) in
      let other = sums_off (less ah + less al) (plus ah + plus al) (plus bh + plus bl) (less bh + less bl) (less a) (plus a) (plus b) (less b) (turn (less ah + less al + plus a) (plus ah + plus al + less a) (plus a) (less a) ha.sum_least)
      (turn (plus ah + plus al + less a) (less ah + less al + plus a) (plus a) (less a) ha.sum_most) hb.sum_most hb.sum_least
      (le_trans (le_of_eq (halves_of (plus bh) (plus bl) (less bh) (less bl))) beside) in
      let near : mag e * per_one * 2 ^ 83 ≤ 2147484318 * M + (5 * 2 ^ 52 + 16) * (per_one * 2 ^ 30) = of_sides (plus e) (less e) per_one _ _ M (one_side e) lo.most lo.least
      (le_trans (le_of_eq (ap (λ (k : ℕ). k * 2 ^ 78) (four_products (plus ah) (less ah) (plus al) (less al) (plus bh) (less bh) (plus bl) (less bl) (less_times a b))))
      (le_trans parts (le_of_eq (ap (λ (k : ℕ). k * 2 ^ 78 + 3 * M) (sym (four_turned (plus ah) (less ah) (plus al) (less al) (plus bh) (less bh) (plus bl) (less bl) (plus_times a b)))))))
      (le_trans (le_of_eq (ap (λ (k : ℕ). k * 2 ^ 78) (four_turned' (plus ah) (less ah) (plus al) (less al) (plus bh) (less bh) (plus bl) (less bl) (plus a) (less a) (plus b) (less b))))
      (le_trans other (le_of_eq (ap₂ (λ (k m : ℕ). k * 2 ^ 78 + 3 * m) (sym (four_products' (plus ah) (less ah) (plus al) (less al) (plus bh) (less bh) (plus bl) (less bl) (plus a) (less a) (plus b) (less b))) (ap (λ (k : ℕ). k * mag b) (add_comm (less a) (plus a))))))) in
      record { hi = r; lo_number = lo.number; lo_near = near; lo_small = rounder (mag e * per_one) M per_one near }
    where
      thrice : (N M : ℕ) → N * 2 ^ 30 ≤ M * 2 ^ 30 + 65 * M → N + M ≤ 3 * M
      thrice N M n = omega arith

      turned : (N M : ℕ) → N + M ≤ 3 * M → M + N ≤ 3 * M
      turned N M h = omega arith

      together : (M : ℕ) → M * 2 ^ 30 + 65 * M ≡ (2 ^ 30 + 65) * M
      together M = omega arith

      inside : (M w L : ℕ) → (M + w) * 16 ≤ L → M ≤ L
      inside M w L h = omega arith

      inside_twice : (N M w L : ℕ) → N + M ≤ 3 * M → (M + w) * 16 ≤ L → N ≤ L
      inside_twice N M w L n h = omega arith

  pub dekker_near : Dekker a b
  dekker_near = go (direction a) (direction b)
    where
      go : Along true a ⊎ Along false a → Along true b ⊎ Along false b → Dekker a b
      go (inl x) (inl y) = dekker_along true true x y
      go (inl x) (inr y) = dekker_along true false x y
      go (inr x) (inl y) = dekker_along false true x y
      go (inr x) (inr y) = dekker_along false false x y
