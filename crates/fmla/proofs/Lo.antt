-- For two moderate factors the lo of Dekker's product is at most `lo_bound` of the rounded product in size, and that is above 0 (`lo_within`): `dekker_near` has it at most little more than 2^-52 of the exact product and
-- two and a half units of 2^-1074, the rounded product is within 2^-53 of that and half a unit, and the two operations of `lo_bound` lose less than it has to spare. Assumes nothing.
use mathlib.Core.Path.{◌≡◌, refl, sym, ap, ap₂, ◌∙◌, subst}
use mathlib.Core.Logic.{◌⊎◌, inl, inr}
use mathlib.Core.Bool.{true, false}
use Prim.Native.Nat.{ℕ, ◌+◌, ◌-◌, ◌*◌, ◌^◌, ◌≤◌, ◌<◌}
use native.Mathlib.Nat.{le_refl, le_trans, le_of_eq, le_of_mul-le-mul_right, mul-le-mul, mul-le-mul_right, mul_right_comm, add-le-add, add-zero, zero-add}
use native.Mathlib.Omega.{arith}
use lib.Dec.{T, lit≤, lit<}
use lib.IntN.{pos}
use lib.Pow.{pow_pos}
use lib.Ieee.{Float, nan, inf, fin, binary64, neg, fits, le}
use lib.Ieee.Fits.{and_l, and_r}
use lib.Ieee.Scale.{finite}
use Rattle.floats.specs.Operations.{◌⊕◌, ◌⊗◌}
use Rattle.floats.specs.OnBits.{absolute}
use Rattle.floats.proofs.Laws.Units.{exponent, fits_signed}
use Rattle.double_double.specs.DoubleDouble.{from_exact_mult}
use Rattle.bounds.proofs.Values.{per_one, per_one_pos, plus, less, mag, one_side, Number}
use Rattle.bounds.proofs.Operation.{limit, Multiplied, mul_near, add_near}
use Rattle.bounds.proofs.Sums.{sides, sum_small}
use Rattle.bounds.proofs.Dekker.{dekker_near}
use Rattle.bounds.proofs.Compared.{le_units}
use Rattle.fmla.specs.Fmla.{is_moderate, relative_part, absolute_part, lo_bound}

-- ---- a moderate factor
moderate_finite : (x : Float) → T (is_moderate x) → T (finite x)
unfolding is_moderate le neg
moderate_finite nan t = absurd t
moderate_finite (inf true) t = absurd t
moderate_finite (inf false) t = absurd t
moderate_finite (fin s m e) t = tt

-- finite, and at most 2^400 in size
pub record Sized (x : Float) : Type 0 where
  pub number : Number x
  pub size : mag x ≤ 2 ^ 1474

pub moderate_sized : (x : Float) → T (fits binary64 x) → T (is_moderate x) → Sized x
unfolding is_moderate neg
moderate_sized x f t =
    let high = fin false 1 (pos 400) in
    let low = fin true 1 (pos 400) in
    let n : Number x = record { held = f; plain = moderate_finite x t } in
    let above : plus x + less high ≤ plus high + less x = le_units x high n (record { held = unfold fits in tt; plain = tt }) (and_l (le x high) (le low x) t) in
    let below : plus low + less x ≤ plus x + less low = le_units low x (record { held = unfold fits in tt; plain = tt }) n (and_r (le x high) (le low x) t) in
    record { number = n; size = sides (plus x) (less x) (2 ^ 1474) (one_side x) (over (plus x) (less x) (plus high) above) (under (plus x) (less x) (less low) below) }
  where
    over : (p n h : ℕ) → p + 0 ≤ h + n → p ≤ n + h
    over p n h e = omega arith

    under : (p n h : ℕ) → 0 + n ≤ p + h → n ≤ p + h
    under p n h e = omega arith

-- ---- nothing overflows
splits : (m : ℕ) → m ≤ 2 ^ 1474 → (m + 1) * 2 ^ 28 ≤ limit
unfolding limit
splits m h = le_trans (mul-le-mul_right (2 ^ 28) (add-le-add h (le_refl 1))) (lit≤ tt)

product_limit : (m n : ℕ) → m ≤ 2 ^ 1474 → n ≤ 2 ^ 1474 → (m * n + per_one) * 16 ≤ limit * per_one
unfolding limit per_one
product_limit m n g h = le_trans (mul-le-mul_right 16 (add-le-add (mul-le-mul g h) (le_refl (2 ^ 1074)))) (lit≤ tt)

inside : (k w L : ℕ) → (k + w) * 16 ≤ L → k ≤ L
inside k w L h = omega arith

-- a product of sizes, once more than twice as large
rounded_product : (k w M K : ℕ) → 0 < w → k * w * 2 ^ 53 ≤ M * 2 ^ 53 + M + w * 2 ^ 52 → 2 * M + w ≤ K * w → k ≤ K
rounded_product k w M K W h g = le_of_mul-le-mul_right (le_trans (twice (k * w) M w h) g) W
  where
    twice : (H M w : ℕ) → H * 2 ^ 53 ≤ M * 2 ^ 53 + M + w * 2 ^ 52 → H ≤ 2 * M + w
    twice H M w h = omega arith

product_room : (m n : ℕ) → m ≤ 2 ^ 1474 → n ≤ 2 ^ 1474 → 2 * (m * n) + per_one ≤ 2 ^ 1876 * per_one
unfolding per_one
product_room m n g h = le_trans (add-le-add (mul-le-mul (le_refl 2) (mul-le-mul g h)) (le_refl (2 ^ 1074))) (lit≤ tt)

relative_limit : (m : ℕ) → m ≤ 2 ^ 1876 → m * mag relative_part ≤ limit * per_one
unfolding limit per_one
relative_limit m h = le_trans (mul-le-mul_right (mag relative_part) h) (lit≤ tt)

relative_room : (m : ℕ) → m ≤ 2 ^ 1876 → 2 * (m * mag relative_part) + per_one ≤ 2 ^ 1828 * per_one
unfolding per_one
relative_room m h = le_trans (add-le-add (mul-le-mul (le_refl 2) (mul-le-mul_right (mag relative_part) h)) (le_refl (2 ^ 1074))) (lit≤ tt)

absolute_limit : (m : ℕ) → m ≤ 2 ^ 1828 → m + mag absolute_part ≤ limit
unfolding limit
absolute_limit m h = le_trans (add-le-add h (le_refl (mag absolute_part))) (lit≤ tt)

-- ---- |h|
absolute_units : (x : Float) → Number x → Number (absolute x) × (plus (absolute x) ≡ mag x) × (less (absolute x) ≡ 0)
unfolding absolute
absolute_units nan n = absurd n.plain
absolute_units (inf s) n = absurd n.plain
absolute_units (fin true m e) n = (record { held = fits_signed binary64 true false m e n.held; plain = tt }, sym (zero-add (m * 2 ^ exponent 1074 e)), refl)
absolute_units (fin false m e) n = (n, sym (add-zero (m * 2 ^ exponent 1074 e)), refl)

-- ---- the numbers: L for lo, H for the rounded product and M for the exact one, P for the share of H and D for the bound
-- lo, from the rounded product
lo_of_rounded : (L H M w : ℕ) → 0 < w → L * w * 2 ^ 83 ≤ 2147484318 * M + (5 * 2 ^ 52 + 16) * (w * 2 ^ 30) → M * 2 ^ 53 ≤ H * w * 2 ^ 53 + M + w * 2 ^ 52 → L * 2 ^ 62 ≤ 1025 * H + 2 ^ 64
lo_of_rounded L H M w W g h = le_of_mul-le-mul_right (le_trans (le_of_eq (mul_right_comm L (2 ^ 62) w)) (le_trans (together (L * w * 2 ^ 62) M (H * w) w (w * 2 ^ 62) (coarser (L * w) M w g) (exact (H * w) M w h) (many w)) (le_of_eq (gathered H w)))) W
  where
    exact : (X M w : ℕ) → M * 2 ^ 53 ≤ X * 2 ^ 53 + M + w * 2 ^ 52 → M * 4096 ≤ X * 4097 + w * 4096
    exact X M w h = omega arith

    same : (A : ℕ) → A * 2 ^ 62 * 4 * 2 ^ 19 ≡ A * 2 ^ 83
    same A = omega arith

    enough : (M w : ℕ) → 2147484318 * M + (5 * 2 ^ 52 + 16) * (w * 2 ^ 30) ≤ (4097 * M + 12 * (w * 2 ^ 62)) * 2 ^ 19
    enough M w = omega arith

    coarser : (A M w : ℕ) → A * 2 ^ 83 ≤ 2147484318 * M + (5 * 2 ^ 52 + 16) * (w * 2 ^ 30) → A * 2 ^ 62 * 4 ≤ 4097 * M + 12 * (w * 2 ^ 62)
    coarser A M w h = le_of_mul-le-mul_right (le_trans (le_of_eq (same A)) (le_trans h (enough M w))) (lit< tt)

    many : (w : ℕ) → w * 2048 ≤ w * 2 ^ 62
    many w = omega arith

    together : (B M X w C : ℕ) → B * 4 ≤ 4097 * M + 12 * C → M * 4096 ≤ X * 4097 + w * 4096 → w * 2048 ≤ C → B ≤ 1025 * X + 4 * C
    together B M X w C g h k = omega arith

    gathered : (H w : ℕ) → 1025 * (H * w) + 4 * (w * 2 ^ 62) ≡ (1025 * H + 2 ^ 64) * w
    gathered H w = omega arith

-- the share of H, in units of which there are 2^61 × v in 1
relative_least : (H P v : ℕ) → 0 < v → H * (513 * v) * 2 ^ 53 ≤ P * (v * 2 ^ 61) * 2 ^ 53 + H * (513 * v) + v * 2 ^ 61 * 2 ^ 52 → 2051 * H ≤ (P + 1) * 2 ^ 63
relative_least H P v v0 h = le_of_mul-le-mul_right (le_trans (fewer H) (le_trans (le_of_mul-le-mul_right (gathered H P v h) v0) (more P))) (lit< tt)
  where
    gathered : (H P v : ℕ) → H * (513 * v) * 2 ^ 53 ≤ P * (v * 2 ^ 61) * 2 ^ 53 + H * (513 * v) + v * 2 ^ 61 * 2 ^ 52 → 513 * (2 ^ 53 - 1) * H * v ≤ (P * 2 ^ 114 + 2 ^ 113) * v
    gathered H P v h = omega arith

    fewer : (H : ℕ) → 2051 * H * 2 ^ 51 ≤ 513 * (2 ^ 53 - 1) * H
    fewer H = omega arith

    more : (P : ℕ) → P * 2 ^ 114 + 2 ^ 113 ≤ (P + 1) * 2 ^ 63 * 2 ^ 51
    more P = omega arith

-- and with T on top of it
within : (L H P T D : ℕ) → L * 2 ^ 62 ≤ 1025 * H + 2 ^ 64 → 2051 * H ≤ (P + 1) * 2 ^ 63 → (P + T) * 2 ^ 53 ≤ D * 2 ^ 53 + (P + T) → 64 ≤ T → L ≤ D
within L H P T D l p d t = last L P T D (first L H P l p) (second (P + T) D d) t
  where
    first : (L H P : ℕ) → L * 2 ^ 62 ≤ 1025 * H + 2 ^ 64 → 2051 * H ≤ (P + 1) * 2 ^ 63 → L * 2051 ≤ 2050 * P + 2 ^ 15
    first L H P l p = omega arith

    second : (Q D : ℕ) → Q * 2 ^ 53 ≤ D * 2 ^ 53 + Q → Q * 4095 ≤ D * 4096
    second Q D d = omega arith

    last : (L P T D : ℕ) → L * 2051 ≤ 2050 * P + 2 ^ 15 → (P + T) * 4095 ≤ D * 4096 → 64 ≤ T → L ≤ D
    last L P T D l d t = omega arith

above_zero : (P T D : ℕ) → (P + T) * 2 ^ 53 ≤ D * 2 ^ 53 + (P + T) → 64 ≤ T → 0 < D
above_zero P T D d t = omega arith

-- a sum of what is not below 0 is not below it either, and no less than exact but for a rounding
sum_clear : (p n T q m : ℕ) → (q ≡ 0) ⊎ (m ≡ 0) → n ≡ 0 → (m + (p + T)) * 2 ^ 53 ≤ (q + (n + 0)) * 2 ^ 53 + (p + n + T) → (m ≡ 0) × ((p + n + T) * 2 ^ 53 ≤ q * 2 ^ 53 + (p + n + T))
sum_clear p n T q m (inl e) z h = (omega arith, omega arith)
sum_clear p n T q m (inr e) z h = (omega arith, omega arith)

-- ---- the bound
-- d is not below 0, and at least L in size
pub record Within (L d : Float) : Type 0 where
  pub lo_number : Number L
  pub number : Number d
  pub clear : less d ≡ 0
  pub positive : 0 < plus d
  pub covers : mag L ≤ plus d

-- 2^-61 in units
abbrev small : ℕ
small = 2 ^ 1013

relative_number : Number relative_part
relative_number = record { held = unfold fits in tt; plain = tt }

absolute_number : Number absolute_part
absolute_number = record { held = unfold fits in tt; plain = tt }

one_units : per_one ≡ small * 2 ^ 61
unfolding per_one
one_units = refl

module _ {a b : Float} (A : Sized a) (B : Sized b) where
  limited : (mag a * mag b + per_one) * 16 ≤ limit * per_one
  limited = product_limit (mag a) (mag b) A.size B.size

  pub product : Multiplied a b (a ⊗ b)
  product = mul_near A.number B.number (inside (mag a * mag b) per_one (limit * per_one) limited)

  pub lo_within : Within (from_exact_mult a b).lo (lo_bound (a ⊗ b))
  unfolding lo_bound
  lo_within =
      let L = (from_exact_mult a b).lo in
      let h = a ⊗ b in
      let dekker = dekker_near A.number B.number (splits (mag a) A.size) (splits (mag b) B.size) limited in
      let H = mag h in
      let H_small = rounded_product H per_one (mag a * mag b) (2 ^ 1876) per_one_pos product.most (product_room (mag a) (mag b) A.size B.size) in
      let u = absolute_units h product.number in
      let H_is : mag (absolute h) ≡ H = ap₂ ◌+◌ u.1 u.2 ∙ add-zero H in
      let u_small : mag (absolute h) ≤ 2 ^ 1876 = le_trans (le_of_eq H_is) H_small in
      let p = absolute h ⊗ relative_part in
      let m : Multiplied (absolute h) relative_part p = mul_near u.0 relative_number (relative_limit (mag (absolute h)) u_small) in
      let P_small = rounded_product (mag p) per_one (mag (absolute h) * mag relative_part) (2 ^ 1828) per_one_pos m.most (relative_room (mag (absolute h)) u_small) in
      let clear_p : less p ≡ 0 = sym (zero-add (less p)) ∙ m.along false false (ap (λ (k : ℕ). 0 + k) u.2) refl in
      let d = p ⊕ absolute_part in
      let s = add_near (mag p + mag absolute_part) m.number absolute_number (sum_small p absolute_part (mag p + mag absolute_part) (le_refl (mag p + mag absolute_part))) (absolute_limit (mag p) P_small) in
      let c = sum_clear (plus p) (less p) (mag absolute_part) (plus d) (less d) (one_side d) clear_p s.least in
      let part = relative_least H (mag p) small (pow_pos 1013)
      (subst (λ (w : ℕ). H * (513 * small) * 2 ^ 53 ≤ mag p * w * 2 ^ 53 + H * (513 * small) + w * 2 ^ 52) one_units
      (subst (λ (k : ℕ). k * mag relative_part * 2 ^ 53 ≤ mag p * per_one * 2 ^ 53 + k * mag relative_part + per_one * 2 ^ 52) H_is m.least)) in
      record {
        lo_number = dekker.lo_number;
        number = s.number;
        clear = c.0;
        positive = above_zero (mag p) (mag absolute_part) (plus d) c.1 (lit≤ tt);
        covers = within (mag L) H (mag p) (mag absolute_part) (plus d) (lo_of_rounded (mag L) H (mag a * mag b) per_one per_one_pos dekker.lo_near product.least) part c.1 (lit≤ tt);
      }
