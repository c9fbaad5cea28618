-- r × t - 1 for an inverse r of the table, without Dekker's product. r is a whole number of 2^-8 and below 2, so that its products with the two parts of t are exact, whichever parts they
-- are; and so is all else that `dd_fmla` does until its last sum. So its result is r × t - 1 exactly, rounded once, and that is what the plain form gives (`minus_one_same`). Assumes nothing.
use Rattle.std.proofs.Common.{rules, ◌≡◌, ℕ, ◌+◌, ◌*◌, ◌/◌, ◌^◌, ◌<◌, ◌≤◌, Bool, false, ◌&&◌, T, eqb, leb, pos, sym, refl, ap, ◌∙◌, subst, ap₂, le_trans, le_of_eq, le_refl, add-le-add, lt_irrefl, mul-le-mul_right, mul-le-mul, mul-le-mul_left, le_of_mul-le-mul_right, arith, lit<, lit≤, eqb→eq, leb→le}
use native.Mathlib.Nat.{mul-mul-mul_comm}
use lib.Ieee.{Float, fin, binary64, neg, sub, fits, of_bits}
use lib.Ieee.Scale.{finite}
use Rattle.floats.specs.Operations.{◌⊕◌, ◌⊖◌, ◌⊗◌}
use Rattle.double_double.specs.DoubleDouble.{splitter, split, from_exact_mult, from_full_exact_add, full_add_f64, dd_fmla}
use Rattle.tables.specs.Tables.{entry, log2p1_compoundf_inv}
use Rattle.tables.proofs.Entries.{carried}
use Rattle.special.specs.Special.{one, minus_one}
use Rattle.fast_path.specs.Fast.{inverse_index, HasInverse}
use Rattle.bounds.proofs.Values.{per_one, per_one_pos, plus, less, mag}
use Rattle.bounds.proofs.Operation.{limit, mul_near}
use Rattle.bounds.proofs.Scales.{S}
use Rattle.bounds.proofs.Compared.{Positive, positive_at}
use Rattle.bounds.proofs.Exactly.{minus_one_count, around, full_exact}
use Rattle.bounds.proofs.Grids.{Grid, grid_pos, grid53, Count, count_mag, count_as, finer, count_same, count_sum, count_difference, count_product, NotMinusNought, not_minus_nought, sums_same}
use Rattle.fast_path.proofs.Halved.{unit26, Halved, split_halved, cut_halved}
use Rattle.fast_path.proofs.InverseRange.{inverse_range}
use Rattle.fast_path.proofs.InverseSlot.{product_slot}
pub use Rattle.fast_path.proofs.OnePlus.{is_1}

-- 2^-8, 2^-34 and 2^-61 in units
unfoldable unit8 : ℕ
unit8 = 2 ^ 1066

unfoldable unit34 : ℕ
unit34 = 2 ^ 1040

unfoldable unit61 : ℕ
unit61 = 2 ^ 1013

grid8 : Grid unit8
unfolding unit8
grid8 = record { digits = 1066; is = refl; low = lit≤ tt }

grid34 : Grid unit34
unfolding unit34
grid34 = record { digits = 1040; is = refl; low = lit≤ tt }

grid61 : Grid unit61
unfolding unit61
grid61 = record { digits = 1013; is = refl; low = lit≤ tt }

unit8_26 : unit8 * unit26 ≡ unit34 * per_one
unfolding unit8 unit26 unit34 per_one
unit8_26 = refl

unit8_53 : unit8 * S ≡ unit61 * per_one
unfolding unit8 S unit61 per_one
unit8_53 = refl

one_unit8 : per_one * unit8 ≡ unit8 * per_one
unfolding unit8 per_one
one_unit8 = refl

unit34_53 : unit34 ≡ 2 ^ 19 * S
unfolding unit34 S
unit34_53 = refl

unit34_61 : unit34 ≡ 2 ^ 27 * unit61
unfolding unit34 unit61
unit34_61 = refl

unit53_61 : S ≡ 2 ^ 8 * unit61
unfolding S unit61
unit53_61 = refl

-- ---- `split` of a whole number of 2^-8 below 2: itself and nothing
module _ {R : ℕ} {r : Float} (a : Count unit8 R 0 r) (few : R ≤ 2 ^ 9) where
  splitter_count : Count per_one 134217729 0 splitter
  unfolding per_one
  splitter_count = record { number = record { held = unfold fits in tt; plain = tt }; is = refl }

  -- 2^27 + 1 times it
  first : Count unit8 (134217729 * R) (134217729 * 0) (splitter ⊗ r)
  first = count_product grid8 one_unit8 splitter_count a (go R few).0 (go R few).1
    where
      go : (R : ℕ) → R ≤ 2 ^ 9 → (134217729 * R < 134217729 * 0 + 2 ^ 53) × (134217729 * 0 < 134217729 * R + 2 ^ 53)
      go R h = (omega arith, omega arith)

  split_hi : Count unit8 R 0 (split r).hi
  unfolding split
  split_hi =
      let second = count_difference grid8 a first (less_two R few).0 (less_two R few).1 in
      count_as R 0 (count_sum grid8 first second (sum_two R few).0 (sum_two R few).1) (same R)
    where
      less_two : (R : ℕ) → R ≤ 2 ^ 9 → (R + 134217729 * 0 < 0 + 134217729 * R + 2 ^ 53) × (0 + 134217729 * R < R + 134217729 * 0 + 2 ^ 53)
      less_two R h = (omega arith, omega arith)

      sum_two : (R : ℕ) → R ≤ 2 ^ 9 → (134217729 * R + (R + 134217729 * 0) < 134217729 * 0 + (0 + 134217729 * R) + 2 ^ 53) × (134217729 * 0 + (0 + 134217729 * R) < 134217729 * R + (R + 134217729 * 0) + 2 ^ 53)
      sum_two R h = (omega arith, omega arith)

      same : (R : ℕ) → 134217729 * R + (R + 134217729 * 0) + 0 ≡ 134217729 * 0 + (0 + 134217729 * R) + R
      same R = omega arith

  split_lo : Count unit8 0 0 (split r).lo
  unfolding split
  split_lo = count_as 0 0 (count_difference grid8 a split_hi (small R few).0 (small R few).1) (same R)
    where
      small : (R : ℕ) → R ≤ 2 ^ 9 → (R + 0 < 0 + R + 2 ^ 53) × (0 + R < R + 0 + 2 ^ 53)
      small R h = (omega arith, omega arith)

      same : (R : ℕ) → R + 0 + 0 ≡ 0 + R + 0
      same R = omega arith

-- ---- the products with the parts of t
-- R at most 2^9 and the parts as they are
module _ {R T : ℕ} {r h l : Float} (a : Count unit8 R 0 r) (few : R ≤ 2 ^ 9) (o : Halved T h l) where
  hi_few : R * o.H ≤ 2 ^ 37
  hi_few = le_trans (mul-le-mul few o.few) (lit≤ tt)

  times_hi : Count unit34 (R * o.H) (R * 0) (r ⊗ h)
  times_hi = count_product grid34 unit8_26 a o.hi (go R (R * o.H) hi_few).0 (go R (R * o.H) hi_few).1
    where
      go : (R k : ℕ) → k ≤ 2 ^ 37 → (k < R * 0 + 2 ^ 53) × (R * 0 < k + 2 ^ 53)
      go R k h = (omega arith, omega arith)

  -- R × T and R × H × 2^27 are near each other
  products_near : (R * T ≤ R * (o.H * 2 ^ 27) + 2 ^ 38) × (R * (o.H * 2 ^ 27) ≤ R * T + 2 ^ 38)
  products_near = (near T (o.H * 2 ^ 27) o.upper, near (o.H * 2 ^ 27) T o.lower)
    where
      near : (x y : ℕ) → x ≤ y + 2 ^ 29 → R * x ≤ R * y + 2 ^ 38
      near x y h = le_trans (mul-le-mul_left R h) (le_trans (le_of_eq (spread R y)) (add-le-add (le_refl (R * y)) (le_trans (mul-le-mul_right (2 ^ 29) few) (lit≤ tt))))
        where
          spread : (R y : ℕ) → R * (y + 2 ^ 29) ≡ R * y + R * 2 ^ 29
          spread R y = omega arith

  times_lo : Count unit61 (R * T) (R * (o.H * 2 ^ 27)) (r ⊗ l)
  times_lo = count_product grid61 unit8_53 a o.lo (go (R * T) (R * (o.H * 2 ^ 27)) products_near.0) (go (R * (o.H * 2 ^ 27)) (R * T) products_near.1)
    where
      go : (x y : ℕ) → x ≤ y + 2 ^ 38 → x < y + 2 ^ 53
      go x y h = omega arith

-- ---- the plain form
minus_one_34 : Count unit34 0 (2 ^ 34) minus_one
unfolding unit34
minus_one_34 = record { number = record { held = unfold fits in tt; plain = tt }; is = refl }

-- -1 is not -0
minus_one_not : NotMinusNought minus_one
minus_one_not z = absurd (lt_irrefl 0 (subst (λ (k : ℕ). 0 < k) z (lit< tt)))

module _ {R T : ℕ} {r h l : Float} (a : Count unit8 R 0 r) (few : R ≤ 2 ^ 9) (o : Halved T h l) where
  plain_high : Count unit34 (R * o.H) (2 ^ 34) (r ⊗ h ⊖ one)
  unfolding sub neg
  plain_high = count_as (R * o.H) (2 ^ 34) (count_sum grid34 (times_hi a few o) minus_one_34 (go R (R * o.H) (hi_few a few o)).0 (go R (R * o.H) (hi_few a few o)).1) (same R (R * o.H))
    where
      go : (R k : ℕ) → k ≤ 2 ^ 37 → (k + 0 < R * 0 + 2 ^ 34 + 2 ^ 53) × (R * 0 + 2 ^ 34 < k + 0 + 2 ^ 53)
      go R k h = (omega arith, omega arith)

      same : (R k : ℕ) → k + 0 + 2 ^ 34 ≡ R * 0 + 2 ^ 34 + k
      same R k = omega arith

  plain_high_not : NotMinusNought (r ⊗ h ⊖ one)
  unfolding sub neg
  plain_high_not = not_minus_nought grid34 (times_hi a few o) minus_one_34 (go R (R * o.H) (hi_few a few o)).0 (go R (R * o.H) (hi_few a few o)).1 minus_one_not
    where
      go : (R k : ℕ) → k ≤ 2 ^ 37 → (k + 0 < R * 0 + 2 ^ 34 + 2 ^ 53) × (R * 0 + 2 ^ 34 < k + 0 + 2 ^ 53)
      go R k h = (omega arith, omega arith)

-- ---- `dd_fmla`
-- nothing added
beside_nothing : {p n : ℕ} {z x : Float} → Count unit61 0 0 z → Count unit61 p n x → p < n + 2 ^ 53 → n < p + 2 ^ 53 → Count unit61 p n (z ⊕ x)
beside_nothing {p} {n} a b h l = count_as p n (count_sum grid61 a b (go p n h) (go n p l)) (same p n)
  where
    go : (p n : ℕ) → p < n + 2 ^ 53 → 0 + p < 0 + n + 2 ^ 53
    go p n h = omega arith

    same : (p n : ℕ) → 0 + p + n ≡ 0 + n + p
    same p n = omega arith

nothing : Count unit61 0 0 (fin false 0 (pos 0))
unfolding unit61
nothing = record { number = record { held = unfold fits in tt; plain = tt }; is = refl }

-- the rounded product is Q × 2^-53, near 1 and near the exact product
record Near (R T Q : ℕ) : Type 0 where
  least : 2 ^ 52 ≤ Q
  most : Q ≤ 3 * 2 ^ 52
  upper : R * T ≤ Q * 2 ^ 8 + 2 ^ 11
  lower : Q * 2 ^ 8 ≤ R * T + 2 ^ 11

module _ {R T Q : ℕ} {r : Float} (t : Float) (a : Count unit8 R 0 r) (few : R ≤ 2 ^ 9) (q : Count S Q 0 (r ⊗ t)) (near : Near R T Q) (o : Halved T (split t).hi (split t).lo) where
  -- lo of the product is what the rounding lost
  lost : Count unit61 (R * T) (Q * 2 ^ 8) (from_exact_mult r t).lo
  unfolding from_exact_mult
  lost =
      let ah = split_hi a few in
      let al = split_lo a few in
      let H = o.H in
      let n = products_near a few o in
      let d1 = count_difference grid53 (finer (2 ^ 19) S unit34_53 (times_hi ah few o)) q (first R H (R * T) Q n.1 near.upper) (second R H (R * T) Q n.0 near.lower) in
      let s = sizes (R * T) (Q * 2 ^ 8) near.upper near.lower in
      let d2 = count_as (R * T) (Q * 2 ^ 8) (count_sum grid61 (times_lo ah few o) (finer (2 ^ 8) unit61 unit53_61 d1) (third R H (R * T) Q near.upper) (fourth R H (R * T) Q near.lower)) (same R H T Q) in
      let p3 = count_as 0 0 (finer (2 ^ 27) unit61 unit34_61 (times_hi al (lit≤ tt) o)) (none H) in
      let p4 = count_as 0 0 (times_lo al (lit≤ tt) o) (none_low T H) in
      beside_nothing p4 (beside_nothing p3 d2 s.0 s.1) s.0 s.1
    where
      first : (R H P Q : ℕ) → R * (H * 2 ^ 27) ≤ P + 2 ^ 38 → P ≤ Q * 2 ^ 8 + 2 ^ 11 → R * H * 2 ^ 19 + 0 < R * 0 * 2 ^ 19 + Q + 2 ^ 53
      first R H P Q g h = omega arith

      second : (R H P Q : ℕ) → P ≤ R * (H * 2 ^ 27) + 2 ^ 38 → Q * 2 ^ 8 ≤ P + 2 ^ 11 → R * 0 * 2 ^ 19 + Q < R * H * 2 ^ 19 + 0 + 2 ^ 53
      second R H P Q g h = omega arith

      third : (R H P Q : ℕ) → P ≤ Q * 2 ^ 8 + 2 ^ 11 → P + (R * H * 2 ^ 19 + 0) * 2 ^ 8 < R * (H * 2 ^ 27) + (R * 0 * 2 ^ 19 + Q) * 2 ^ 8 + 2 ^ 53
      third R H P Q h = omega arith

      fourth : (R H P Q : ℕ) → Q * 2 ^ 8 ≤ P + 2 ^ 11 → R * (H * 2 ^ 27) + (R * 0 * 2 ^ 19 + Q) * 2 ^ 8 < P + (R * H * 2 ^ 19 + 0) * 2 ^ 8 + 2 ^ 53
      fourth R H P Q h = omega arith

      sizes : (x y : ℕ) → x ≤ y + 2 ^ 11 → y ≤ x + 2 ^ 11 → (x < y + 2 ^ 53) × (y < x + 2 ^ 53)
      sizes x y h l = (omega arith, omega arith)

      same : (R H T Q : ℕ) → R * T + (R * H * 2 ^ 19 + 0) * 2 ^ 8 + Q * 2 ^ 8 ≡ R * (H * 2 ^ 27) + (R * 0 * 2 ^ 19 + Q) * 2 ^ 8 + R * T
      same R H T Q = omega arith

      none : (H : ℕ) → 0 * H * 2 ^ 27 + 0 ≡ 0 * 0 * 2 ^ 27 + 0
      none H = omega arith

      none_low : (T H : ℕ) → 0 * T + 0 ≡ 0 * (H * 2 ^ 27) + 0
      none_low T H = omega arith

  -- the product less 1
  range : (Q + 0 < 0 + 2 ^ 53 + 2 ^ 53) × (0 + 2 ^ 53 < Q + 0 + 2 ^ 53)
  range = go Q near.least near.most
    where
      go : (Q : ℕ) → 2 ^ 52 ≤ Q → Q ≤ 3 * 2 ^ 52 → (Q + 0 < 0 + 2 ^ 53 + 2 ^ 53) × (0 + 2 ^ 53 < Q + 0 + 2 ^ 53)
      go Q l h = (omega arith, omega arith)

  high : Count S (Q + 0) (0 + 2 ^ 53) (r ⊗ t ⊕ minus_one)
  high = count_sum grid53 q minus_one_count range.0 range.1

  high_not : NotMinusNought (r ⊗ t ⊕ minus_one)
  high_not = not_minus_nought grid53 q minus_one_count range.0 range.1 minus_one_not

  -- lo of the full add
  low : Count unit61 (R * T) (Q * 2 ^ 8) ((from_exact_mult r t).lo ⊕ (from_full_exact_add (r ⊗ t) minus_one).lo)
  low =
      let e = full_exact q.number minus_one_count.number high.number
      (exact (plus (r ⊗ t ⊕ minus_one)) (less (r ⊗ t ⊕ minus_one)) (plus (r ⊗ t)) (less (r ⊗ t)) (plus minus_one) (less minus_one) Q S high.is q.is minus_one_count.is) in
      count_as (R * T) (Q * 2 ^ 8) (count_sum grid61 lost (count_same e nothing) (sizes (R * T) (Q * 2 ^ 8) near.upper) (sizes (Q * 2 ^ 8) (R * T) near.lower)) (same (R * T) (Q * 2 ^ 8))
    where
      exact : (ps ns ph nh pm nm Q s : ℕ) → ps + (0 + 2 ^ 53) * s ≡ ns + (Q + 0) * s → ph + 0 * s ≡ nh + Q * s → pm + 2 ^ 53 * s ≡ nm + 0 * s → ps + nh + nm ≡ ns + ph + pm
      exact ps ns ph nh pm nm Q s e f g = omega arith

      sizes : (x y : ℕ) → x ≤ y + 2 ^ 11 → x + 0 < y + 0 + 2 ^ 53
      sizes x y h = omega arith

      same : (x y : ℕ) → x + 0 + y ≡ y + 0 + x
      same x y = omega arith

  definition_is : (from_exact_mult r t).lo ⊕ (from_full_exact_add (r ⊗ t) minus_one).lo ⊕ (r ⊗ t ⊕ minus_one) ≡ dd_fmla r t minus_one
  unfolding dd_fmla full_add_f64 from_full_exact_add from_exact_mult
  definition_is = refl

  form_same : (h l : Float) → Halved T h l → r ⊗ l ⊕ (r ⊗ h ⊖ one) ≡ dd_fmla r t minus_one
  form_same h l p =
      let a1 = times_lo a few p in
      let b1 = plain_high a few p in
      sums_same a1.number b1.number low.number high.number (plain_high_not a few p) high_not
      (level (plus (r ⊗ l)) (less (r ⊗ l)) (plus (r ⊗ h ⊖ one)) (less (r ⊗ h ⊖ one)) _ _ (plus (r ⊗ t ⊕ minus_one)) (less (r ⊗ t ⊕ minus_one)) R p.H T Q unit61 S unit34 unit53_61 unit34_61 a1.is b1.is low.is high.is)
      ∙ definition_is
    where
      level : (px nx py ny pu nu pv nv R H T Q v s m : ℕ) → s ≡ 2 ^ 8 * v → m ≡ 2 ^ 27 * v → px + R * (H * 2 ^ 27) * v ≡ nx + R * T * v → py + 2 ^ 34 * m ≡ ny + R * H * m → pu + Q * 2 ^ 8 * v ≡ nu + R * T * v
          → pv + (0 + 2 ^ 53) * s ≡ nv + (Q + 0) * s → px + py + (nu + nv) ≡ nx + ny + (pu + pv)
      level px nx py ny pu nu pv nv R H T Q v s m e f a b c d = go (subst (λ (k : ℕ). py + 2 ^ 34 * k ≡ ny + R * H * k) f b) (subst (λ (k : ℕ). pv + (0 + 2 ^ 53) * k ≡ nv + (Q + 0) * k) e d)
        where
          go : py + 2 ^ 34 * (2 ^ 27 * v) ≡ ny + R * H * (2 ^ 27 * v) → pv + (0 + 2 ^ 53) * (2 ^ 8 * v) ≡ nv + (Q + 0) * (2 ^ 8 * v) → px + py + (nu + nv) ≡ nx + ny + (pu + pv)
          go b d = omega (arith, a, b, c, d)

-- ---- the inverses of the table
abbrev number : ℕ → ℕ
number k = plus (entry log2p1_compoundf_inv k) / 2 ^ 1066

abbrev has_few : ℕ → Bool
has_few k =
    fits binary64 (entry log2p1_compoundf_inv k) && finite (entry log2p1_compoundf_inv k) && eqb (plus (entry log2p1_compoundf_inv k) + 0 * 2 ^ 1066) (less (entry log2p1_compoundf_inv k) + number k * 2 ^ 1066)
    && leb (number k) (2 ^ 9)

record Inverse (r : Float) : Type 0 where
  R : ℕ
  few : R ≤ 2 ^ 9
  count : Count unit8 R 0 r

tested_inverse : (k : ℕ) → T (has_few k) → Inverse (entry log2p1_compoundf_inv k)
unfolding unit8
tested_inverse k t =
    let x = entry log2p1_compoundf_inv k in
    record { R = number k; few = leb→le (number k) (2 ^ 9) (search rules); count = record { number = record { held = search rules; plain = search rules }; is = eqb→eq (plus x + 0 * 2 ^ 1066) (less x + number k * 2 ^ 1066) (search rules) } }

inverse_is : (k : ℕ) → k < 46 → Inverse (entry log2p1_compoundf_inv k)
unfolding entry log2p1_compoundf_inv of_bits fits
inverse_is k h = tested_inverse k (carried 46 has_few tt k h)

-- the rounded product
near_of : {R T Q : ℕ} {r t : Float} → Count unit8 R 0 r → Count S T 0 t → Count S Q 0 (r ⊗ t) → R ≤ 2 ^ 9 → T ≤ 3 * 2 ^ 52 → (R * T ≤ Q * 2 ^ 8 + 2 ^ 11) × (Q * 2 ^ 8 ≤ R * T + 2 ^ 11)
near_of {R} {T} {Q} {r} {t} a c q few most =
    let P : R * T ≤ 2 ^ 63 = le_trans (mul-le-mul few most) (lit≤ tt) in
    let is : mag r * mag t ≡ R * T * (unit61 * per_one) = ap₂ ◌*◌ (count_mag a) (count_mag c) ∙ mul-mul-mul_comm R unit8 T S ∙ ap (λ (k : ℕ). R * T * k) unit8_53 in
    let size : mag (r ⊗ t) ≡ Q * (2 ^ 8 * unit61) = count_mag q ∙ ap (λ (k : ℕ). Q * k) unit53_61 in
    let m = mul_near a.number c.number (subst (λ (k : ℕ). k ≤ limit * per_one) (sym is) (in_limit (R * T) P)) in (
      under Q (R * T) unit61 per_one P positive per_one_pos (subst (λ (k : ℕ). k * 2 ^ 53 ≤ Q * (2 ^ 8 * unit61) * per_one * 2 ^ 53 + k + per_one * 2 ^ 52) is (subst (λ (k : ℕ). mag r * mag t * 2 ^ 53 ≤ k * per_one * 2 ^ 53 + mag r * mag t + per_one * 2 ^ 52) size m.least)),
      over Q (R * T) unit61 per_one P positive per_one_pos (subst (λ (k : ℕ). k * per_one * 2 ^ 53 ≤ R * T * (unit61 * per_one) * 2 ^ 53 + R * T * (unit61 * per_one) + per_one * 2 ^ 52) size (subst (λ (k : ℕ). mag (r ⊗ t) * per_one * 2 ^ 53 ≤ k * 2 ^ 53 + k + per_one * 2 ^ 52) is m.most)),
    )
  where
    positive : 0 < unit61
    positive = grid_pos grid61

    in_limit : (P : ℕ) → P ≤ 2 ^ 63 → P * (unit61 * per_one) ≤ limit * per_one
    in_limit P h = le_trans (mul-le-mul_right (unit61 * per_one) h) (unfold unit61 per_one limit in lit≤ tt)

    -- 2^52 are at most 2^52 of v
    more : (k v : ℕ) → 0 < v → k * v + 2 ^ 52 ≤ (k + 2 ^ 52) * v
    more k v h = le_trans (add-le-add (le_refl (k * v)) (at_least v h)) (le_of_eq (gathered k v))
      where
        at_least : (v : ℕ) → 0 < v → 2 ^ 52 ≤ 2 ^ 52 * v
        at_least v h = omega arith

        gathered : (k v : ℕ) → k * v + 2 ^ 52 * v ≡ (k + 2 ^ 52) * v
        gathered k v = omega arith

    over : (Q P v w : ℕ) → P ≤ 2 ^ 63 → 0 < v → 0 < w → Q * (2 ^ 8 * v) * w * 2 ^ 53 ≤ P * (v * w) * 2 ^ 53 + P * (v * w) + w * 2 ^ 52 → Q * 2 ^ 8 ≤ P + 2 ^ 11
    over Q P v w h some unit g = last Q P h (le_of_mul-le-mul_right (le_trans (le_of_mul-le-mul_right (first Q P v w g) unit) (more (P * 2 ^ 53 + P) v some)) some)
      where
        first : (Q P v w : ℕ) → Q * (2 ^ 8 * v) * w * 2 ^ 53 ≤ P * (v * w) * 2 ^ 53 + P * (v * w) + w * 2 ^ 52 → Q * 2 ^ 61 * v * w ≤ ((P * 2 ^ 53 + P) * v + 2 ^ 52) * w
        first Q P v w g = omega arith

        last : (Q P : ℕ) → P ≤ 2 ^ 63 → Q * 2 ^ 61 ≤ P * 2 ^ 53 + P + 2 ^ 52 → Q * 2 ^ 8 ≤ P + 2 ^ 11
        last Q P h g = omega arith

    under : (Q P v w : ℕ) → P ≤ 2 ^ 63 → 0 < v → 0 < w → P * (v * w) * 2 ^ 53 ≤ Q * (2 ^ 8 * v) * w * 2 ^ 53 + P * (v * w) + w * 2 ^ 52 → P ≤ Q * 2 ^ 8 + 2 ^ 11
    under Q P v w h some unit g = last Q P h (le_of_mul-le-mul_right (le_trans (le_of_mul-le-mul_right (first Q P v w g) unit) (more (Q * 2 ^ 61 + P) v some)) some)
      where
        first : (Q P v w : ℕ) → P * (v * w) * 2 ^ 53 ≤ Q * (2 ^ 8 * v) * w * 2 ^ 53 + P * (v * w) + w * 2 ^ 52 → P * 2 ^ 53 * v * w ≤ ((Q * 2 ^ 61 + P) * v + 2 ^ 52) * w
        first Q P v w g = omega arith

        last : (Q P : ℕ) → P ≤ 2 ^ 63 → P * 2 ^ 53 ≤ Q * 2 ^ 61 + P + 2 ^ 52 → P ≤ Q * 2 ^ 8 + 2 ^ 11
        last Q P h g = omega arith

-- ---- the law
minus_one_same : (t : Float) → Positive (5 * 2 ^ 50) (3 * 2 ^ 52) t → HasInverse t
    → let r = entry log2p1_compoundf_inv (inverse_index t) in
    let th = t ⊕ fin false 1 (pos 26) ⊖ fin false 1 (pos 26) in
    r ⊗ (t ⊖ th) ⊕ (r ⊗ th ⊖ one) ≡ dd_fmla r t minus_one
minus_one_same t b has =
    let r = inverse_is (inverse_index t) has.1 in
    let wide = positive_at (2 ^ 52) (3 * 2 ^ 52) b tt tt in
    let c = around wide in
    let q = around (positive_at (2 ^ 52) (3 * 2 ^ 52) (product_slot t wide has) tt tt) in
    let n = near_of r.count c.count q.count r.few c.most in
    form_same t r.count r.few q.count (record { least = q.least; most = q.most; upper = n.0; lower = n.1 }) (split_halved b c) _ _ (cut_halved b c)

-- ---- what proves `times_minus_one`
pub minus_one_lem : (r t : Float) → T (fits binary64 t) → HasInverse t → r ≡ entry log2p1_compoundf_inv (inverse_index t)
    → r ⊗ (t ⊖ (t ⊕ fin false 1 (pos 26) ⊖ fin false 1 (pos 26))) ⊕ (r ⊗ (t ⊕ fin false 1 (pos 26) ⊖ fin false 1 (pos 26)) ⊖ one) ≡ dd_fmla r t minus_one
minus_one_lem r t f h e =
    let hi = t ⊕ fin false 1 (pos 26) ⊖ fin false 1 (pos 26) in
    subst (λ (r : Float). r ⊗ (t ⊖ hi) ⊕ (r ⊗ hi ⊖ one) ≡ dd_fmla r t minus_one) (sym e) (minus_one_same t (inverse_range t f h) h)

-- 2^26
pub is_wide : of_bits binary64 0x4190000000000000 ≡ fin false 1 (pos 26)
unfolding of_bits
is_wide = refl

pub ruleset less_one = (is_1, is_wide, minus_one_lem)
