-- The slow path gives a number whose sign is clear (`slow_clear`). Its two logarithms are on one scale, so that where the fast one times y is at most 150 in size, the
-- accurate one times y is below 1000 and has a second part of at most 2^-31, and the end of the path is as `ExpSign` has it. So no index and no k is cut (`slow_index`,
-- `slow_k_lem`). Assumes nothing.
use mathlib.Core.Path.{◌≡◌, refl, sym, ap, ap₂, ◌∙◌, subst}
use mathlib.Core.Logic.{◌⊎◌, inl, inr}
use mathlib.Core.Bool.{Bool, true, false, cond, true≢false}
use Prim.Native.Nat.{ℕ, ◌+◌, ◌*◌, ◌%◌, ◌^◌, ◌≤◌, ◌<◌}
use native.Mathlib.Nat.{le_refl, le_trans, le_of_eq, le_of_lt, lt_of_lt_of_le, mul_assoc, mul-le-mul_right, mul-pos, mul-one, not-le_of_lt}
use native.Mathlib.Omega.{arith}
use borrow.Author.Tests.{le-ltb}
use lib.Dec.{T, leb, ltb, lit≤, lit<}
use lib.IntN.{pos, negsuc}
use lib.Ieee.{Float, nan, inf, fin, binary32, binary64, up, down, size, fits, to_bits, of_bits, add, lt, le, eq, to_signed}
use lib.Ieee.Fits.{and_r, sub-fits}
use lib.Ieee.Scale.{finite}
use Rattle.std.proofs.lemmas.Bool.{cond_both}
use Rattle.filter.specs.Right.{Inside}
use Rattle.filter.proofs.Limits.{lower_edge_units, upper_edge_units}
use Rattle.filter.proofs.Settled.{beside}
use Rattle.fast_path.specs.Edges.{lower_edge, upper_edge, gives_zero, gives_infinity}
use Rattle.floats.specs.Operations.{◌⊕◌, ◌⊖◌, ◌⊗◌, f64}
use Rattle.floats.specs.Narrowing.{narrowed, nearest_whole}
use Rattle.floats.specs.OnBits.{absolute}
use Rattle.floats.proofs.Laws.Narrow.{narrowed_same}
use Rattle.floats.proofs.Laws.Order.{clear}
use Rattle.floats.proofs.Laws.Sums.{whole_distance, SizeAtMost, whole_at_most}
use Rattle.floats.proofs.Laws.Place.{place}
use Rattle.floats.proofs.Laws.Units.{exponent, bits_of_value}
use Rattle.double_double.specs.declared.DoubleDouble.{DoubleDouble}
use Rattle.double_double.specs.DoubleDouble.{from_exact_add, quick_mult_f64}
use Rattle.special.specs.Special as Special
use Rattle.special.specs.Special.{one, minus_one}
use Rattle.fast_path.specs.Fast.{compoundf_log2p1_fast, HasPower}
use Rattle.slow_path.specs.Slow.{clamped_k, one_plus, compoundf_log2p1_accurate, is_near_one, exp2_away, exp2_accurate, compoundf_accurate}
use Rattle.special.specs.Operands.{Tabled}
use Rattle.compound.specs.Route.{}
use Rattle.fast_path.proofs.Index.{between_finite}
use Rattle.fast_path.proofs.OnePlus.{sum_clear, sum_bits}
use Rattle.floats.proofs.Laws.Tests.{second}
use Rattle.bounds.proofs.Values.{per_one, plus, less, mag, mag_of, one_side, Number}
use Rattle.bounds.proofs.Sums.{sides}
use Rattle.bounds.proofs.Scales.{S, S_pos, one_is, unit, unit_left, Bound, Bounds, at, onto, mul_bound, quick_f64_bounds, product_k, quick_f64_lo_k, tested}
use Rattle.bounds.proofs.Compared.{Positive, positive_add, le_units, le_of_units, gt_of_not_le, units_in_size}
use Rattle.bounds.proofs.OwnScale.{Nil, nil_product}
use Rattle.answers.proofs.Slow.ExpSign.{index_inside, away_clear}
use Rattle.slow_path.proofs.LogCases.{parted_logs}
use Rattle.slow_path.proofs.Logs.{Logs}
use Rattle.answers.proofs.Slow.Lost.{lost_logs}
use Rattle.slow_path.proofs.LowPart.{one_is_1, f32_number, f32_bound}
use Rattle.slow_path.proofs.OnePlusParts.{Above, above_of, absolute_units, Parted, parted_low, parted_high}
use Rattle.slow_path.proofs.Exponent.{y_own, through}
use Rattle.answers.proofs.Signs.Plain.{plain_narrowed}
use Rattle.answers.proofs.Signs.TableValues.{SlowClear}

-- ---- the two logarithms, for every x
abbrev tiny : Float
tiny = fin false 1 (negsuc 52)

tiny_is : Number tiny × (plus tiny ≡ S) × (less tiny ≡ 0)
unfolding fits S
tiny_is = (record { held = tt; plain = tt }, refl, refl)

module _ (x : Float) (f : T (fits binary32 x)) (p : T (finite x)) (h : T (lt minus_one x)) where
  num : Number x × (mag x ≤ 2 ^ 128 * per_one)
  num = f32_number x f p

  on_scale : Bound S (2 ^ 181) x
  on_scale = f32_bound x num.0 num.1

  -- where hi is the f64 sum
  by_parts : (v : DoubleDouble) → one_plus x ≡ v → (Above x → Parted x v) → Logs (compoundf_log2p1_fast x) (compoundf_log2p1_accurate x) ⊎ Nil (compoundf_log2p1_fast x)
  by_parts v e parted =
      let bits = sum_bits x f p h in
      parted_logs x (to_bits binary64 (one ⊕ x)) refl bits.0 bits.1 on_scale (subst (Parted x) (sym e) (parted (above_of x f p h)))

  -- below 2^-53
  below_tiny : le tiny (absolute (narrowed x)) ≡ false → mag x ≤ S
  below_tiny e =
      let w = absolute_units x num.0 in
      let o = gt_of_not_le tiny (absolute x) tiny_is.0 w.0 (subst (λ (k : Float). le tiny (absolute k) ≡ false) (narrowed_same x f) e) in
      under (plus tiny) (less tiny) (plus (absolute x)) (less (absolute x)) (mag x) S tiny_is.1 tiny_is.2 w.1 w.2 o
    where
      under : (p n q m x s : ℕ) → p ≡ s → n ≡ 0 → q ≡ x → m ≡ 0 → q + n < p + m → x ≤ s
      under p n q m x s a b c d h = omega arith

  pub both_logs : Logs (compoundf_log2p1_fast x) (compoundf_log2p1_accurate x) ⊎ Nil (compoundf_log2p1_fast x)
  both_logs = go (le x one) refl (le tiny (absolute (narrowed x))) refl
    where
      Parts : Bool → Bool → DoubleDouble
      Parts b c = cond b (cond c (from_exact_add one x) (record { lo = x; hi = one })) (from_exact_add x one)

      split : (b c : Bool) → le x one ≡ b → le tiny (absolute (narrowed x)) ≡ c → one_plus x ≡ Parts b c
      split b c g k = unfold one_plus in ap₂ Parts g k

      go : (b : Bool) → le x one ≡ b → (c : Bool) → le tiny (absolute (narrowed x)) ≡ c → Logs (compoundf_log2p1_fast x) (compoundf_log2p1_accurate x) ⊎ Nil (compoundf_log2p1_fast x)
      go true g true k = by_parts (from_exact_add one x) (split true true g k) (λ a. parted_low x a (subst T (sym g) tt))
      go true g false k = lost_logs x num.0 (below_tiny k) (split true false g k)
      go false g c k = by_parts (from_exact_add x one) (split false c g k) (λ a. parted_high x a (le_of_units one x one_is_1.number num.0 (le_of_lt (gt_of_not_le x one num.0 one_is_1.number g))))

-- ---- t = l × y
-- where the slow path is taken its size is 150 at most
t_size : (t : Float) → Number t → gives_zero t ≡ false → gives_infinity t ≡ false → mag t ≤ 150 * per_one
t_size t n g h =
    let low = gt_of_not_le t lower_edge n lower_edge_units.0 g in
    let high = gt_of_not_le upper_edge t upper_edge_units.0 n h in
    sized (plus t) (less t) (plus lower_edge) (less lower_edge) (plus upper_edge) (less upper_edge) per_one (one_side t) edges.0 edges.1 edges.2 edges.3 low high
  where
    edges : (plus lower_edge ≡ 0) × (less lower_edge ≡ 150 * per_one) × (plus upper_edge ≡ 128 * per_one) × (less upper_edge ≡ 0)
    edges = unfold per_one in (refl, refl, refl, refl)

    sized : (p n a b c d w : ℕ) → (p ≡ 0) ⊎ (n ≡ 0) → a ≡ 0 → b ≡ 150 * w → c ≡ 128 * w → d ≡ 0 → a + n < p + b → p + d < c + n → p + n ≤ 150 * w
    sized p n a b c d w (inl e) e1 e2 e3 e4 g h = omega arith
    sized p n a b c d w (inr e) e1 e2 e3 e4 g h = omega arith

-- ---- the exponent of the accurate path
module _ (l y : Float) (L : DoubleDouble) (logs : Logs l L) (Y : Number y) (y_most : mag y ≤ 2 ^ 128 * per_one) (T_size : mag (l ⊗ y) ≤ 150 * per_one) where
  pub exponent_bounds : Bounds (152 * S) (product_k (13 * 2 ^ 52) (2 ^ 53)) (quick_f64_lo_k (13 * 2 ^ 52) (2 ^ 14) (2 ^ 53)) (quick_mult_f64 L y)
  exponent_bounds = quick_f64_bounds (through l y logs.μ logs.size logs.above Y y_most T_size) logs.accurate (y_own y Y y_most) tt

  pub first_part : mag (quick_mult_f64 L y).hi ≤ 1000 * per_one
  first_part =
      le_trans exponent_bounds.hi.size
      (le_trans (le_of_eq (sym (mul_assoc (product_k (13 * 2 ^ 52) (2 ^ 53)) 152 S))) (le_trans (mul-le-mul_right S (lit≤ tt)) (le_of_eq (go S ∙ ap (λ (k : ℕ). 1000 * k) (sym one_is)))))
    where
      go : (s : ℕ) → 1000 * 2 ^ 53 * s ≡ 1000 * (s * 2 ^ 53)
      go s = omega arith

  pub second_part : Bound S (2 ^ 22) (quick_mult_f64 L y).lo
  second_part = onto S (2 ^ 22) unit exponent_bounds.lo (le_trans (le_of_eq (sym (mul_assoc (quick_f64_lo_k (13 * 2 ^ 52) (2 ^ 14) (2 ^ 53)) 152 S))) (mul-le-mul_right S (lit≤ tt)))

-- ---- 2 to that power
positive_clear : {a b : ℕ} {x : Float} → Positive a b x → 0 < a → T (clear x)
positive_clear {a} {b} {x} p h = go x p.number (lt_of_lt_of_le (mul-pos h S_pos) p.least)
  where
    go : (x : Float) → Number x → 0 < plus x → T (clear x)
    go nan n h = n.plain
    go (inf s) n h = absurd n.plain
    go (fin true m e) n h = absurd (not-le_of_lt h (le_refl 0))
    go (fin false m e) n h = tt

-- near 0 the answer is 1 and a little
abbrev least_exponent : Float
least_exponent = f64 0x3e6715476af0d4c8

abbrev half : Float
half = f64 0x3fe0000000000000

least_is : Bound S (2 ^ 30) least_exponent
unfolding of_bits fits
least_is = tested (2 ^ 30) least_exponent tt

half_is : Bound S (2 ^ 52) half
unfolding of_bits fits
half_is = tested (2 ^ 52) half tt

near_one_clear : (h : Float) → Number h → T (le (absolute h) least_exponent) → T (clear (narrowed (one ⊕ h ⊗ half)))
near_one_clear h n t =
    let w = absolute_units h n in
    let c = least_is in
    let H : Bound S (2 ^ 30) h = record { scale = unit; number = n; size = under (plus (absolute h)) (less (absolute h)) (plus least_exponent) (less least_exponent) (mag h) (2 ^ 30 * S) w.1 w.2 c.size (le_units (absolute h) least_exponent w.0 c.number t) } in
    let m = mul_bound (unit_left unit) H half_is tt tt in
    let s = positive_add one_is_1 (at (2 ^ 30) m tt) tt tt in
    (plain_narrowed (one ⊕ h ⊗ half) (positive_clear s (lit< tt))).is_clear
  where
    under : (p n q m x b : ℕ) → p ≡ x → n ≡ 0 → q + m ≤ b → p + m ≤ q + n → x ≤ b
    under p n q m x b e z h g = omega arith

-- 1/2 and -1/2
halves : Number (fin false 1 (negsuc 0)) × (plus (fin false 1 (negsuc 0)) ≡ 2 ^ 52 * S) × (less (fin false 1 (negsuc 0)) ≡ 0)
    × Number (fin true 1 (negsuc 0)) × (plus (fin true 1 (negsuc 0)) ≡ 0) × (less (fin true 1 (negsuc 0)) ≡ 2 ^ 52 * S)
unfolding fits S
halves = (record { held = tt; plain = tt }, refl, refl, record { held = tt; plain = tt }, refl, refl)

-- what is left over the nearest whole number is a half at most
distance : (h : Float) → Number h → Bound S (2 ^ 52) (h ⊖ nearest_whole h)
distance h n =
    let r = h ⊖ nearest_whole h in
    let d = whole_distance h n.held n.plain in
    let m : Number r = record { held = sub-fits binary64 h (nearest_whole h); plain = between_finite (fin true 1 (negsuc 0)) r (fin false 1 (negsuc 0)) tt tt d.0 d.1 } in
    let H = halves in
    record {
      scale = unit;
      number = m;
      size = sides (plus r) (less r) (2 ^ 52 * S) (one_side r)
          (above (plus r) (less r) (plus (fin false 1 (negsuc 0))) (less (fin false 1 (negsuc 0))) (2 ^ 52 * S) H.1 H.2 (le_units r (fin false 1 (negsuc 0)) m H.0 d.1))
          (below (plus r) (less r) (plus (fin true 1 (negsuc 0))) (less (fin true 1 (negsuc 0))) (2 ^ 52 * S) H.4 H.5 (le_units (fin true 1 (negsuc 0)) r H.3 m d.0));
    }
  where
    above : (p n q m b : ℕ) → q ≡ b → m ≡ 0 → p + m ≤ q + n → p ≤ n + b
    above p n q m b e z h = omega arith

    below : (p n q m b : ℕ) → q ≡ 0 → m ≡ b → q + n ≤ p + m → n ≤ p + b
    below p n q m b e z h = omega arith

tested_small : (k h : Float) → is_near_one k h ≡ true → T (le (absolute h) least_exponent)
unfolding is_near_one
tested_small k h e = and_r (eq k Special.zero) (le (absolute h) least_exponent) (subst T (sym e) tt)

pub exp2_clear : (t : DoubleDouble) → Number t.hi → Bound S (2 ^ 22) t.lo → T (clear (exp2_accurate t))
unfolding exp2_accurate
exp2_clear t n b = go (is_near_one (nearest_whole t.hi) t.hi) refl
  where
    go : (c : Bool) → is_near_one (nearest_whole t.hi) t.hi ≡ c → T (clear (cond c (narrowed (one ⊕ t.hi ⊗ half)) (exp2_away t (nearest_whole t.hi))))
    go true e = near_one_clear t.hi n (tested_small (nearest_whole t.hi) t.hi e)
    go false e = away_clear t (nearest_whole t.hi) (distance t.hi n) b

-- ---- a logarithm of 0 goes to the route `edge`
zero_bits : (t : Float) → T (fits binary64 t) → T (finite t) → mag t ≡ 0 → to_bits binary64 t * 2 % 2 ^ 64 ≡ 0
unfolding size
zero_bits nan f p h = absurd p
zero_bits (inf s) f p h = absurd p
zero_bits (fin s m e) f p h = ap (λ (n : ℕ). n * 2 % 2 ^ 64) (bits_of_value binary64 s m e f ∙ ap (λ (n : ℕ). cond s (2 ^ 63) 0 + place 53 n) (sym (mag_of s (m * 2 ^ exponent 1074 e)) ∙ h)) ∙ go s
  where
    go : (s : Bool) → (cond s (2 ^ 63) 0 + place 53 0) * 2 % 2 ^ 64 ≡ 0
    go true = refl
    go false = refl

nil_bits : (l y : Float) → Nil l → Number y → to_bits binary64 (l ⊗ y) * 2 % 2 ^ 64 ≡ 0
nil_bits l y z Y =
    let m = nil_product z Y in
    zero_bits (l ⊗ y) m.number.held m.number.plain m.is

-- ---- the theorem
one_plus_f32 : (x : Float) → T (finite x) → T (lt minus_one x) → T (clear (add binary32 one x))
one_plus_f32 nan p h = absurd p
one_plus_f32 (inf s) p h = absurd p
one_plus_f32 (fin s m e) p h = sum_clear binary32 s m e h

-- a k of at most 1000 in size is not cut
not_over : (a d : ℕ) → a ≤ 1000 * d → ltb (1000 * d) (a * 1) ≡ false
not_over a d h = le-ltb (1000 * d) (a * 1) (le_trans (le_of_eq (mul-one a)) h)

unclamped : (k : Float) → SizeAtMost 1000 k → to_signed 63 k ≡ clamped_k k
unfolding clamped_k lt
unclamped nan h = absurd h
unclamped (inf s) h = absurd h
unclamped (fin true m e) h = second (ltb (1000 * down e) (m * up e * 1)) (negsuc 999) (to_signed 63 (fin true m e)) (not_over (m * up e) (down e) h)
unclamped (fin false m e) h = second (ltb (1000 * down e) (m * up e * 1)) (pos 1000) (to_signed 63 (fin false m e)) (not_over (m * up e) (down e) h)

-- the exponent of the slow path, for every pair that takes it
record Exponent (t : DoubleDouble) : Type 0 where
  number : Number t.hi
  first : mag t.hi ≤ 1000 * per_one
  second : Bound S (2 ^ 22) t.lo

module _ (x y : Float) (tabled : Tabled x y) (inside : Inside (compoundf_log2p1_fast x ⊗ y)) where
  Y : Number y × (mag y ≤ 2 ^ 128 * per_one)
  Y = f32_number y tabled.y_fits tabled.y_finite

  slow_exponent_lem : Exponent (quick_mult_f64 (compoundf_log2p1_accurate x) y)
  slow_exponent_lem = go (both_logs x tabled.base.x_fits tabled.base.x_finite tabled.base.x_above)
    where
      go : Logs (compoundf_log2p1_fast x) (compoundf_log2p1_accurate x) ⊎ Nil (compoundf_log2p1_fast x) → Exponent (quick_mult_f64 (compoundf_log2p1_accurate x) y)
      go (inl logs) =
          let t = t_size (compoundf_log2p1_fast x ⊗ y) (beside x y tabled).number inside.above inside.below in
          record {
            number = (exponent_bounds (compoundf_log2p1_fast x) y (compoundf_log2p1_accurate x) logs Y.0 Y.1 t).hi.number;
            first = first_part (compoundf_log2p1_fast x) y (compoundf_log2p1_accurate x) logs Y.0 Y.1 t;
            second = second_part (compoundf_log2p1_fast x) y (compoundf_log2p1_accurate x) logs Y.0 Y.1 t;
          }
      go (inr nil) = absurd (true≢false (sym (ap (λ (n : ℕ). leb n 0x3e6715476ba97f14) (nil_bits (compoundf_log2p1_fast x) y nil Y.0)) ∙ inside.apart))

  -- its index is inside the table of powers: none is cut, neither below 0 nor above 32
  pub slow_index : let t = quick_mult_f64 (compoundf_log2p1_accurate x) y in HasPower (from_exact_add (t.hi ⊖ nearest_whole t.hi) t.lo).hi
  slow_index =
      let t = quick_mult_f64 (compoundf_log2p1_accurate x) y in
      index_inside t (nearest_whole t.hi) (distance t.hi slow_exponent_lem.number) slow_exponent_lem.second

  -- and k is finite and from -1000 to 1000: none is cut
  pub slow_k_lem : let k = nearest_whole (quick_mult_f64 (compoundf_log2p1_accurate x) y).hi in SizeAtMost 1000 k × (to_signed 63 k ≡ clamped_k k)
  slow_k_lem =
      let h = (quick_mult_f64 (compoundf_log2p1_accurate x) y).hi in
      let s = whole_at_most h slow_exponent_lem.number.held 1000 (units_in_size 1000 h slow_exponent_lem.number slow_exponent_lem.first) in
      (s, unclamped (nearest_whole h) s)

  power_clear : T (clear (exp2_accurate (quick_mult_f64 (compoundf_log2p1_accurate x) y)))
  power_clear = exp2_clear (quick_mult_f64 (compoundf_log2p1_accurate x) y) slow_exponent_lem.number slow_exponent_lem.second

pub slow_clear : SlowClear
unfolding compoundf_accurate
slow_clear x y tabled inside = cond_both (eq y one) _ _ (λ r. T (clear r)) (λ _. one_plus_f32 x tabled.base.x_finite tabled.base.x_above) (λ _. power_clear x y tabled inside)
