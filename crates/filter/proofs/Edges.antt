-- What the plain t' settles at the edges: at most -151, t is at the lower edge (`lower_edge_lem`); at least 129, at the upper (`upper_edge_lem`); 0, at that of 1 (`at_one`); and from -149.5 to -128 the fast
-- path fails its tests, since its value is below the normal f32s (`below_normals`). Assumes nothing.
use Rattle.std.proofs.Common.{◌≡◌, ℕ, zero, suc, ◌+◌, ◌*◌, ◌/◌, ◌%◌, ◌^◌, ◌<◌, ◌≤◌, min, Bool, true, false, cond, not, ◌&&◌, ◌⊎◌, ℤ, pos, negsuc, neg_ℤ, sym, refl, ap, ◌∙◌, subst, inl, inr, true≢false, le_trans, le_of_eq, mul-le-mul_right, mul_assoc, mul_comm, mul-pos, le-div_iff_mul-le, zero-add, mul_right_comm, le_of_mul-le-mul_right, arith, lit<, lit≤, le-leb, None}
use borrow.Author.Tests.{lt-leb}
use lib.Ieee.{Float, nan, inf, fin, binary64, up, down, size, fits, to_signed, le, lt, eq, is_nan}
use lib.Ieee.Fits.{down_pos}
use Rattle.floats.specs.Operations.{◌⊖◌}
use Rattle.floats.specs.Narrowing.{nearest_whole}
use Rattle.floats.proofs.Laws.Compare.{eq_by_lt}
use Rattle.floats.proofs.Laws.Place.{place, place_above}
use Rattle.floats.proofs.Laws.Sums.{whole_at_most}
use Rattle.floats.proofs.Laws.Units.{exponent, in_units, bits_of_value, fits_signed, bits_under_top}
use Rattle.special.specs.Special as Special
use Rattle.special.proofs.Rule.{finite_number}
use Rattle.fast_path.specs.Edges.{lower_edge, upper_edge, gives_zero, gives_infinity, gives_one}
use Rattle.fast_path.specs.Scaling.{scaled}
use Rattle.fast_path.specs.Fast.{exp2_reduced, exp2_fast}
use Rattle.fast_path.proofs.Index.{within_of_size}
use Rattle.fast_path.proofs.Lifted.{lifted, lifted_sum, Within}
use Rattle.fast_path.proofs.Midpoints.{below_normal}
use Rattle.bounds.proofs.Values.{per_one, plus, less, mag, mag_of, one_side, Number}
use Rattle.bounds.proofs.OwnScale.{Nil}
use Rattle.bounds.proofs.Scales.{S, S_pos, one_is, unit, Bound}
use Rattle.bounds.proofs.Compared.{le_true, le_false, units_of_le, units_of_not_lt, units_in_size}
use Rattle.bounds.proofs.Distances.{sub_apart}
use Rattle.bounds.proofs.Nearest.{whole_bound}
use Rattle.filter.specs.Plain.{part_of, plain_lower_edge, below_normal_from, below_normal_to, plain_upper_edge}
use Rattle.filter.specs.Right.{Inside, Fails, AtOne, AtInfinity}
use Rattle.filter.proofs.Limits.{lower_edge_units, upper_edge_units}
use Rattle.filter.proofs.Power.{Unscaled, part_half, fast_unscaled}
use Rattle.filter.proofs.Times.{TimesBeside}

-- ---- the numbers of the tests
-- -151 is a thousandth and more beyond -150, and 129 beyond 128
low_end : Number plain_lower_edge × (plus plain_lower_edge ≡ 0) × (1502 * (2 ^ 53 * S) ≤ less plain_lower_edge * 10)
unfolding fits S
low_end = (record { held = tt; plain = tt }, refl, lit≤ tt)

high_end : Number plain_upper_edge × (less plain_upper_edge ≡ 0) × (1282 * (2 ^ 53 * S) ≤ plus plain_upper_edge * 10)
unfolding fits S
high_end = (record { held = tt; plain = tt }, refl, lit≤ tt)

-- -128 is beyond -127.5, and -149.5 before -150, by as much
below_normal_to_lem : Number below_normal_to × (plus below_normal_to ≡ 0) × (1280 * (2 ^ 53 * S) ≤ less below_normal_to * 10)
unfolding fits S
below_normal_to_lem = (record { held = tt; plain = tt }, refl, lit≤ tt)

below_normal_from_lem : Number below_normal_from × (plus below_normal_from ≡ 0) × (less below_normal_from * 10 ≤ 1495 * (2 ^ 53 * S))
unfolding fits S
below_normal_from_lem = (record { held = tt; plain = tt }, refl, lit≤ tt)

nought : Number Special.zero × (plus Special.zero ≡ 0) × (less Special.zero ≡ 0)
unfolding fits
nought = (record { held = tt; plain = tt }, refl, refl)

-- 1 is not 0
pub one_pos : 0 < 2 ^ 53 * S
one_pos = mul-pos (lit< tt) S_pos

-- ---- the outcomes of the tests for the edges, from t in units
pub not_low : {t : Float} → Number t → less t < 150 * (2 ^ 53 * S) + plus t → gives_zero t ≡ false
not_low {t} n h = le_false n lower_edge_units.0 (omega (arith, lower_edge_units.2 ∙ mul_assoc 150 (2 ^ 53) S))

pub not_high : {t : Float} → Number t → plus t < 128 * (2 ^ 53 * S) + less t → gives_infinity t ≡ false
not_high {t} n h = le_false upper_edge_units.0 n (omega (arith, upper_edge_units.1, upper_edge_units.2 ∙ mul_assoc 128 (2 ^ 53) S))

-- a t of 2^-301 at least is not at the edge of 1
shifted_place : (s : Bool) (n : ℕ) → n < 2 ^ 63 → (cond s (2 ^ 63) 0 + n) * 2 % 2 ^ 64 ≡ n * 2
shifted_place true n h = omega arith
shifted_place false n h = omega arith

pub not_tiny : (t : Float) → Number t → 2 ^ 773 ≤ mag t → gives_one t ≡ false
not_tiny nan n h = absurd n.plain
not_tiny (inf s) n h = absurd n.plain
not_tiny (fin s m e) n h =
    let K = m * 2 ^ exponent 1074 e in
    let P = place 53 K in
    let low : P < 2 ^ 63 = subst (λ (k : ℕ). k < 2 ^ 63) (bits_of_value binary64 false m e (fits_signed binary64 s false m e n.held) ∙ zero-add P) (bits_under_top binary64 m e (fits_signed binary64 s false m e n.held)) in
    let high = place_above 53 721 K (lit< tt) (le_trans h (le_of_eq (mag_of s K))) in
    lt-leb _ _ (subst (λ (k : ℕ). 0x3e6715476ba97f14 < k) (sym (ap (λ (k : ℕ). k * 2 % 2 ^ 64) (bits_of_value binary64 s m e n.held) ∙ shifted_place s P low)) (omega arith))

-- ---- t is within a thousandth of t'
thousandth : (a b c : ℕ) → a * 2 ^ 45 ≤ b * 2 ^ 45 + 33 * c → a * 1000 ≤ b * 1000 + c
thousandth a b c h = omega arith

over_1000 : {t t' : Float} → TimesBeside t t' → (plus t + less t') * 1000 ≤ (less t + plus t') * 1000 + mag t'
over_1000 {t} {t'} b = thousandth (plus t + less t') (less t + plus t') (mag t') b.over

under_1000 : {t t' : Float} → TimesBeside t t' → (less t + plus t') * 1000 ≤ (plus t + less t') * 1000 + mag t'
under_1000 {t} {t'} b = thousandth (less t + plus t') (plus t + less t') (mag t') b.under

-- ---- the lower edge
pub lower_edge_lem : {t t' : Float} → TimesBeside t t' → le t' plain_lower_edge ≡ true → gives_zero t ≡ true
lower_edge_lem {t} {t'} b h =
    le_true b.number lower_edge_units.0
    (go (plus t) (less t) (plus t') (less t') (plus lower_edge) (less lower_edge) (plus plain_lower_edge) (less plain_lower_edge) (2 ^ 53 * S) (one_side t') lower_edge_units.1 (lower_edge_units.2 ∙ mul_assoc 150 (2 ^ 53) S) low_end.1 low_end.2
    (units_of_le b.beside low_end.0 h) (over_1000 b))
  where
    go : (p n q m c d f g s : ℕ) → (q ≡ 0) ⊎ (m ≡ 0) → c ≡ 0 → d ≡ 150 * s → f ≡ 0 → 1502 * s ≤ g * 10 → q + g ≤ f + m → (p + m) * 1000 ≤ (n + q) * 1000 + (q + m) → p + d ≤ c + n
    go p n q m c d f g s (inl e) e1 e2 e3 e4 h i = omega arith
    go p n q m c d f g s (inr e) e1 e2 e3 e4 h i = omega arith

-- ---- the upper edge
pub upper_edge_lem : {t t' : Float} → TimesBeside t t' → le plain_upper_edge t' ≡ true → AtInfinity t
upper_edge_lem {t} {t'} b h =
    let r = go (plus t) (less t) (plus t') (less t') (plus plain_upper_edge) (less plain_upper_edge) (2 ^ 53 * S) (one_side t') high_end.1 high_end.2 (units_of_le high_end.0 b.beside h) (under_1000 b) in
    record {
      above = not_low b.number (omega (arith, r, one_pos));
      beyond = le_true upper_edge_units.0 b.number (beyond (plus t) (less t) (plus upper_edge) (less upper_edge) (2 ^ 53 * S) upper_edge_units.1 (upper_edge_units.2 ∙ mul_assoc 128 (2 ^ 53) S) r);
    }
  where
    go : (p n q m f g s : ℕ) → (q ≡ 0) ⊎ (m ≡ 0) → g ≡ 0 → 1282 * s ≤ f * 10 → f + m ≤ q + g → (n + q) * 1000 ≤ (p + m) * 1000 + (q + m) → 128 * s + n ≤ p
    go p n q m f g s (inl e) e1 e2 h i = omega arith
    go p n q m f g s (inr e) e1 e2 h i = omega arith

    beyond : (p n q m s : ℕ) → m ≡ 0 → q ≡ 128 * s → 128 * s + n ≤ p → q + n ≤ p + m
    beyond p n q m s e f h = omega arith

-- ---- the edge of 1
-- what is 0 is there
pub nil_at_one : {t : Float} → Nil t → AtOne t
unfolding size is_nan
nil_at_one {t} z =
    let o = parts (plus t) (less t) z.is in
    record { above = not_low z.number (low (plus t) (less t) (2 ^ 53 * S) o.1 one_pos); below = not_high z.number (high (plus t) (less t) (2 ^ 53 * S) o.0 one_pos); tiny = zero_bits t z.number z.is }
  where
    parts : (p n : ℕ) → p + n ≡ 0 → (p ≡ 0) × (n ≡ 0)
    parts p n e = (omega arith, omega arith)

    low : (p n s : ℕ) → n ≡ 0 → 0 < s → n < 150 * s + p
    low p n s e h = omega arith

    high : (p n s : ℕ) → p ≡ 0 → 0 < s → p < 128 * s + n
    high p n s e h = omega arith

    zero_bits : (x : Float) → Number x → mag x ≡ 0 → gives_one x ≡ true
    zero_bits nan n e = absurd n.plain
    zero_bits (inf s) n e = absurd n.plain
    zero_bits (fin s m d) n e =
        le-leb _ _ (le_trans (le_of_eq (ap (λ (k : ℕ). k * 2 % 2 ^ 64) (bits_of_value binary64 s m d n.held) ∙ ap (λ (k : ℕ). (cond s (2 ^ 63) 0 + place 53 k) * 2 % 2 ^ 64) (sym (mag_of s (m * 2 ^ exponent 1074 d)) ∙ e) ∙ shifted_place s 0 (lit< tt))) (lit≤ tt))

pub at_one : {t t' : Float} → TimesBeside t t' → eq t' Special.zero ≡ true → AtOne t
unfolding is_nan
at_one {t} {t'} b h =
    let o = both (lt t' Special.zero) (lt Special.zero t') (sym (eq_by_lt t' Special.zero (finite_number t' b.beside.plain) tt) ∙ h) in
    nil_at_one (record { number = b.number; is = none (plus t) (less t) (plus t') (less t') (one_side t) (one_side t') (units_of_not_lt b.beside nought.0 o.0) (units_of_not_lt nought.0 b.beside o.1) (over_1000 b) (under_1000 b) })
  where
    both : (x y : Bool) → (not x && not y) ≡ true → (x ≡ false) × (y ≡ false)
    both true y e = absurd (true≢false (sym e))
    both false true e = absurd (true≢false (sym e))
    both false false e = (refl, refl)

    none : (p n q m : ℕ) → (p ≡ 0) ⊎ (n ≡ 0) → (q ≡ 0) ⊎ (m ≡ 0) → 0 + m ≤ q + 0 → q + 0 ≤ 0 + m → (p + m) * 1000 ≤ (n + q) * 1000 + (q + m) → (n + q) * 1000 ≤ (p + m) * 1000 + (q + m) → p + n ≡ 0
    none p n q m (inl e) (inl f) g h i j = omega arith
    none p n q m (inl e) (inr f) g h i j = omega arith
    none p n q m (inr e) (inl f) g h i j = omega arith
    none p n q m (inr e) (inr f) g h i j = omega arith

-- ---- below the normal f32s
-- a whole number of at most -b, as an i64
record AtMost (b : ℕ) (k : ℤ) : Type 0 where
  by : ℕ
  is : k ≡ negsuc by
  least : b ≤ suc by

cast_low : (b : ℕ) (k : Float) → 1 ≤ b → b ≤ 2 ^ 63 → Number k → b * per_one ≤ less k → AtMost b (to_signed 63 k)
unfolding to_signed per_one
cast_low b nan l h n g = absurd n.plain
cast_low b (inf s) l h n g = absurd n.plain
cast_low b (fin false m e) l h n g = absurd (no (b * 2 ^ 1074) (mul-pos l (lit< tt)) g)
  where
    no : (x : ℕ) → 0 < x → x ≤ 0 → ⊥
    no x g h = omega arith
cast_low b (fin true m e) l h n g = go (min (m * up e / down e) (2 ^ 63)) (le_min (m * up e / down e) b quotient h)
  where
    quotient : b ≤ m * up e / down e
    quotient =
        (le-div_iff_mul-le (down_pos e)).1 (le_of_mul-le-mul_right (le_trans (le_of_eq (mul_right_comm b (down e) (2 ^ 1074))) (le_trans (mul-le-mul_right (down e) g) (le_of_eq (sym (in_units binary64 true m e n.held))))) (lit< tt))

    le_min : (q b : ℕ) → b ≤ q → b ≤ 2 ^ 63 → b ≤ min q (2 ^ 63)
    le_min q b g h = omega arith

    go : (q : ℕ) → b ≤ q → AtMost b (neg_ℤ (pos q))
    go zero g = absurd (no b l g)
      where
        no : (b : ℕ) → 1 ≤ b → b ≤ 0 → ⊥
        no b g h = omega arith
    go (suc q) g = record { by = q; is = refl; least = g }

-- scaled by such a k, a pattern is below that of 2^-126
scaled_low : (v : ℕ) (k : ℤ) → Unscaled v → Within 150 k → AtMost 127 k → scaled v k < 0x3810000000000000
scaled_low v k u w a = subst (λ (n : ℕ). n < 0x3810000000000000) (lifted_sum v k (wider k w)) (omega (arith, low k w, subst (λ (z : ℤ). lifted z ≤ 3969) (sym a.is) (omega arith)))
  where
    wider : (k : ℤ) → Within 150 k → Within 1000 k
    wider (pos n) h = omega (arith, h)
    wider (negsuc n) h = omega (arith, h)

    low : (k : ℤ) → Within 150 k → 3946 ≤ lifted k
    low (pos n) h = omega (arith, h)
    low (negsuc n) h = omega (arith, h)

-- t from -149.7 to -127.8
record Subnormal (t : Float) : Type 0 where
  number : Number t
  negative : plus t ≡ 0
  most : less t * 10 ≤ 1497 * (2 ^ 53 * S)
  least : 1278 * (2 ^ 53 * S) ≤ less t * 10

subnormal : {t t' : Float} → TimesBeside t t' → le t' below_normal_to ≡ true → le below_normal_from t' ≡ true → Subnormal t
subnormal {t} {t'} b h g =
    let r = go (plus t) (less t) (plus t') (less t') (plus below_normal_to) (less below_normal_to) (plus below_normal_from) (less below_normal_from) (2 ^ 53 * S) (one_side t) (one_side t') one_pos below_normal_to_lem.1 below_normal_to_lem.2 below_normal_from_lem.1 below_normal_from_lem.2
    (units_of_le b.beside below_normal_to_lem.0 h) (units_of_le below_normal_from_lem.0 b.beside g) (over_1000 b) (under_1000 b) in
    record { number = b.number; negative = r.0; most = r.1; least = r.2 }
  where
    go : (p n q m c d f g s : ℕ) → (p ≡ 0) ⊎ (n ≡ 0) → (q ≡ 0) ⊎ (m ≡ 0) → 0 < s → c ≡ 0 → 1280 * s ≤ d * 10 → f ≡ 0 → g * 10 ≤ 1495 * s → q + d ≤ c + m → f + m ≤ q + g
        → (p + m) * 1000 ≤ (n + q) * 1000 + (q + m) → (n + q) * 1000 ≤ (p + m) * 1000 + (q + m) → (p ≡ 0) × (n * 10 ≤ 1497 * s) × (1278 * s ≤ n * 10)
    go p n q m c d f g s (inl x) (inl y) z e1 e2 e3 e4 h i j k = (omega arith, omega arith, omega arith)
    go p n q m c d f g s (inl x) (inr y) z e1 e2 e3 e4 h i j k = (omega arith, omega arith, omega arith)
    go p n q m c d f g s (inr x) (inl y) z e1 e2 e3 e4 h i j k = (omega arith, omega arith, omega arith)
    go p n q m c d f g s (inr x) (inr y) z e1 e2 e3 e4 h i j k = (omega arith, omega arith, omega arith)

module _ (t : Float) (s : Subnormal t) where
  size_t : Bound S (150 * 2 ^ 53) t
  size_t = record { scale = unit; number = s.number; size = le_trans (omega arith) (le_of_eq (sym (mul_assoc 150 (2 ^ 53) S))) }

  inside : Inside t
  inside = record {
    above = not_low s.number (low (plus t) (less t) (2 ^ 53 * S) s.negative s.most one_pos);
    below = not_high s.number (high (plus t) (less t) (2 ^ 53 * S) s.negative one_pos);
    apart = not_tiny t s.number (le_trans large (some (plus t) (less t) (2 ^ 53 * S) s.least));
  }
    where
      low : (p n s : ℕ) → p ≡ 0 → n * 10 ≤ 1497 * s → 0 < s → n < 150 * s + p
      low p n s e h z = omega arith

      high : (p n s : ℕ) → p ≡ 0 → 0 < s → p < 128 * s + n
      high p n s e z = omega arith

      some : (p n s : ℕ) → 1278 * s ≤ n * 10 → s ≤ p + n
      some p n s h = omega arith

      large : 2 ^ 773 ≤ 2 ^ 53 * S
      large = unfold S in lit≤ tt

  k : Float
  k = nearest_whole t

  k_bound : Bound S (150 * 2 ^ 53) k
  unfolding k
  k_bound = whole_bound 150 size_t

  k_low : 127 * per_one ≤ less k
  unfolding k
  k_low =
      let d = sub_apart size_t (whole_bound 150 size_t) (part_half t s.number) tt in
      subst (λ (w : ℕ). 127 * w ≤ less (nearest_whole t)) (sym (one_is ∙ mul_comm S (2 ^ 53))) (omega arith)

  within : Within 150 (to_signed 63 k)
  unfolding k
  within = within_of_size 150 (nearest_whole t) (whole_at_most t s.number.held 150 (units_in_size 150 t s.number (le_trans size_t.size (le_of_eq (omega (arith, one_is))))))

  fails : exp2_fast t ≡ None
  unfolding exp2_fast k
  fails = sym (below_normal (scaled (exp2_reduced (t ⊖ nearest_whole t)) (to_signed 63 (nearest_whole t))) (scaled 0x3d61d00000000000 (to_signed 63 (nearest_whole t))) (scaled_low (exp2_reduced (t ⊖ nearest_whole t)) (to_signed 63 (nearest_whole t)) unscaled within (cast_low 127 (nearest_whole t) (lit≤ tt) (lit≤ tt) k_bound.number k_low)))
    where
      unscaled : Unscaled (exp2_reduced (t ⊖ nearest_whole t))
      unscaled = unfold part_of in fast_unscaled t size_t

  fails_tests : Fails t
  fails_tests = record { inside = inside; fails = fails }

pub below_normals : {t t' : Float} → TimesBeside t t' → le t' below_normal_to ≡ true → le below_normal_from t' ≡ true → Fails t
below_normals {t} b g h = fails_tests t (subnormal b g h)
