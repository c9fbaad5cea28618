-- For t from -124 to 124: its nearest whole number can be cast, what is left of it has a power, and where it is clear of the switches the scaled pattern is that of a normal f32's
-- value (`scaled_range`). Assumes nothing.
use Rattle.std.proofs.Common.{◌≡◌, ℕ, zero, suc, ◌+◌, ◌-◌, ◌*◌, ◌^◌, ◌<◌, ◌≤◌, Bool, true, false, ◌&&◌, T, ℤ, pos, sym, refl, subst, inl, inr, true≢false, le_trans, le_of_eq, lt_irrefl, lt_of_lt_of_le, zero-lt-suc, zero-mul, arith, lit<, lit≤}
use lib.Ieee.{Float, nan, inf, fin, binary64, fits, sub, neg, le, lt, eq, of_bits, to_signed}
use lib.Ieee.Bits.{is_true}
use lib.Ieee.Fits.{sub-fits}
use lib.Ieee.Scale.{finite}
use Rattle.floats.specs.Operations.{◌⊕◌, ◌⊖◌, f64}
use Rattle.floats.specs.Narrowing.{nearest_whole}
use Rattle.floats.proofs.Laws.Sums.{SizeAtMost, whole_at_most}
use Rattle.floats.proofs.Laws.Cast.{whole_fits}
use Rattle.floats.proofs.Laws.SmallWhole.{plus_zero, NotMinusZero, left_over}
use Rattle.floats.proofs.Laws.Units.{HasSign, exponent}
use Rattle.special.specs.Special as Special
use Rattle.tables.specs.Tables.{entry, compoundf_exp2_t}
use Rattle.fast_path.specs.Edges.{lower_edge, upper_edge}
use Rattle.fast_path.specs.Scaling.{scaled}
use Rattle.fast_path.specs.Fast.{power_index}
use Rattle.fast_path.proofs.Lifted.{lifted, Within}
use Rattle.fast_path.proofs.Index.{between_finite, within_of_size}
use Rattle.bounds.proofs.Values.{plus, less, mag, Number}
use Rattle.bounds.proofs.Scales.{S, one_is, Bound, at}
use Rattle.bounds.proofs.Distances.{apart_at}
use Rattle.bounds.proofs.Apart.{apart_same}
use Rattle.bounds.proofs.Compared.{le_of_units, units_in_size, units_of_not_lt}
use Rattle.filter.specs.Plain.{part_of, rest_of, power_at, plain_pattern, fast_switch_gap, part_end, rest_end, clear_of_switches, is_tiny_t, Middle}
pub use Rattle.filter.proofs.Limits.{is_minus_124, is_124}
use Rattle.filter.proofs.Limits.{InsideEdges, inside_edges, middle_bound, part_bound, rest_bound}
use Rattle.filter.proofs.Power.{Unscaled, power_beside}
use Rattle.filter.proofs.NotZero.{not_zero}
use Rattle.filter.proofs.Accepted.{lifted_low, lifted_high, scaled_is}

-- the scaled pattern
pub scaled_range : (b : ℕ) (k : ℤ) → Unscaled b → Within 124 k → (898 * 2 ^ 52 ≤ scaled b k) × (scaled b k < 1148 * 2 ^ 52)
scaled_range b k u w = go b (lifted k) (scaled b k) u.low u.high (lifted_low k w) (lifted_high k w) (scaled_is b k w (le_trans (lit≤ tt) u.low) u.high)
  where
    go : (b n w : ℕ) → 1022 * 2 ^ 52 ≤ b → b < 1024 * 2 ^ 52 → 3972 ≤ n → n ≤ 4220 → w + 2 ^ 64 ≡ b + n * 2 ^ 52 → (898 * 2 ^ 52 ≤ w) × (w < 1148 * 2 ^ 52)
    go b n w p q l m e = (omega arith, omega arith)

-- ---- t that is not tiny
-- |t| is 2^-300 at least
pub not_small : {t : Float} → Number t → is_tiny_t t ≡ false → 2 ^ 774 ≤ mag t
unfolding is_tiny_t
not_small {t} n h = go (lt (neg (f64 0x2d30000000000000)) t) refl (lt t (f64 0x2d30000000000000)) refl h
  where
    below : Number (neg (f64 0x2d30000000000000)) × (plus (neg (f64 0x2d30000000000000)) ≡ 0) × (less (neg (f64 0x2d30000000000000)) ≡ 2 ^ 774)
    below = unfold of_bits neg fits in (record { held = tt; plain = tt }, refl, refl)

    above : Number (f64 0x2d30000000000000) × (less (f64 0x2d30000000000000) ≡ 0) × (plus (f64 0x2d30000000000000) ≡ 2 ^ 774)
    above = unfold of_bits fits in (record { held = tt; plain = tt }, refl, refl)

    go : (x : Bool) → lt (neg (f64 0x2d30000000000000)) t ≡ x → (y : Bool) → lt t (f64 0x2d30000000000000) ≡ y → (x && y) ≡ false → 2 ^ 774 ≤ mag t
    go true e true f h = absurd (true≢false h)
    go true e false f h = omega (arith, above.1, above.2, units_of_not_lt n above.0 f)
    go false e y f h = omega (arith, below.1, below.2, units_of_not_lt below.0 n e)

-- what is not 0 is not -0, and its nearest whole number with +0 in the place of -0 leaves the same
pub plus_zero_lem : (t : Float) → 0 < mag t → t ⊖ (nearest_whole t ⊕ plus_zero) ≡ t ⊖ nearest_whole t
plus_zero_lem t h = left_over t (nearest_whole t) (whole_fits t) (go t h)
  where
    go : (t : Float) → 0 < mag t → NotMinusZero t
    go nan h = tt
    go (inf s) h = tt
    go (fin false m e) h = inl refl
    go (fin true zero e) h = absurd (lt_irrefl 0 (subst (λ (n : ℕ). 0 < 0 + n) (zero-mul (2 ^ exponent 1074 e)) h))
    go (fin true (suc m) e) h = inr (zero-lt-suc m)

-- ---- t from -124 to 124
-- the tests, one by one
pub four : (a b c d : Bool) → ((a && b) && (c && d)) ≡ true → (a ≡ true) × (b ≡ true) × (c ≡ true) × (d ≡ true)
four true true true true e = (e, e, e, e)
four true true true false e = absurd (true≢false (sym e))
four true true false d e = absurd (true≢false (sym e))
four true false c d e = absurd (true≢false (sym e))
four false b c d e = absurd (true≢false (sym e))

-- what is between two numbers is one
pub of_tests : (x lo hi : Float) → T (fits binary64 x) → T (finite lo) → T (finite hi) → le lo x ≡ true → le x hi ≡ true → Number x
of_tests x lo hi f p q g h = record { held = f; plain = between_finite lo x hi p q (subst T (sym g) tt) (subst T (sym h) tt) }

-- a number has a sign
record Signed (x : Float) : Type 0 where
  sign : Bool
  has : HasSign sign x

signed : (x : Float) → T (finite x) → Signed x
signed nan h = absurd h
signed (inf s) h = absurd h
signed (fin s m e) h = record { sign = s; has = refl }

-- t, as the tests leave it
pub bounded : (t : Float) → T (fits binary64 t) → T (le (fin true 31 (pos 2)) t) → T (le t (fin false 31 (pos 2))) → Bound S (124 * 2 ^ 53) t
bounded t f g h = middle_bound (record { held = f; plain = between_finite (fin true 31 (pos 2)) t (fin false 31 (pos 2)) tt tt g h }) (is_true _ g) (is_true _ h)

-- not below -124 and not above 124, and not tiny
pub middle_of : (t : Float) → T (fits binary64 t) → T (finite t) → lt t (fin true 31 (pos 2)) ≡ false → lt (fin false 31 (pos 2)) t ≡ false → is_tiny_t t ≡ false → Middle t
unfolding fits
middle_of t f p g h a =
    let n : Number t = record { held = f; plain = p } in
    let low : Number (fin true 31 (pos 2)) = record { held = tt; plain = tt } in
    let high : Number (fin false 31 (pos 2)) = record { held = tt; plain = tt } in
    record { least = le_of_units (fin true 31 (pos 2)) t low n (units_of_not_lt n low g); most = le_of_units t (fin false 31 (pos 2)) n high (units_of_not_lt high n h); apart = a }

-- what proves `plain_found`
pub ruleset ends = (is_minus_124, is_124, middle_of)

-- a t of 124 at most is between the edges
pub edges_of : {t : Float} → Bound S (124 * 2 ^ 53) t → InsideEdges t
edges_of b = inside_edges (at (125 * 2 ^ 53) b tt)

module _ (t : Float) (b : Bound S (124 * 2 ^ 53) t) where
  small : SizeAtMost 124 t
  small = units_in_size 124 t b.number (le_trans b.size (le_of_eq (omega (arith, one_is))))

  pub whole_within : Within 124 (to_signed 63 (nearest_whole t))
  whole_within = within_of_size 124 (nearest_whole t) (whole_at_most t b.number.held 124 small)

  part_fits : T (fits binary64 (part_of t))
  unfolding part_of
  part_fits = sub-fits binary64 t (nearest_whole t)

  rest_fits : T (fits binary64 (rest_of t))
  unfolding rest_of
  rest_fits = sub-fits binary64 (part_of t) (entry compoundf_exp2_t (power_index (part_of t)))

  -- clear of the switches
  pub switch_bounds : clear_of_switches fast_switch_gap (part_of t) (rest_of t) ≡ true → Bound S (2 ^ 52 - 2 ^ 23) (part_of t) × Bound S (2 ^ 47 - 2 ^ 23) (rest_of t)
  unfolding of_bits sub neg
  switch_bounds e =
      let o = four (le (part_of t) (part_end fast_switch_gap)) (le (neg (part_end fast_switch_gap)) (part_of t)) (le (rest_of t) (rest_end fast_switch_gap)) (le (neg (rest_end fast_switch_gap)) (rest_of t)) e in
      (part_bound (of_tests (part_of t) (neg (part_end fast_switch_gap)) (part_end fast_switch_gap) part_fits tt tt o.1 o.0) o.0 o.1, rest_bound (of_tests (rest_of t) (neg (rest_end fast_switch_gap)) (rest_end fast_switch_gap) rest_fits tt tt o.3 o.2) o.2 o.3)

  pub plain_range : clear_of_switches fast_switch_gap (part_of t) (rest_of t) ≡ true → (898 * 2 ^ 52 ≤ scaled (plain_pattern t) (to_signed 63 (nearest_whole t))) × (scaled (plain_pattern t) (to_signed 63 (nearest_whole t)) < 1148 * 2 ^ 52)
  plain_range e =
      let o = switch_bounds e in
      let s = signed t b.number.plain in
      scaled_range (plain_pattern t) (to_signed 63 (nearest_whole t)) (power_beside s.sign t t s.has s.has b.number (apart_at (2 ^ 20) (apart_same t) tt) b o.0 o.1).plain whole_within

-- ---- what proves `in_two_steps`
module _ (t : Float) (f : T (fits binary64 t)) (m : Middle t) where
  start : Bound S (124 * 2 ^ 53) t
  start = bounded t f m.least m.most

  pub splits_above : T (lt lower_edge t)
  splits_above = subst T (sym (edges_of start).above) tt

  pub splits_below : T (lt t upper_edge)
  splits_below = subst T (sym (edges_of start).below) tt

  pub splits_other : eq t Special.zero ≡ false
  splits_other = not_zero t (lt_of_lt_of_le (lit< tt) (not_small start.number m.apart))

  pub plain_least : clear_of_switches fast_switch_gap (part_of t) (rest_of t) ≡ true → 898 * 2 ^ 52 ≤ scaled (plain_pattern t) (to_signed 63 (nearest_whole t))
  plain_least e = (plain_range t start e).0

  pub plain_below : clear_of_switches fast_switch_gap (part_of t) (rest_of t) ≡ true → scaled (plain_pattern t) (to_signed 63 (nearest_whole t)) < 1148 * 2 ^ 52
  plain_below e = (plain_range t start e).1

-- the pattern that `Reduction` scales
pub pattern_is : (t : Float) → power_at (power_index (part_of t)) (rest_of t) ≡ plain_pattern t
unfolding plain_pattern
pattern_is t = refl

pub ruleset two_steps = (splits_above, splits_below, splits_other, plain_least, plain_below, pattern_is)
