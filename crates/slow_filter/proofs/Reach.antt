-- t as the tests leave it. From -149.5 to -128 it is between the edges, not 0, and its k is from -150 to -127; wide of the switches, its part is at most 1/2 - 2^-27 in size, and its rest at most
-- 1/64 - 2^-27. Next to 1 it is from 2^-25 to 2^-16 in size. Assumes nothing.
use Rattle.std.proofs.Common.{◌≡◌, ℕ, ◌+◌, ◌-◌, ◌*◌, ◌^◌, ◌<◌, ◌≤◌, refl, sym, subst, ◌⊎◌, inl, inr, Bool, true, true≢false, ◌&&◌, le_trans, lt_of_lt_of_le, arith, T, lit≤, lit<}
use lib.Ieee.{Float, nan, inf, fin, binary64, fits, sub, neg, le, ne, of_bits, to_signed}
use lib.Ieee.Fits.{sub-fits}
use Rattle.floats.specs.OnBits.{absolute}
use Rattle.floats.specs.Narrowing.{nearest_whole}
use Rattle.special.specs.Special.{one}
use Rattle.slow_path.proofs.OnePlusParts.{size_least, size_most}
use Rattle.bounds.proofs.Values.{per_one, plus, less, mag, one_side, Number}
use Rattle.bounds.proofs.Scales.{S, S_pos, one_is, unit, Bound, tested}
use Rattle.bounds.proofs.Distances.{Apart, sub_apart}
use Rattle.bounds.proofs.Nearest.{whole_bound}
use Rattle.bounds.proofs.Compared.{units_of_le, lt_true}
use Rattle.filter.specs.Plain.{part_of, rest_of, part_end, rest_end, clear_of_switches, below_normal_from, below_normal_to}
use Rattle.filter.proofs.Power.{part_half}
use Rattle.filter.proofs.Middle.{four, of_tests}
use Rattle.filter.proofs.Limits.{between_bound, end_bound, lower_edge_units, upper_edge_units, InsideEdges}
use Rattle.slow_filter.specs.PlainSlow.{slow_switch_gap, in_reach, slow_next_from, slow_next_to, next_to_one}
use Rattle.fast_path.specs.Edges.{lower_edge, upper_edge}
use Rattle.slow_filter.proofs.BelowNormal.{BelowNormal, below_normal}

-- ---- the tests, one by one
three : (a b c : Bool) → (a && (b && c)) ≡ true → (a ≡ true) × (b ≡ true) × (c ≡ true)
three a b c e = grind arith

pub record Reached (y t : Float) : Type 0 where
  pub not_one : ne y one ≡ true
  pub high : le t below_normal_to ≡ true
  pub low : le below_normal_from t ≡ true

pub in_parts : (y t : Float) → in_reach y t ≡ true → Reached y t
in_parts y t e =
    let o = three (ne y one) (le t below_normal_to) (le below_normal_from t) e in
    record { not_one = o.0; high = o.1; low = o.2 }

pub record Next (y t : Float) : Type 0 where
  pub not_one : ne y one ≡ true
  pub most : le (absolute t) slow_next_to ≡ true
  pub least : le slow_next_from (absolute t) ≡ true

pub next_parts : (y t : Float) → next_to_one y t ≡ true → Next y t
unfolding next_to_one
next_parts y t e =
    let o = three (ne y one) (le (absolute t) slow_next_to) (le slow_next_from (absolute t)) e in
    record { not_one = o.0; most = o.1; least = o.2 }

-- ---- |t| at most 2^-16, and 2^-25 at least
-- what is at most 2^-16 in size is a number
small_number : (t : Float) → T (fits binary64 t) → le (absolute t) slow_next_to ≡ true → Number t
unfolding absolute le
small_number nan f e = absurd (true≢false (sym e))
small_number (inf s) f e = absurd (true≢false (sym e))
small_number (fin s m k) f e = record { held = f; plain = tt }

sizes : Number slow_next_to × (plus slow_next_to ≤ 2 ^ 37 * S) × (less slow_next_to ≡ 0) × Number slow_next_from × (2 ^ 28 * S ≤ plus slow_next_from) × (less slow_next_from ≡ 0)
unfolding fits S
sizes = (record { held = tt; plain = tt }, lit≤ tt, refl, record { held = tt; plain = tt }, lit≤ tt, refl)

pub next_bound : (t : Float) → T (fits binary64 t) → le (absolute t) slow_next_to ≡ true → Bound S (2 ^ 37) t
next_bound t f e =
    let n = small_number t f e in
    record { scale = unit; number = n; size = le_trans (size_most slow_next_to t sizes.0 sizes.2 n e) sizes.1 }

pub next_least : (t : Float) → Number t → le slow_next_from (absolute t) ≡ true → 2 ^ 28 * S ≤ mag t
next_least t n e = le_trans sizes.4 (size_least slow_next_from t sizes.3 sizes.5 n e)

-- ---- t between -149.5 and -128
module _ (t : Float) (f : T (fits binary64 t)) (high : le t below_normal_to ≡ true) (low : le below_normal_from t ≡ true) where
  number : Number t
  number = of_tests t below_normal_from below_normal_to f tt tt low high

  pub reach_bound : Bound S (150 * 2 ^ 53) t
  reach_bound = between_bound (150 * 2 ^ 53) least most number low high
    where
      least : Bound S (150 * 2 ^ 53) below_normal_from
      least = unfold fits in tested (150 * 2 ^ 53) below_normal_from tt

      most : Bound S (150 * 2 ^ 53) below_normal_to
      most = unfold fits in tested (150 * 2 ^ 53) below_normal_to tt

  ends : Number below_normal_to × Number below_normal_from × (plus below_normal_to ≡ 0) × (less below_normal_to ≡ 128 * 2 ^ 53 * S) × (plus below_normal_from ≡ 0) × (less below_normal_from ≡ 299 * 2 ^ 52 * S)
  unfolding fits S
  ends = (record { held = tt; plain = tt }, record { held = tt; plain = tt }, refl, refl, refl, refl)

  -- 128 at least below 0
  pub reach_below : 128 * 2 ^ 53 * S ≤ less t
  reach_below = go (plus t) (less t) (plus below_normal_to) (less below_normal_to) (128 * 2 ^ 53 * S) ends.2 ends.3 (units_of_le number ends.0 high)
    where
      go : (p n q m k : ℕ) → q ≡ 0 → m ≡ k → p + m ≤ q + n → k ≤ n
      go p n q m k e f h = omega arith

  pub reach_edges : InsideEdges t
  reach_edges = record {
    above = lt_true lower_edge_units.0 number (low_end (plus t) (less t) (plus lower_edge) (less lower_edge) (plus below_normal_from) (less below_normal_from) S lower_edge_units.1 lower_edge_units.2 ends.4 ends.5 S_pos (units_of_le ends.1 number low));
    below = lt_true number upper_edge_units.0 (high_end (plus t) (less t) (plus upper_edge) (less upper_edge) (plus below_normal_to) (less below_normal_to) S upper_edge_units.1 upper_edge_units.2 ends.2 S_pos (units_of_le number ends.0 high));
  }
    where
      low_end : (p n c d q m s : ℕ) → c ≡ 0 → d ≡ 150 * 2 ^ 53 * s → q ≡ 0 → m ≡ 299 * 2 ^ 52 * s → 0 < s → q + n ≤ p + m → c + n < p + d
      low_end p n c d q m s e1 e2 e3 e4 z h = omega arith

      high_end : (p n c d q m s : ℕ) → d ≡ 0 → c ≡ 128 * 2 ^ 53 * s → q ≡ 0 → 0 < s → p + m ≤ q + n → p + d < c + n
      high_end p n c d q m s e1 e2 e3 z h = omega arith

  pub reach_negative : 0 < less t
  reach_negative = lt_of_lt_of_le one_pos reach_below
    where
      one_pos : 0 < 128 * 2 ^ 53 * S
      one_pos = unfold S in lit< tt

  -- and so is what is near it
  pub reach_apart : {a : Float} → Apart S (2 ^ 24) a t → 0 < less a
  reach_apart {a} d = go (plus a) (less a) (plus t) (less t) S (one_side t) S_pos reach_below d.over
    where
      go : (p n q m s : ℕ) → (q ≡ 0) ⊎ (m ≡ 0) → 0 < s → 128 * 2 ^ 53 * s ≤ m → p + m ≤ n + q + 2 ^ 24 * s → 0 < n
      go p n q m s (inl e) z g h = omega arith
      go p n q m s (inr e) z g h = omega arith

  -- its nearest whole number is not 0
  pub reach_whole : per_one ≤ mag (nearest_whole t)
  reach_whole =
      let d = sub_apart reach_bound (whole_bound 150 reach_bound) (part_half t number) tt in
      subst (λ (w : ℕ). w ≤ mag (nearest_whole t)) (sym one_is) (go (plus t) (less t) (plus (nearest_whole t)) (less (nearest_whole t)) S reach_below (one_side t) d.under)
    where
      go : (p n q m s : ℕ) → 128 * 2 ^ 53 * s ≤ n → (p ≡ 0) ⊎ (n ≡ 0) → q + n ≤ m + p + (2 ^ 52 + 301) * s → s * 2 ^ 53 ≤ q + m
      go p n q m s g (inl e) h = omega arith
      go p n q m s g (inr e) h = omega arith

  pub reach_some : 0 < mag t
  reach_some = go (plus t) (less t) (128 * 2 ^ 53 * S) one_pos reach_below
    where
      one_pos : 0 < 128 * 2 ^ 53 * S
      one_pos = unfold S in lit< tt

      go : (p n k : ℕ) → 0 < k → k ≤ n → 0 < p + n
      go p n k g h = omega arith

  pub reach_k : BelowNormal (to_signed 63 (nearest_whole t))
  reach_k = below_normal 1 7 (lit≤ tt) reach_bound high

  part_fits : T (fits binary64 (part_of t))
  unfolding part_of
  part_fits = sub-fits binary64 t _

  rest_fits : T (fits binary64 (rest_of t))
  unfolding rest_of
  rest_fits = sub-fits binary64 (part_of t) _

  pub wide_bounds : clear_of_switches slow_switch_gap (part_of t) (rest_of t) ≡ true → Bound S (2 ^ 52 - 2 ^ 26) (part_of t) × Bound S (2 ^ 47 - 2 ^ 26) (rest_of t)
  unfolding of_bits sub neg
  wide_bounds e =
      let o = four (le (part_of t) (part_end slow_switch_gap)) (le (neg (part_end slow_switch_gap)) (part_of t)) (le (rest_of t) (rest_end slow_switch_gap)) (le (neg (rest_end slow_switch_gap)) (rest_of t)) e in (
        end_bound (2 ^ 52 - 2 ^ 26) (part_end slow_switch_gap) most_part (of_tests (part_of t) (neg (part_end slow_switch_gap)) (part_end slow_switch_gap) part_fits tt tt o.1 o.0) o.0 o.1,
        end_bound (2 ^ 47 - 2 ^ 26) (rest_end slow_switch_gap) most_rest (of_tests (rest_of t) (neg (rest_end slow_switch_gap)) (rest_end slow_switch_gap) rest_fits tt tt o.3 o.2) o.2 o.3,
      )
    where
      most_part : Bound S (2 ^ 52 - 2 ^ 26) (part_end slow_switch_gap)
      most_part = unfold of_bits fits sub in tested (2 ^ 52 - 2 ^ 26) (part_end slow_switch_gap) tt

      most_rest : Bound S (2 ^ 47 - 2 ^ 26) (rest_end slow_switch_gap)
      most_rest = unfold of_bits fits sub in tested (2 ^ 47 - 2 ^ 26) (rest_end slow_switch_gap) tt
