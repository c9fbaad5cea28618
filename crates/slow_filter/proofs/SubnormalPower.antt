-- What proves `subnormal_power`: a t from -149.5 to -128 has a reduction, and clear of the switches the scaled plain pattern is that of a value from 2^-151 to 2^-126. Assumes nothing.
use Rattle.std.proofs.Common.{◌≡◌, ◌*◌, ◌^◌, ◌<◌, ◌≤◌, true, false, T, sym, subst}
use lib.Ieee.{Float, binary64, fits, le, lt, eq, to_signed}
use lib.Ieee.Bits.{is_true}
use Rattle.floats.specs.Narrowing.{nearest_whole}
use Rattle.special.specs.Special.{zero}
use Rattle.fast_path.specs.Edges.{lower_edge, upper_edge}
use Rattle.fast_path.specs.Scaling.{scaled}
use Rattle.filter.specs.Plain.{part_of, rest_of, plain_pattern, clear_of_switches, below_normal_from, below_normal_to}
use Rattle.filter.proofs.NotZero.{not_zero}
use Rattle.filter.proofs.Middle.{pattern_is}
use Rattle.slow_filter.specs.PlainSlow.{slow_switch_gap}
use Rattle.slow_filter.proofs.Plain.{plain_unscaled}
use Rattle.slow_filter.proofs.Reach.{reach_edges, reach_some, reach_k}
use Rattle.slow_filter.proofs.Subnormal.{Below, scaled_below}

module _ (t : Float) (f : T (fits binary64 t)) (most : T (le t below_normal_to)) (least : T (le below_normal_from t)) where
  pub splits_above : T (lt lower_edge t)
  splits_above = subst T (sym (reach_edges t f (is_true _ most) (is_true _ least)).above) tt

  pub splits_below : T (lt t upper_edge)
  splits_below = subst T (sym (reach_edges t f (is_true _ most) (is_true _ least)).below) tt

  pub splits_other : eq t zero ≡ false
  splits_other = not_zero t (reach_some t f (is_true _ most) (is_true _ least))

  range : clear_of_switches slow_switch_gap (part_of t) (rest_of t) ≡ true → Below (scaled (plain_pattern t) (to_signed 63 (nearest_whole t)))
  range e = scaled_below _ _ (plain_unscaled t f (is_true _ most) (is_true _ least) e) (reach_k t f (is_true _ most) (is_true _ least))

  pub pattern_least : clear_of_switches slow_switch_gap (part_of t) (rest_of t) ≡ true → 872 * 2 ^ 52 ≤ scaled (plain_pattern t) (to_signed 63 (nearest_whole t))
  pattern_least e = (range e).least

  pub pattern_below : clear_of_switches slow_switch_gap (part_of t) (rest_of t) ≡ true → scaled (plain_pattern t) (to_signed 63 (nearest_whole t)) < 897 * 2 ^ 52
  pattern_below e = (range e).most

pub ruleset steps = (splits_above, splits_below, splits_other, pattern_least, pattern_below, pattern_is)
