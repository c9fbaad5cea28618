-- The plain evaluation in front of the slow path, for answers below the normal f32s and next to 1. It stands in no
-- document; the theorem says that what it finds is the slow path's answer (`settled` in proofs/Settled.antt).
use Rattle.std.specs.Prelude.{Bool, false, cond, ◌&&◌, negsuc, Option, None, Float}
use Rattle.std.specs.Float.{fin}
use Rattle.std.specs.Float.Ieee.{to_signed, le, ne}
use Rattle.floats.specs.Operations.{◌⊗◌, f64}
use Rattle.floats.specs.Narrowing.{nearest_whole}
use Rattle.floats.specs.OnBits.{absolute}
use Rattle.special.specs.Special.{one}
use Rattle.fast_path.specs.Scaling.{scaled}
use Rattle.filter.specs.Plain.{plain_factor, plain_log2p1, part_of, rest_of, plain_pattern, clear_of_switches}
use Rattle.filter.specs.Plain.{is_below_normal}
use Rattle.slow_filter.specs.Subnormal.{rounded_subnormal}
use Rattle.slow_filter.specs.NearOne.{near_one_found}

-- k and the index stay the same within 2^-27
abbrev pub slow_switch_gap : Float
slow_switch_gap = f64 0x3e40000000000000

-- t from -149.5 to -128
unfoldable pub subnormal_power : Float → Option Float
subnormal_power t =
    let k = to_signed 63 (nearest_whole t) in
    cond (clear_of_switches slow_switch_gap (part_of t) (rest_of t)) (rounded_subnormal (scaled (plain_pattern t) k))
    None

-- from this size on 1 + x keeps x
abbrev pub kept_from : Float
kept_from = fin false 1 (negsuc 28)

-- the plain logarithm; where 1 + x does not keep x, the same polynomial on x itself
unfoldable pub plain_log : Float → Float
plain_log x = cond (le kept_from (absolute x)) (plain_log2p1 x) (x ⊗ plain_factor x)

-- whether the plain evaluation is near enough below the normal f32s: y is not 1, and t is from -149.5 to -128
abbrev pub in_reach : Float → Float → Bool
in_reach y t = ne y one && is_below_normal t

-- and next to 1: y is not 1, and |t| is from 2^-25 to 2^-16
abbrev pub slow_next_from : Float
slow_next_from = fin false 1 (negsuc 24)

abbrev pub slow_next_to : Float
slow_next_to = fin false 1 (negsuc 15)

unfoldable pub next_to_one : Float → Float → Bool
next_to_one y t = ne y one && (le (absolute t) slow_next_to && le slow_next_from (absolute t))

-- what is found of x and y
unfoldable pub plain_slow : Float → Float → Option Float
plain_slow x y =
    let t = plain_log x ⊗ y in
    cond (in_reach y t) (subnormal_power t) (cond (next_to_one y t) (near_one_found t) None)
