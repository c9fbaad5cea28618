-- The plain evaluation: the fast path's logarithm and power of two with a product and a sum wherever it has a
-- `dd_fmla`. It stands in no document; it is what the filter runs in front, and the theorems say how far it is from
-- the fast path.
use Rattle.std.specs.Prelude.{◌≡◌, ℕ, ◌+◌, ◌^◌, Bool, true, false, cond, not, ◌&&◌, T, pos, negsuc, Option, Some}
use Rattle.std.specs.Prelude.{None, to_bits, Float}
use Rattle.std.specs.Float.{fin, binary64}
use Rattle.std.specs.Float.Ieee.{to_signed, neg, lt, le, eq}
use Rattle.floats.specs.Operations.{◌⊕◌, ◌⊖◌, ◌⊗◌, f64}
use Rattle.floats.specs.Narrowing.{nearest_whole}
use Rattle.floats.specs.OnBits.{within}
use Rattle.tables.specs.Tables.{entry, pair_entry, compoundf_exp2_t, compoundf_exp2_u}
use Rattle.special.specs.Special.{zero}
use Rattle.fast_path.specs.Scaling.{scaled}
use Rattle.fast_path.specs.Fast.{MulAdd, factor, log2p1, expf_poly, power_index}
use Rattle.filter.specs.declared.Found.{Found}
use Rattle.filter.specs.declared.Found.TheVariants.{Fast, Slow, Low, High, One}
use Rattle.filter.specs.Midpoints.{clear_of_midpoints, narrowed_pattern}

-- a×b + c by a product and a sum
abbrev pub plain_mul_add : MulAdd
plain_mul_add a b c = a ⊗ b ⊕ c

-- what `log2p1_polyeval_1` multiplies z by
abbrev pub plain_factor : Float → Float
plain_factor z = factor plain_mul_add z

-- `compoundf_log2p1_fast`: near log2(1 + x)
abbrev pub plain_log2p1 : Float → Float
plain_log2p1 x = log2p1 plain_mul_add x

-- `compoundf_expf_poly`: near 2^z
abbrev pub plain_expf_poly : Float → Float
plain_expf_poly z = expf_poly plain_mul_add z

-- what is left of t over the nearest whole number, and of that over the nearest 32nd
unfoldable pub part_of : Float → Float
part_of t = t ⊖ nearest_whole t

unfoldable pub rest_of : Float → Float
rest_of t = part_of t ⊖ entry compoundf_exp2_t (power_index (part_of t))

-- the pattern of the power of index i times the polynomial at what is left
abbrev pub power_at : ℕ → Float → ℕ
power_at i rest = to_bits binary64 ((pair_entry compoundf_exp2_u i).hi ⊗ plain_expf_poly rest)

-- the pattern of 2^t in `exp2_fast`, before it is scaled
unfoldable pub plain_pattern : Float → ℕ
plain_pattern t = power_at (power_index (part_of t)) (rest_of t)

-- ---- what is found, from t
-- a pattern that is further than this from every midpoint of two f32s settles the answer
abbrev pub fast_margin : ℕ
fast_margin = 2 ^ 20 + 2 ^ 15

-- one that is at most as far as this from a midpoint, and next to 1, settles that the rounding test fails
abbrev pub nearness : ℕ
nearness = 2 ^ 11

-- 2^-14: the power of a t of at most this size is next to 1
abbrev pub fast_next_to : Float
fast_next_to = f64 0x3f10000000000000

-- |t| is at most that, and the pattern w is near a midpoint: the rounding test fails; else nothing is sure
unfoldable pub near_midpoint : Float → ℕ → Option Found
near_midpoint t w = cond (within fast_next_to t && not (clear_of_midpoints nearness w)) (Some Slow) None

-- the pattern w, scaled: clear of every midpoint, it is rounded to an f32; else it may be near one
abbrev pub fast_or : Option Float → Option Found → Option Found
fast_or (Some v) other = Some (Fast v)
fast_or None other = other

unfoldable pub rounded_pattern : Float → ℕ → Option Found
rounded_pattern t w = fast_or (narrowed_pattern fast_margin w) (near_midpoint t w)

-- whether k and the index stay the same within `gap`: k switches where |part| is 1/2, and the index where |rest| is
-- 1/64
abbrev pub part_end : Float → Float
part_end gap = f64 0x3fe0000000000000 ⊖ gap

abbrev pub rest_end : Float → Float
rest_end gap = f64 0x3f90000000000000 ⊖ gap

abbrev pub clear_of_index : Float → Float → Bool
clear_of_index gap rest = within (rest_end gap) rest

abbrev pub clear_of_switches : Float → Float → Float → Bool
clear_of_switches gap part rest = within (part_end gap) part && clear_of_index gap rest

-- 2^-30: further than this from a switch, the fast path's own t is on the same side of it
abbrev pub fast_switch_gap : Float
fast_switch_gap = f64 0x3e10000000000000

-- t from -124 to 124, clear of the switches: by the pattern of 2^t, scaled by 2^k
unfoldable pub middle_found : Float → Option Found
middle_found t =
    let k = to_signed 63 (nearest_whole t) in
    cond (clear_of_switches fast_switch_gap (part_of t) (rest_of t)) (rounded_pattern t (scaled (plain_pattern t) k))
    None

-- t below -124: at most -151 it is at the lower edge, and from -149.5 to -128 the value is below the normal f32s
abbrev pub plain_lower_edge : Float
plain_lower_edge = fin true 151 (pos 0)

abbrev pub below_normal_from : Float
below_normal_from = fin true 299 (negsuc 0)

abbrev pub below_normal_to : Float
below_normal_to = fin true 1 (pos 7)

abbrev pub is_below_normal : Float → Bool
is_below_normal t = le t below_normal_to && le below_normal_from t

unfoldable pub low_found : Float → Option Found
low_found t = cond (le t plain_lower_edge) (Some Low) (cond (is_below_normal t) (Some Slow) None)

-- t above 124: at least 129 it is at the upper edge
abbrev pub plain_upper_edge : Float
plain_upper_edge = fin false 129 (pos 0)

unfoldable pub high_found : Float → Option Found
high_found t = cond (le plain_upper_edge t) (Some High) None

-- whether |t| is below 2^-300
abbrev pub tiny_t_end : Float
tiny_t_end = f64 0x2d30000000000000

unfoldable pub is_tiny_t : Float → Bool
is_tiny_t t = lt (neg tiny_t_end) t && lt t tiny_t_end

-- such a t: at 0 it is at the edge of 1
unfoldable pub tiny_found : Float → Option Found
tiny_found t = cond (eq t zero) (Some One) None

-- t is from -124 to 124, and not tiny
abbrev pub middle_from : Float
middle_from = fin true 31 (pos 2)

abbrev pub middle_to : Float
middle_to = fin false 31 (pos 2)

pub record Middle (t : Float) : Type 0 where
  pub least : T (le middle_from t)
  pub most : T (le t middle_to)
  pub apart : is_tiny_t t ≡ false

-- all of them
unfoldable pub plain_found : Float → Option Found
plain_found t =
    cond (lt t middle_from) (low_found t)
    (cond (lt middle_to t) (high_found t) (cond (is_tiny_t t) (tiny_found t) (middle_found t)))

-- what is found of x and y: from the plain t
abbrev pub filtered : Float → Float → Option Found
filtered x y = plain_found (plain_log2p1 x ⊗ y)
