-- Document 01, "Table path", of t = l×y: "t <= -150 gives +0 and t >= 128 gives +infinity; a pattern of t, shifted
-- left once, of at most 3e6715476ba97f14 gives 1. These are route `edge`."
use Rattle.std.specs.Prelude.{◌*◌, ◌%◌, ◌^◌, Bool, true, false, pos, nat_le, to_bits, Float}
use Rattle.std.specs.Float.{fin, binary64}
use Rattle.std.specs.Float.Ieee.{le}

-- -150 and 128
abbrev pub lower_edge : Float
lower_edge = fin true 75 (pos 1)

abbrev pub upper_edge : Float
upper_edge = fin false 1 (pos 7)

-- "t <= -150 gives +0"
abbrev pub gives_zero : Float → Bool
gives_zero t = le t lower_edge

-- "t >= 128 gives +infinity"
abbrev pub gives_infinity : Float → Bool
gives_infinity t = le upper_edge t

-- "a pattern of t, shifted left once, of at most 3e6715476ba97f14 gives 1"
abbrev pub gives_one : Float → Bool
gives_one t = nat_le (to_bits binary64 t * 2 % 2 ^ 64) 0x3e6715476ba97f14
