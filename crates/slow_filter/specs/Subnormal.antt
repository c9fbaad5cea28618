-- Rounding the plain value below the normal f32s. It stands in no document; the theorem says when the slow path's
-- value rounds to the same (`subnormal` in proofs/Subnormal.antt).
use Rattle.std.specs.Prelude.{ℕ, ◌+◌, ◌-◌, ◌^◌, cond, eqb, Option, Some, None, Float}
use Rattle.std.specs.Float.{binary32}
use Rattle.std.specs.Float.Ieee.{of_bits}
use Rattle.floats.specs.SubnormalSum.{subnormal_sum}

-- the pattern w, scaled: where 2^25 less and 2^25 more are rounded to one f32, it is the answer; else nothing is sure
unfoldable pub rounded_subnormal : ℕ → Option Float
rounded_subnormal w =
    let low = subnormal_sum (w - 2 ^ 25) in
    let high = subnormal_sum (w + 2 ^ 25) in
    cond (eqb low high) (Some (of_bits binary32 (low - 0x39e0000000000000))) None
