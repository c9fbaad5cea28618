-- How a value below the normal f32s is rounded. It stands in no document: the theorem of narrowing is over its value.
use Rattle.std.specs.Prelude.{ℕ, to_bits}
use Rattle.std.specs.Float.{binary64}
use Rattle.floats.specs.Operations.{◌⊕◌, f64}

-- The pattern of the f64 of the pattern w plus 2^-97. The last place of the sum is that of an f32 below 2^-126, so what
-- the pattern has over that of 2^-97 is the f32's (`low_pattern` in proofs/Laws/Narrow.antt).
unfoldable pub subnormal_sum : ℕ → ℕ
subnormal_sum w = to_bits binary64 (f64 w ⊕ f64 0x39e0000000000000)
