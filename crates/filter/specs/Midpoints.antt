-- How near the pattern of an f64 is to a midpoint of two f32s, and the f32 that it is rounded to. Of its digits an
-- f32 drops 29, and at a midpoint these are 2^28. It stands in no document; it is how the filters round.
use Rattle.std.specs.Prelude.{ℕ, ◌+◌, ◌-◌, ◌*◌, ◌/◌, ◌%◌, Bool, cond, Option, Some, None, from_bits, nat_lt, Float}
use Rattle.std.specs.Float.{binary32}

-- whether the pattern w is further than `margin` from every midpoint
abbrev pub clear_of_midpoints : ℕ → ℕ → Bool
clear_of_midpoints margin w = nat_lt (2 * margin) ((w + (0x10000000 + margin)) % 0x20000000)

-- where it is, w rounded to 24 digits
unfoldable pub narrowed_pattern : ℕ → ℕ → Option Float
narrowed_pattern margin w =
    cond (clear_of_midpoints margin w) (Some (from_bits binary32 ((w + 0x10000000) / 0x20000000 - 0x1c0000000))) None
