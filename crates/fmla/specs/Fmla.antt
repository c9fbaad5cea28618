-- The tests by which `fmla` does without Dekker's product, as they are written. That they suffice is proved in
-- proofs/Settled.antt; the contract of `fmla` itself does not cite them.
use Rattle.std.specs.Prelude.{Bool, false, ◌&&◌, pos, negsuc, Float}
use Rattle.std.specs.Float.{fin}
use Rattle.std.specs.Float.Ieee.{le}
use Rattle.floats.specs.Operations.{◌⊕◌, ◌⊖◌, ◌⊗◌}
use Rattle.floats.specs.OnBits.{absolute, within}

-- from -2^400 to 2^400
unfoldable pub is_moderate : Float → Bool
is_moderate x = within (fin false 1 (pos 400)) x

-- 2^-52 + 2^-61
abbrev pub relative_part : Float
relative_part = fin false 513 (negsuc 60)

-- 2^-900
abbrev pub absolute_part : Float
absolute_part = fin false 1 (negsuc 899)

-- |h| × (2^-52 + 2^-61) + 2^-900
unfoldable pub lo_bound : Float → Float
lo_bound h = absolute h ⊗ relative_part ⊕ absolute_part

-- with e and d added to it s is no more, and with e and -d no less
unfoldable pub stays : Float → Float → Float → Bool
stays s e d = le (d ⊕ e ⊕ s) s && le s (e ⊖ d ⊕ s)
