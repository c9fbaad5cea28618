-- The pattern in an answer line is `to_bits` of the answer, which writes 7fc00000 for a NaN. Assumes nothing.
use mathlib.Core.Path.{◌≡◌, refl}
use lib.Ieee.{Float, nan, inf, fin, binary32, is_nan, to_bits}
use Rattle.replies.specs.Reply.{answer_pattern}

pub answer_pattern_lem : (r : Float) → answer_pattern r ≡ to_bits binary32 r
unfolding answer_pattern is_nan to_bits
answer_pattern_lem nan = refl
answer_pattern_lem (inf s) = refl
answer_pattern_lem (fin s m e) = refl
