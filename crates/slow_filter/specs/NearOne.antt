-- The plain value next to 1, and rounding it. It stands in no document; the theorem says when the slow path's value
-- rounds to the same (`near_one` in proofs/NearOne.antt).
use Rattle.std.specs.Prelude.{ℕ, Option, to_bits, Float}
use Rattle.std.specs.Float.{binary64}
use Rattle.floats.specs.Operations.{◌⊕◌, ◌⊗◌}
use Rattle.slow_path.specs.Slow.{q2}
use Rattle.filter.specs.Midpoints.{narrowed_pattern}

-- the polynomial of `compoundf_exp2_poly2` up to degree 3, with the coefficients' his: near 2^z for |z| <= 2^-16
unfoldable pub near_one_power : Float → Float
near_one_power z = q2 0 ⊕ (q2 1 ⊕ (q2 3 ⊕ q2 5 ⊗ z) ⊗ z) ⊗ z

-- how far from every midpoint of two f32s its pattern has to be
abbrev pub near_one_margin : ℕ
near_one_margin = 8

-- |t| from 2^-25 to 2^-16 (a smaller |t| would do as well): its pattern, further than that from every midpoint, is
-- rounded to 24 digits; else nothing is sure
unfoldable pub near_one_found : Float → Option Float
near_one_found t = narrowed_pattern near_one_margin (to_bits binary64 (near_one_power t))
