-- Document 01, "Special operands" and "Table path": what is so of x and y past the route `rule`, and all that the
-- table path asks of them.
use Rattle.std.specs.Prelude.{T, Float}
use Rattle.std.specs.Float.{binary32}
use Rattle.std.specs.Float.Ieee.{fits, lt}
use Rattle.std.specs.Float.Ieee.Scale.{finite}
use Rattle.special.specs.Special.{minus_one}

-- x: an f32, finite, above -1
pub record IsBase (x : Float) : Type 0 where
  pub x_fits : T (fits binary32 x)
  pub x_finite : T (finite x)
  pub x_above : T (lt minus_one x)

-- both: two f32s, both finite, x above -1
pub record Tabled (x y : Float) : Type 0 where
  pub base : IsBase x
  pub y_fits : T (fits binary32 y)
  pub y_finite : T (finite y)
