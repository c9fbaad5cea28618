-- Two f32s that do not take the route `rule` are what the table path asks for. Assumes nothing.
use Rattle.std.proofs.Common.{◌≡◌, false, T}
use lib.Ieee.{Float, binary32, fits}
use Rattle.special.specs.Special.{is_rule}
use Rattle.special.specs.Operands.{Tabled}
use Rattle.special.proofs.Rule.{off_rule}

pub tabled : (x y : Float) → T (fits binary32 x) → T (fits binary32 y) → is_rule x y ≡ false → Tabled x y
tabled x y f g e =
    let o = off_rule x y e in
    record { base = record { x_fits = f; x_finite = o.x_finite; x_above = o.x_above }; y_fits = g; y_finite = o.y_finite }
