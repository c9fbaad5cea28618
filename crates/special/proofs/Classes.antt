-- Document 01, "Special operands": the classes of x and of y that the rows of the special table tell apart, numbered. Assumes nothing.
use Prim.Native.Nat.{ℕ}
use mathlib.Core.Bool.{cond}
use lib.Ieee.{Float, is_nan, lt, eq}
use Rattle.special.specs.Special.{zero, minus_one, +infinity, -infinity, is_zero}

-- 0 NaN, 1 below -1 or -infinity, 2 for -1, 3 between -1 and 0, 4 a zero, 5 above 0 and finite, 6 +infinity
unfoldable pub class_of_x : Float → ℕ
class_of_x x =
    cond (is_nan x) 0
    (cond (lt x minus_one) 1
    (cond (eq x minus_one) 2
    (cond (lt x zero) 3
    (cond (is_zero x) 4
    (cond (eq x +infinity) 6 5)))))

-- 0 NaN, 1 -infinity, 2 below 0 and finite, 3 a zero, 4 above 0 and finite, 5 +infinity
unfoldable pub class_of_y : Float → ℕ
class_of_y y =
    cond (is_nan y) 0
    (cond (eq y -infinity) 1
    (cond (lt y zero) 2
    (cond (is_zero y) 3
    (cond (eq y +infinity) 5 4))))
