-- Document 01, "Special operands": which pairs take the route `rule`, and what they are answered.
use Rattle.std.specs.Prelude.{Bool, true, false, cond, ◌&&◌, ◌||◌, List, [], ◌∷◌, pos, Float}
use Rattle.std.specs.Float.{nan, inf, fin}
use Rattle.std.specs.Float.Ieee.{is_nan, lt, le, eq}

-- +0, 1, -1 and the two infinities
abbrev pub zero : Float
zero = fin false 0 (pos 0)

abbrev pub one : Float
one = fin false 1 (pos 0)

abbrev pub minus_one : Float
minus_one = fin true 1 (pos 0)

abbrev pub +infinity : Float
+infinity = inf false

abbrev pub -infinity : Float
-infinity = inf true

-- "a zero", of either sign
unfoldable pub is_zero : Float → Bool
is_zero x = eq x zero

-- "a zero, an infinity or NaN"
unfoldable pub is_special : Float → Bool
is_special x = is_zero x || eq x +infinity || eq x -infinity || is_nan x

-- "Route `rule` is taken when x <= -1, or x or y is a zero, an infinity or NaN"
unfoldable pub is_rule : Float → Float → Bool
is_rule x y = le x minus_one || is_special x || is_special y

-- "-1, or between -1 and 0"
unfoldable pub from_minus_one_to_zero : Float → Bool
from_minus_one_to_zero x = le minus_one x && lt x zero

-- "The special table": for each row whether it fits x and y, and its r. A row with two answers, as `+infinity /
-- -infinity`, is two here. "x < -1" holds of -infinity too.
unfoldable pub special_table : Float → Float → List (Bool × Float)
special_table x y =
    (is_nan x || is_nan y, nan) ∷
    (lt x minus_one, nan) ∷
    (is_zero x, one) ∷
    (is_zero y, one) ∷
    (from_minus_one_to_zero x && eq y +infinity, zero) ∷
    (from_minus_one_to_zero x && eq y -infinity, +infinity) ∷
    (lt zero x && eq y +infinity, +infinity) ∷
    (lt zero x && eq y -infinity, zero) ∷
    (eq x +infinity && lt zero y, +infinity) ∷
    (eq x +infinity && lt y zero, zero) ∷
    (eq x minus_one && lt zero y, zero) ∷
    (eq x minus_one && lt y zero, +infinity) ∷ []

-- "read from top to bottom; the first row that fits answers". Where x and y are of the route, one does (`a_row_fits`
-- in proofs/Rule.antt); elsewhere the NaN below is a choice without effect.
unfoldable pub first_that_fits : List (Bool × Float) → Float
first_that_fits [] = nan
first_that_fits ((fits, r) ∷ rows) = cond fits r (first_that_fits rows)

-- the answer of the route `rule`
unfoldable pub special : Float → Float → Float
special x y = first_that_fits (special_table x y)
