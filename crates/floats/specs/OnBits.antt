-- Document 01, "Forms of the Rust with no home in Rattle": "`abs` and `is_integerf` are worked out on bits". Here
-- they are by value.
use Rattle.std.specs.Prelude.{zero, suc, ◌*◌, ◌%◌, Bool, true, false, ◌&&◌, ◌==◌, Float}
use Rattle.std.specs.Float.{nan, inf, fin}
use Rattle.std.specs.Float.Ieee.{up, down, neg, le}

-- |x|: the same size with the sign clear
unfoldable pub absolute : Float → Float
absolute nan = nan
absolute (inf s) = inf false
absolute (fin s m e) = fin false m e

-- The source's `is_integerf`: whether x is a whole number. A zero does not count as one, and an infinity and a NaN
-- do; its callers have sorted these out before.
unfoldable pub is_integer : Float → Bool
is_integer nan = true
is_integer (inf s) = true
is_integer (fin s zero e) = false
is_integer (fin s (suc m) e) = suc m * up e % down e == 0

-- whether x is from -limit to limit
abbrev pub within : Float → Float → Bool
within limit x = le x limit && le (neg limit) x
