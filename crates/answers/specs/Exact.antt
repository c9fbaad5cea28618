-- The mission, demand 3: "E being the exact (1+x)^y", a fraction of whole numbers, for a finite x above -1 and a
-- whole y.
use Rattle.std.specs.Prelude.{ℕ, ◌+◌, ◌-◌, ◌*◌, ◌/◌, ◌^◌, true, false, Float}
use Rattle.std.specs.Float.{nan, inf, fin}
use Rattle.std.specs.Float.Ieee.{up, down}

-- top / bottom
pub record Fraction : Type 0 where
  pub top : ℕ
  pub bottom : ℕ

-- 1 + x. An infinity and a NaN have none; the 0 that stands here for it is without effect. So is the top that is cut
-- to 0 for an x below -1.
unfoldable pub exact_base : Float → Fraction
exact_base nan = record { top = 0; bottom = 1 }
exact_base (inf s) = record { top = 0; bottom = 1 }
exact_base (fin false m e) = record { top = down e + m * up e; bottom = down e }
exact_base (fin true m e) = record { top = down e - m * up e; bottom = down e }

-- a^n, and 1 / a^n
unfoldable pub raised : Fraction → ℕ → Fraction
raised a n = record { top = a.top ^ n; bottom = a.bottom ^ n }

unfoldable pub raised_inverse : Fraction → ℕ → Fraction
raised_inverse a n = record { top = a.bottom ^ n; bottom = a.top ^ n }

-- E = (1+x)^y: with y = ±n it is (1+x)^n or 1 / (1+x)^n. An infinity and a NaN are no exponents here, and the 0 is
-- without effect. Where the bound is claimed the bottom is above 0 (`ExactNumber` in specs/Claims.antt).
unfoldable pub exact : Float → Float → Fraction
exact x nan = record { top = 0; bottom = 1 }
exact x (inf s) = record { top = 0; bottom = 1 }
exact x (fin false m e) = raised (exact_base x) (m * up e / down e)
exact x (fin true m e) = raised_inverse (exact_base x) (m * up e / down e)
