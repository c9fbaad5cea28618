-- Document 01, "Pairs at the edges": "The starred ones go together into a proved table".
use Rattle.std.specs.Prelude.{◌≡◌, List, [], ◌∷◌, map, ℕ}
use Rattle.std.specs.Float.{binary32}
use Rattle.std.specs.Float.Ieee.{of_bits}
use Rattle.compound.specs.declared.Route.{Route}
use Rattle.compound.specs.declared.Route.TheVariants.{Rule as rule, Whole as whole}
use Rattle.compound.specs.Answer.{Outcome}
use Rattle.compound.specs.Route.{compound}

-- a row of the document's table: the patterns of x, y and r, and the route
pub record Row : Type 0 where
  pub x : ℕ
  pub y : ℕ
  pub r : ℕ
  pub via : Route

abbrev pub row : ℕ → ℕ → ℕ → Route → Row
row x y r via = record { x = x; y = y; r = r; via = via }

-- the starred rows, in the document's order
abbrev pub starred : List Row
starred =
    row 0x00000000 0x7f800000 0x3f800000 rule ∷
    row 0x00000000 0x7fc00000 0x7fc00000 rule ∷
    row 0xbf800000 0x80000000 0x3f800000 rule ∷
    row 0xbf800000 0x3f800000 0x00000000 rule ∷
    row 0xbf800000 0xbf800000 0x7f800000 rule ∷
    row 0xbf800001 0x00000000 0x7fc00000 rule ∷
    row 0x3f000000 0x40000000 0x40100000 whole ∷
    row 0x3f800000 0x41800000 0x47800000 whole ∷
    row 0x3f800000 0xc1800000 0x37800000 whole ∷
    row 0x31000000 0x41800000 0x3f800000 whole ∷
    row 0x5f7fffff 0x3f800000 0x5f7fffff whole ∷ []

-- what the definition says of a row's x and y, and what the row says
abbrev pub defined : Row → Outcome
defined w = compound (of_bits binary32 w.x) (of_bits binary32 w.y)

abbrev pub stated : Row → Outcome
stated w = record { via = w.via; value = of_bits binary32 w.r }

-- they agree at every starred row
abbrev pub StarredPairs : Type 0
StarredPairs = map defined starred ≡ map stated starred
