-- Document 01, "Pairs at the edges": the rows without a star, which "are run and checked against the Rust", are what
-- the definition gives too. The starred ones are in compound/specs/Starred.antt; all five routes are among the two.
use Rattle.std.specs.Prelude.{◌≡◌, List, [], ◌∷◌, map}
use Rattle.compound.specs.declared.Route.TheVariants.{Edge as edge, Fast as fast, Slow as slow}
use Rattle.compound.specs.Starred.{Row, row, defined, stated}

-- in the document's order
abbrev pub unstarred : List Row
unstarred =
    row 0x5f800000 0x3f800000 0x5f800000 fast ∷
    row 0x3f800000 0x3f000000 0x3fb504f3 fast ∷
    row 0x3f800000 0x43000000 0x7f800000 edge ∷
    row 0x3f800000 0xc3160000 0x00000000 edge ∷
    row 0x3f800000 0xc3150000 0x00000001 slow ∷
    row 0x21800000 0x5d800000 0x3f800000 edge ∷ []

abbrev pub UnstarredPairs : Type 0
UnstarredPairs = map defined unstarred ≡ map stated unstarred
