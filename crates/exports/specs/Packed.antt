-- An answer as one u64, for those who call from Rust or C.
use Rattle.std.specs.Prelude.{ℕ, ◌+◌, ◌*◌, ◌^◌}
use Rattle.std.specs.Float.{binary32}
use Rattle.std.specs.Float.Ieee.{to_bits}
use Rattle.compound.specs.declared.Route.{Route}
use Rattle.compound.specs.declared.Route.TheVariants.{Rule as rule, Whole as whole, Edge as edge, Fast as fast}
use Rattle.compound.specs.declared.Route.TheVariants.{Slow as slow}
use Rattle.compound.specs.Answer.{Outcome}

-- the routes by number, in the order in which document 01 names them; the numbers are ours and not the document's
unfoldable pub route_number : Route → ℕ
route_number rule = 0
route_number whole = 1
route_number edge = 2
route_number fast = 3
route_number slow = 4

-- the route's number in the upper half, and the pattern of the value in the lower
unfoldable pub packed : Outcome → ℕ
packed o = route_number o.via * 2 ^ 32 + to_bits binary32 o.value
