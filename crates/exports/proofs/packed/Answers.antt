-- `packed` meets its contract: the route's tag is its number. Assumes nothing.
use Rattle.std.proofs.Common.{◌≡◌, refl}
use denote.Enum.Declared.{tag_of}
use Rattle.compound.specs.contracts.Route.{the_type}
use Rattle.compound.specs.declared.Route.{Route}
use Rattle.compound.specs.declared.Route.TheVariants.{Rule, Whole, Edge, Fast, Slow}
use Rattle.exports.specs.Packed.{route_number, packed}
use Rattle.exports.proofs.packed.Goals as goal

tag : (r : Route) → tag_of the_type r ≡ route_number r
unfolding route_number
tag Rule = refl
tag Whole = refl
tag Edge = refl
tag Fast = refl
tag Slow = refl

pub returns : goal.returns
unfolding packed
returns c = cc (tag c.args.via)
