-- Document 01, "One pair, one answer": "The answer is one of five routes, each carrying its f32, and no pair is
-- refused".
use Rattle.std.specs.Prelude.{ℕ, List, Float, codes}
use Rattle.compound.specs.declared.Answer.{Answer}
use Rattle.compound.specs.declared.Answer.TheVariants.{Rule, Whole, Edge, Fast, Slow}
use Rattle.compound.specs.declared.Route.{Route}
use Rattle.compound.specs.declared.Route.TheVariants.{Rule as rule, Whole as whole, Edge as edge, Fast as fast}
use Rattle.compound.specs.declared.Route.TheVariants.{Slow as slow}

-- "W is `rule`, `whole`, `edge`, `fast` or `slow`": the bytes of a route's name
unfoldable pub word : Route → List ℕ
word rule = codes "rule"
word whole = codes "whole"
word edge = codes "edge"
word fast = codes "fast"
word slow = codes "slow"

-- a route and the f32 that it carries
pub record Outcome : Type 0 where
  pub via : Route
  pub value : Float

-- what each case of the enum says: its route and its value
unfoldable pub outcome : Answer → Outcome
outcome (Rule r) = record { via = rule; value = r }
outcome (Whole r) = record { via = whole; value = r }
outcome (Edge r) = record { via = edge; value = r }
outcome (Fast r) = record { via = fast; value = r }
outcome (Slow r) = record { via = slow; value = r }
