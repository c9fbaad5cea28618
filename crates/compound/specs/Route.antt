-- Document 01, "Table path" and "One pair, one answer": the choice of the route, and the answer for every pair.
use Rattle.std.specs.Prelude.{cond, Option, Some, None, Float}
use Rattle.floats.specs.Operations.{◌⊗◌}
use Rattle.floats.specs.Narrowing.{narrowed}
use Rattle.compound.specs.declared.Route.TheVariants.{Rule as rule, Whole as whole, Edge as edge, Fast as fast}
use Rattle.compound.specs.declared.Route.TheVariants.{Slow as slow}
use Rattle.compound.specs.Answer.{Outcome}
use Rattle.special.specs.Special as Special
use Rattle.whole.specs.Whole as Whole
use Rattle.fast_path.specs.Edges.{gives_zero, gives_infinity, gives_one}
use Rattle.fast_path.specs.Fast.{compoundf_log2p1_fast, exp2_fast}
use Rattle.slow_path.specs.Slow.{compoundf_accurate}

-- "the tests in `exp2_fast` decide between `fast` and `slow`"
unfoldable pub decided : Float → Float → Option Float → Outcome
decided x y (Some v) = record { via = fast; value = narrowed v }
decided x y None = record { via = slow; value = compoundf_accurate x y }

-- "t <= -150 gives +0 and t >= 128 gives +infinity; a pattern of t, shifted left once, of at most 3e6715476ba97f14
-- gives 1. These are route `edge`."
unfoldable pub from_logarithm : Float → Float → Float → Outcome
from_logarithm x y t =
    cond (gives_zero t) (record { via = edge; value = Special.zero })
    (cond (gives_infinity t) (record { via = edge; value = Special.+infinity })
    (cond (gives_one t) (record { via = edge; value = Special.one }) (decided x y (exp2_fast t))))

-- "With t = l×y"
unfoldable pub table_path : Float → Float → Outcome
table_path x y = from_logarithm x y (compoundf_log2p1_fast x ⊗ y)

-- The answer for x and y, with its route: `rule`, else `whole`, else the table path.
unfoldable pub compound : Float → Float → Outcome
compound x y =
    cond (Special.is_rule x y) (record { via = rule; value = Special.special x y })
    (cond (Whole.is_whole x y) (record { via = whole; value = Whole.whole x y }) (table_path x y))
