-- `line_feeds` meets its contract: a count is at most the length, so it fits. Assumes nothing.
use Rattle.std.proofs.Common.{cond, eqb, arith, rules}
use Rattle.std.proofs.lemmas.Iterator.{YieldsList-from_slice, YieldsList-from_map}
use Rattle.std.proofs.lemmas.Iterator.Consumers.{YieldsList-at, fits_by_from_yields_list}
use Rattle.std.proofs.lemmas.List.Sums.{count_by-le-length}
use Rattle.scan.specs.Complete.{line_feed}
use Rattle.scan.proofs.line_feeds.Goals as goal

pub sum-requires-clause-fits : goal.sum-requires-clause-fits
sum-requires-clause-fits c =
    let s = c.args.s.now in
    let few = count_by-le-length (λ b. eqb b line_feed) s in
    fits_by_from_yields_list (λ b. cond (eqb b line_feed) 1 0) s _ _
    (YieldsList-from_map _ _ (YieldsList-at c.map.ensures.source (YieldsList-from_slice s (cc))) c.map.ensures.closure (λ x r q k. search rules))
    (omega arith)
