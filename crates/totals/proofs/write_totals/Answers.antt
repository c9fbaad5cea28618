-- `write_totals` meets its contract: the totals and the end's line have room. Assumes nothing.
use Rattle.std.proofs.Common.{rules}
use Rattle.totals.specs.Totals.{totals}
use Rattle.totals.proofs.Room.{totals_most, totals_steps}
use Rattle.totals.proofs.write_totals.Goals as goal

pub put-requires : goal.put-requires
unfolding totals
put-requires c = let h = totals_most c.args.state c.args.end in search (rules, totals_steps)
