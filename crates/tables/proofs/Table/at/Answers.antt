-- `at` meets its contract: the pattern is no NaN's, and the f64 is that of the entry. Assumes nothing.
use Rattle.std.proofs.Common.{◌<◌, length, arith}
use Rattle.tables.specs.Tables.{entry}
use Rattle.tables.proofs.Entries.{number_at}
use Rattle.tables.proofs.Table.at.Goals as goal

pub float_from_bits-result : goal.float_from_bits-result
float_from_bits-result g c =
    let t = g.met.Self.Table in
    let h : c.args.i < length g.Self.Table.patterns = omega (arith, t.has_size) in
    rw c.patterns.ensures (number_at _ _ t.has_numbers h)

pub returns : goal.returns
unfolding entry
returns g c = rw c.patterns.ensures
