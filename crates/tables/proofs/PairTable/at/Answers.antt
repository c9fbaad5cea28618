-- `at` meets its contract: no half of the pattern is a NaN's, and the double-double is that of the entry. Assumes nothing.
use Rattle.std.proofs.Common.{◌<◌, length, arith}
use Rattle.tables.specs.Tables.{from_bit_pair, pair_entry}
use Rattle.tables.proofs.Entries.{pair_at}
use Rattle.tables.proofs.PairTable.at.Goals as goal

pub float_from_bits-result : goal.float_from_bits-result
float_from_bits-result g c =
    let t = g.met.Self.PairTable in
    let h : c.args.i < length g.Self.PairTable.patterns = omega (arith, t.has_size) in
    rw c.patterns.ensures (pair_at _ _ t.has_numbers h).0

pub float_from_bits-result-2 : goal.float_from_bits-result-2
float_from_bits-result-2 g c =
    let t = g.met.Self.PairTable in
    let h : c.args.i < length g.Self.PairTable.patterns = omega (arith, t.has_size) in
    rw c.patterns.ensures (pair_at _ _ t.has_numbers h).1

pub returns : goal.returns
unfolding from_bit_pair pair_entry
returns g c = rw c.patterns.ensures
