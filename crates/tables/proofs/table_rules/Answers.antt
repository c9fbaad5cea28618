-- `table_rules` meets its contract: it is the theorem. Assumes nothing.
use Rattle.tables.proofs.Entries.{rules}
use Rattle.tables.proofs.table_rules.Goals as goal

pub returns : goal.returns
returns c = rules
