-- `narrow` meets its contract: a NaN is tested for. Assumes nothing.
use Rattle.std.proofs.Common.{sym, ap, ◌∙◌}
use Rattle.std.proofs.lemmas.Float.{T_from_true}
use lib.Ieee.{of_bits}
use Rattle.floats.specs.Narrowing.{narrowed}
use Rattle.floats.proofs.Laws.Nan.{only_nan}
use Rattle.floats.proofs.narrowing.narrow.Goals as goal

pub returns-then-is_nan : goal.returns-then-is_nan
unfolding of_bits narrowed
returns-then-is_nan c = ap narrowed (sym (only_nan c.args.x (T_from_true _ (sym c.is_nan.ensures.value ∙ c.if-is_nan.true))))
