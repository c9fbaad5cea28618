-- `clamped_k` meets its contract: the library's clamp makes the definition's two tests, and what it leaves can be cast. Assumes nothing.
use Rattle.std.proofs.Common.{sym, ap, ◌∙◌, subst}
use Rattle.std.proofs.lemmas.Float.{T_from_true, T_from_false}
use lib.Ieee.{of_bits, neg, to_signed}
use denote.Floats.{passes}
use Rattle.floats.proofs.Laws.Nan.{only_nan}
use Rattle.fast_path.proofs.Index.{Castable}
use Rattle.slow_path.proofs.Clamped.{clamp_is, clamped_castable, clamped_nan}
use Rattle.slow_path.proofs.clamped_k.Goals as goal
use Rattle.slow_path.proofs.clamped_k.Goals.{After-clamp}

pub returns-then-is_nan : goal.returns-then-is_nan
returns-then-is_nan c = clamped_nan _ (only_nan _ (T_from_true _ (sym c.is_nan.ensures.value ∙ c.if-is_nan.true)))

cast : (c : After-clamp) → Castable c.clamp.result
unfolding of_bits neg
cast c = subst Castable (sym c.clamp.ensures.value) (clamped_castable c.args.k (passes _ c.well_formed.0.1) c.requires (T_from_false _ (sym c.is_nan.ensures.value ∙ c.if-is_nan.false)))

pub float_to_int-result : goal.float_to_int-result
unfolding of_bits
float_to_int-result c = (cast (goal.at.float_to_int-result c).After-clamp).defined

pub returns-else-is_nan : goal.returns-else-is_nan
unfolding of_bits neg
returns-else-is_nan c = (cast (goal.at.returns-else-is_nan c).After-clamp).read ∙ ap (to_signed 63) c.clamp.ensures.value ∙ clamp_is c.args.k
