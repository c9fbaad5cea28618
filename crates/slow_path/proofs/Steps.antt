-- What proves `is_near_one` and `compoundf_accurate`: the usual steps, and one law each. Assumes nothing.
use Rattle.std.proofs.lemmas.Grind.{common_steps}
use Rattle.floats.proofs.Laws.Magnitude.{sign_off}
use Rattle.floats.proofs.Laws.Narrow.{narrowed_same}

pub ruleset sizes = (common_steps, sign_off)

pub ruleset narrowings = (common_steps, narrowed_same)
