-- `lo_bound` meets its contract: the library's |h| is the definition's. Assumes nothing.
use mathlib.Core.Path.{ap, ◌∙◌}
use lib.Ieee.{Float, of_bits}
use Rattle.floats.specs.Operations.{◌⊕◌, ◌⊗◌}
use Rattle.floats.proofs.Laws.Magnitude.{sign_off}
use Rattle.fmla.specs.Fmla.{relative_part, absolute_part, lo_bound}
use Rattle.fmla.proofs.lo_bound.Goals as goal

pub returns : goal.returns
unfolding of_bits lo_bound
returns c = ap (λ (x : Float). x ⊗ relative_part ⊕ absolute_part) (c.abs.ensures.value ∙ sign_off c.args.h)
