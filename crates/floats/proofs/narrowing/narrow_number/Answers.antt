-- `narrow_number` meets its contract: the magnitude is narrowed by its pattern, and the sign's bit is put back. Assumes nothing.
use Rattle.std.proofs.Common.{◌≡◌, ℕ, ◌+◌, ◌^◌, ◌<◌, not, T, sym, ap, ◌∙◌, subst, arith}
use lib.Ieee.{Float, binary32, binary64, fits, nan_bits, to_bits, of_bits}
use denote.Floats.{passes}
use Rattle.floats.specs.Narrowing.{narrowed}
use Rattle.floats.proofs.Laws.Narrow.{sign_bit, magnitude_small, whole_pattern, pattern_fits, pattern_back, pattern_number}
use Rattle.floats.proofs.narrowing.narrow_number.Goals as goal
use Rattle.floats.proofs.narrowing.narrow_number.Goals.{After-narrow_magnitude-p, Start}

held : (c : Start) → T (fits binary64 c.args.x)
held c = passes _ c.well_formed.0.1

-- with the sign's bit put back, the pattern is the narrowed value's
module _ (c : After-narrow_magnitude-p) where
  abbrev x : Float
  x = c.args.x

  together : sign_bit (to_bits binary64 x) + c.narrow_magnitude-p.result ≡ to_bits binary32 (narrowed x)
  together = ap (λ (p : ℕ). sign_bit (to_bits binary64 x) + p) c.narrow_magnitude-p.ensures ∙ whole_pattern x (held c.before) c.requires

  small : sign_bit (to_bits binary64 x) + c.narrow_magnitude-p.result < 2 ^ 32
  small = subst (λ (n : ℕ). n < 2 ^ 32) (sym together) (pattern_fits x (held c.before) c.requires)

pub narrow_magnitude-p-requires : goal.narrow_magnitude-p-requires
narrow_magnitude-p-requires c = magnitude_small c.args.x (held (goal.at.narrow_magnitude-p-requires c).Start) c.requires

pub overflow_mul-result : goal.overflow_mul-result
overflow_mul-result c = omega (arith, small (goal.at.overflow_mul-result c).After-narrow_magnitude-p)

pub overflow_add-result : goal.overflow_add-result
overflow_add-result c = omega (arith, small (goal.at.overflow_add-result c).After-narrow_magnitude-p)

pub overflow_cast-result : goal.overflow_cast-result
overflow_cast-result c = record { fits = small (goal.at.overflow_cast-result c).After-narrow_magnitude-p }

pub float_from_bits-result : goal.float_from_bits-result
float_from_bits-result c = subst (λ (n : ℕ). T (not (nan_bits binary32 n))) (sym (together (goal.at.float_from_bits-result c).After-narrow_magnitude-p)) (pattern_number (x (goal.at.float_from_bits-result c).After-narrow_magnitude-p) (held (goal.at.float_from_bits-result c).Start) c.requires)

pub returns : goal.returns
returns c = ap (of_bits binary32) (together (goal.at.returns c).After-narrow_magnitude-p) ∙ pattern_back (x (goal.at.returns c).After-narrow_magnitude-p) (held (goal.at.returns c).Start) c.requires
