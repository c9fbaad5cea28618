-- `compoundf_log2p1_accurate` meets its contract: 1 + x is from 2^-24 to 2^128, so that the scale and the inverse have their entries.
-- Assumes nothing.
use Rattle.std.proofs.Common.{◌≡◌, ℕ, ◌+◌, ◌-◌, ◌≤◌, subst, lt_trans, arith, lit<, Fits-le, Fits-lit}
use lib.Ieee.{binary64, to_bits}
use Rattle.floats.specs.Operations.{◌⊗◌}
use Rattle.tables.specs.Tables.{entry, log2p1_scale}
use Rattle.fast_path.specs.Scaling.{biased}
use Rattle.fast_path.specs.Fast.{HasInverse}
use Rattle.fast_path.proofs.OnePlus.{InScale}
use Rattle.slow_path.specs.Slow.{one_plus}
use Rattle.slow_path.proofs.Scaled.{one_plus_bits, biased_range, accurate_index}
use Rattle.slow_path.proofs.compoundf_log2p1_accurate.Goals as goal
use Rattle.slow_path.proofs.compoundf_log2p1_accurate.Goals.{After-f64_to_bits_with_nan-bits, After-biased}

-- the pattern of 1 + x, and its field
in_scale : (c : After-f64_to_bits_with_nan-bits) → InScale c.f64_to_bits_with_nan-bits.result
in_scale c = rw (c.f64_to_bits_with_nan-bits.ensures, c.one_plus-v.ensures) (one_plus_bits c.args.base.x c.args.base.is_base)

field : (c : After-biased) → (999 ≤ c.biased.result) × (c.biased.result ≤ 1151)
field c = rw c.biased.ensures (biased_range _ (in_scale c.before))

pub overflow_add-biased : goal.overflow_add-biased
overflow_add-biased c = Fits-le (go _ (field (goal.at.overflow_add-biased c).After-biased).1) (Fits-lit tt)
  where
    go : (b : ℕ) → b ≤ 1151 → b + 29 ≤ 1180
    go b h = omega arith

pub overflow_sub-biased : goal.overflow_sub-biased
overflow_sub-biased c = omega (arith, (field (goal.at.overflow_sub-biased c).After-biased).0)

pub at-scale-requires : goal.at-scale-requires
at-scale-requires c = omega (arith, (field (goal.at.at-scale-requires c).After-biased).1)

pub exponent-requires : goal.exponent-requires
exponent-requires c = lt_trans (in_scale (goal.at.exponent-requires c).After-f64_to_bits_with_nan-bits).1 (lit< tt)

pub of-t-requires : goal.of-t-requires
of-t-requires c =
    let e : (one_plus c.args.base.x).hi ⊗ entry log2p1_scale (biased (to_bits binary64 (one_plus c.args.base.x).hi) + 29 - 1023) ≡ c.one_plus-v.result.hi ⊗ c.at-scale.result = cc in
    subst HasInverse e (accurate_index c.args.base.x c.args.base.is_base).1
