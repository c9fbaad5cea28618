-- The claims, for every pair of patterns: nothing is asked of them. Assumes nothing.
use Prim.Native.Nat.{ℕ}
use lib.Ieee.{binary32, of_bits}
use lib.Ieee.Bits.{of_bits-fits}
use Rattle.answers.specs.Claims.{Claims}
use Rattle.answers.proofs.Signs.NanAndSign.{nan_exactly, sign_clear}
use Rattle.answers.proofs.Slow.SlowSign.{slow_clear}
use Rattle.answers.proofs.Whole.WholeBound.{whole_bound, exact_number}

pub claims : (nx ny : ℕ) → Claims nx ny
claims nx ny =
    let x = of_bits binary32 nx in
    let y = of_bits binary32 ny in
    let f = of_bits-fits binary32 nx in
    let g = of_bits-fits binary32 ny in
    record { nan_exactly = nan_exactly slow_clear x y f g; sign_clear = sign_clear slow_clear x y f g; whole_bound = whole_bound x y f g; exact_number = exact_number x y f }
