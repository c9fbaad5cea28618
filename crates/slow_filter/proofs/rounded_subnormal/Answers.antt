-- `rounded_subnormal` meets its contract: what the sum with 2^-97 has over that of 2^-97 is an f32's pattern. Assumes nothing.
use Rattle.std.proofs.Common.{ℕ, ◌-◌, ◌*◌, ◌^◌, ◌<◌, arith}
use Rattle.slow_filter.proofs.Subnormal.{sum_over, sum_fits, sum_number}
use Rattle.slow_filter.proofs.rounded_subnormal.Goals as goal

-- 2^25 less is below too
less : (w : ℕ) → w < 897 * 2 ^ 52 → w - 33554432 < 897 * 2 ^ 52
less w h = omega arith

pub overflow_sub-result : goal.overflow_sub-result
overflow_sub-result c = rw c.subnormal_sum-low.ensures (sum_over _ (less _ c.requires.w_below))

pub overflow_cast-result : goal.overflow_cast-result
overflow_cast-result c = record { fits = rw c.subnormal_sum-low.ensures (sum_fits _ (less _ c.requires.w_below)) }

pub float_from_bits-result : goal.float_from_bits-result
float_from_bits-result c = rw c.subnormal_sum-low.ensures (sum_number _ (less _ c.requires.w_below))
