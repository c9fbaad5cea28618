-- `narrow_magnitude` meets its contract: the pattern that is taken is `low_pattern` or `normal_magnitude`, where the difference does not wrap. Assumes nothing.
use Rattle.std.proofs.Common.{◌≡◌, ℕ, ◌+◌, ◌-◌, ◌*◌, ◌/◌, ◌%◌, ◌^◌, ◌<◌, ◌≤◌, min, sym, refl, ap, ◌∙◌, arith}
use lib.Ieee.{binary32, binary64, to_bits, of_bits}
use lib.Ieee.Bits.{to_bits-lt}
use lib.Ieee.Fits.{add-fits}
use Rattle.floats.specs.Narrowing.{narrowed}
use Rattle.floats.specs.SubnormalSum.{subnormal_sum}
use Rattle.floats.proofs.Laws.Narrow.{low_finite, low_pattern, low_sum_over, normal_magnitude}
use Rattle.floats.proofs.narrowing.narrow_magnitude.Goals as goal

-- a difference that does not wrap
difference : (a b k : ℕ) → k + b ≡ 2 ^ 64 → a < 2 ^ 64 → b ≤ a → (a + k) % 2 ^ 64 ≡ a - b
difference a b k e h l = omega (arith, e, h, l)

-- the digits that are kept, and that they reach the exponent's field
abbrev kept : ℕ → ℕ
kept m = (m + 0xfff_ffff + m / 0x2000_0000 % 2) / 0x2000_0000

reached : (m : ℕ) → 0x3810_0000_0000_0000 ≤ m → 0x1_c000_0000 ≤ kept m
reached m h = omega (arith, h)

kept_small : (m : ℕ) → m ≤ 0x7ff0000000000000 → kept m < 2 ^ 64
kept_small m h = omega (arith, h)

low_is : (m : ℕ) → m < 897 * 2 ^ 52 → (subnormal_sum m + 0xc620000000000000) % 2 ^ 64 ≡ to_bits binary32 (narrowed (of_bits binary64 m))
unfolding subnormal_sum
low_is m h = difference _ 0x39e0000000000000 _ refl (to_bits-lt binary64 _ (add-fits binary64 _ _)) (low_sum_over m (low_finite m h) h) ∙ sym (low_pattern m (low_finite m h) h)

high_is : (m : ℕ) → m ≤ 0x7ff0000000000000 → 0x3810_0000_0000_0000 ≤ m → min ((kept m + 0xfffffffe40000000) % 2 ^ 64) 0x7f80_0000 ≡ to_bits binary32 (narrowed (of_bits binary64 m))
high_is m small large = ap (λ (p : ℕ). min p 0x7f80_0000) (difference (kept m) 0x1_c000_0000 _ refl (kept_small m small) (reached m large)) ∙ sym (normal_magnitude m small large)

pub returns-then-m-lt4039728865751334912 : goal.returns-then-m-lt4039728865751334912
returns-then-m-lt4039728865751334912 c = rw c.subnormal_sum-low.ensures (low_is c.args.m c.if-m-lt4039728865751334912.true)

pub returns-else-m-lt4039728865751334912 : goal.returns-else-m-lt4039728865751334912
returns-else-m-lt4039728865751334912 c = c.min-high.ensures ∙ high_is c.args.m c.requires c.if-m-lt4039728865751334912.false
