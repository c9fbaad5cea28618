-- Where the plain value is clear of every midpoint of two subnormal f32s, the slow path's narrows to what the plain one rounds to (`subnormal`): its pattern is between the two that are
-- tested, so that its sum with 2^-97 is between two that are the same. Assumes nothing.
use Rattle.std.proofs.Common.{◌≡◌, ℕ, suc, ◌+◌, ◌-◌, ◌*◌, ◌%◌, ◌^◌, ◌<◌, ◌≤◌, Some, Bool, not, sym, ap, ◌∙◌, subst, le_trans, le_of_eq, le_antisymm, lt_of_lt_of_le, arith, eqb-true, T, eqb, lit≤, lit<, ℤ, pos, negsuc}
use Rattle.std.proofs.lemmas.Option.{cond_some}
use lib.Ieee.{Float, binary32, binary64, is_nan, nan_bits, of_bits}
use lib.Ieee.Bits.{nan_bits_is, of_bits-fits, of_bits-to_bits}
use Rattle.floats.specs.Operations.{f64}
use Rattle.floats.specs.Narrowing.{narrowed}
use Rattle.floats.specs.SubnormalSum.{subnormal_sum}
use Rattle.std.proofs.lemmas.Float.{not_nan_f64_bits}
use Rattle.floats.proofs.Laws.Narrow.{low_finite, low_sum_over, low_pattern, pattern_fits, pattern_number, narrowed_fits}
use Rattle.floats.proofs.Laws.Sums.{sum_patterns_mono}
use Rattle.fast_path.specs.Scaling.{scaled}
use Rattle.filter.proofs.Power.{Unscaled}
use Rattle.slow_filter.specs.Subnormal.{rounded_subnormal}
use Rattle.slow_filter.proofs.BelowNormal.{BelowNormal}

-- ---- a pattern from 1/2 to 2, scaled by 2^k for a k from -150 to -127: nothing wraps
scaled_is : (b n : ℕ) → Unscaled b → n < 150 → scaled b (negsuc n) ≡ b - suc n * 2 ^ 52
unfolding scaled
scaled_is b n u h = no_wrap b n u.low u.high h
  where
    no_wrap : (b n : ℕ) → 1022 * 2 ^ 52 ≤ b → b < 1024 * 2 ^ 52 → n < 150 → (b + suc n * (2 ^ 64 - 2 ^ 52)) % 2 ^ 64 ≡ b - suc n * 2 ^ 52
    no_wrap b n g h l = omega arith

-- the scaled pattern is from 2^-151 to 2^-126
pub record Below (w : ℕ) : Type 0 where
  pub least : 872 * 2 ^ 52 ≤ w
  pub most : w < 897 * 2 ^ 52

pub scaled_below : (b : ℕ) (k : ℤ) → Unscaled b → BelowNormal k → Below (scaled b k)
scaled_below b (pos n) u h = absurd h
scaled_below b (negsuc n) u h = subst Below (sym (scaled_is b n u h.1)) (go b n u.low u.high h.0 h.1)
  where
    go : (b n : ℕ) → 1022 * 2 ^ 52 ≤ b → b < 1024 * 2 ^ 52 → 126 ≤ n → n < 150 → Below (b - suc n * 2 ^ 52)
    go b n g h l m = record { least = omega arith; most = omega arith }

-- two that are near stay so
scaled_near : (b b' : ℕ) (k : ℤ) → Unscaled b → Unscaled b' → BelowNormal k → b ≤ b' + 2 ^ 25 → scaled b k ≤ scaled b' k + 2 ^ 25
scaled_near b b' (pos n) u v h g = absurd h
scaled_near b b' (negsuc n) u v h g = rw (scaled_is b n u h.1, scaled_is b' n v h.1) (go b b' n v.low h.1 g)
  where
    go : (b b' n : ℕ) → 1022 * 2 ^ 52 ≤ b' → n < 150 → b ≤ b' + 2 ^ 25 → b - suc n * 2 ^ 52 ≤ b' - suc n * 2 ^ 52 + 2 ^ 25
    go b b' n l m g = omega arith

-- ---- the sums
sum_mono : (m n : ℕ) → m ≤ n → n < 898 * 2 ^ 52 → subnormal_sum m ≤ subnormal_sum n
unfolding subnormal_sum
sum_mono m n h k = sum_patterns_mono binary64 m n 0x39e0000000000000 h (lt_of_lt_of_le k (lit≤ tt)) (lit< tt)

-- what the sum has over 2^-97 is the pattern of the narrowed value
narrowed_is : (w : ℕ) → w < 897 * 2 ^ 52 → narrowed (f64 w) ≡ of_bits binary32 (subnormal_sum w - 0x39e0000000000000)
unfolding subnormal_sum
narrowed_is w h = sym (of_bits-to_bits binary32 (narrowed (f64 w)) (narrowed_fits (f64 w))) ∙ ap (of_bits binary32) (low_pattern w (low_finite w h) h)

-- and it is one
pub sum_over : (w : ℕ) → w < 897 * 2 ^ 52 → 0x39e0000000000000 ≤ subnormal_sum w
unfolding subnormal_sum
sum_over w h = low_sum_over w (low_finite w h) h

module _ (w : ℕ) (h : w < 897 * 2 ^ 52) where
  is_number : T (not (is_nan (f64 w)))
  is_number = subst (λ (b : Bool). T (not b)) (nan_bits_is binary64 w) (not_nan_f64_bits w (below w h))
    where
      below : (w : ℕ) → w < 897 * 2 ^ 52 → w % 2 ^ 63 ≤ 0x7ff0000000000000
      below w h = omega arith

  pub sum_fits : subnormal_sum w - 0x39e0000000000000 < 2 ^ 32
  unfolding subnormal_sum
  sum_fits = subst (λ (n : ℕ). n < 2 ^ 32) (low_pattern w (low_finite w h) h) (pattern_fits (f64 w) (of_bits-fits binary64 w) is_number)

  pub sum_number : T (not (nan_bits binary32 (subnormal_sum w - 0x39e0000000000000)))
  unfolding subnormal_sum
  sum_number = subst (λ (n : ℕ). T (not (nan_bits binary32 n))) (low_pattern w (low_finite w h) h) (pattern_number (f64 w) (of_bits-fits binary64 w) is_number)

-- where the sums of w' - 2^25 and w' + 2^25 are the same, that of w is too
sum_same : (w w' : ℕ) → Below w → Below w' → w ≤ w' + 2 ^ 25 → w' ≤ w + 2 ^ 25 → subnormal_sum (w' - 2 ^ 25) ≡ subnormal_sum (w' + 2 ^ 25) → subnormal_sum w ≡ subnormal_sum (w' - 2 ^ 25)
sum_same w w' p q g h e =
    le_antisymm (le_trans (sum_mono w (w' + 2 ^ 25) g (over w' q.most)) (le_of_eq (sym e))) (sum_mono (w' - 2 ^ 25) w (less w w' h) (more w p.most))
  where
    over : (w : ℕ) → w < 897 * 2 ^ 52 → w + 2 ^ 25 < 898 * 2 ^ 52
    over w h = omega arith

    more : (w : ℕ) → w < 897 * 2 ^ 52 → w < 898 * 2 ^ 52
    more w h = omega arith

    less : (w w' : ℕ) → w' ≤ w + 2 ^ 25 → w' - 2 ^ 25 ≤ w
    less w w' h = omega arith

-- ---- the answer that is found is what the other pattern narrows to
narrows : (w w' : ℕ) (v : Float) → Below w → Below w' → w ≤ w' + 2 ^ 25 → w' ≤ w + 2 ^ 25 → rounded_subnormal w' ≡ Some v → narrowed (f64 w) ≡ v
unfolding rounded_subnormal
narrows w w' v p q g h found =
    let o = cond_some (eqb (subnormal_sum (w' - 2 ^ 25)) (subnormal_sum (w' + 2 ^ 25))) _ v found in
    narrowed_is w p.most ∙ ap (λ (s : ℕ). of_bits binary32 (s - 0x39e0000000000000)) (sum_same w w' p q g h (eqb-true _ _ o.0)) ∙ o.1

pub subnormal : (b b' : ℕ) (k : ℤ) (v : Float) → Unscaled b → Unscaled b' → b ≤ b' + 2 ^ 25 → b' ≤ b + 2 ^ 25 → BelowNormal k → rounded_subnormal (scaled b' k) ≡ Some v → narrowed (f64 (scaled b k)) ≡ v
subnormal b b' k v u u' g h n found =
    narrows (scaled b k) (scaled b' k) v (scaled_below b k u n) (scaled_below b' k u' n) (scaled_near b b' k u u' n g) (scaled_near b' b k u' u n h) found
