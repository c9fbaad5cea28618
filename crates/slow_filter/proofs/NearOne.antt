-- Next to 1 the slow path's answer is what the short polynomial rounds to, where that is clear of every midpoint of two f32s (`near_one`): the two patterns are 6 from each other at most, and a
-- pattern that is taken is more than 8 from every midpoint. Where t is so small that the slow path does not work the power out, both are 1. Assumes nothing.
use Rattle.std.proofs.Common.{◌≡◌, ℕ, ◌+◌, ◌-◌, ◌*◌, ◌/◌, ◌%◌, ◌^◌, ◌<◌, ◌≤◌, Some, refl, sym, ap, ◌∙◌, Bool, true, false, arith, ltb-true}
use lib.Ieee.{Float, binary32, binary64, le, to_bits, of_bits}
use Rattle.floats.specs.Operations.{◌⊕◌, ◌⊗◌, f64}
use Rattle.floats.specs.Narrowing.{narrowed}
use Rattle.floats.specs.OnBits.{absolute}
use Rattle.double_double.specs.declared.DoubleDouble.{DoubleDouble}
use Rattle.special.specs.Special.{one}
use Rattle.slow_path.specs.Slow.{exp2_accurate}
use Rattle.bounds.proofs.Values.{Number}
use Rattle.bounds.proofs.Scales.{S, Bound}
use Rattle.bounds.proofs.Distances.{Apart, bound_near}
use Rattle.bounds.proofs.Apart.{apart_turned}
use Rattle.filter.proofs.Power.{Unscaled}
use Rattle.filter.proofs.Accepted.{clear_narrowed}
use Rattle.std.proofs.lemmas.Option.{cond_some}
use Rattle.filter.specs.Midpoints.{clear_of_midpoints, narrowed_pattern}
use Rattle.slow_filter.specs.NearOne.{near_one_power, near_one_margin, near_one_found}
use Rattle.slow_filter.proofs.NearOneTiny.{FromOne, tiny_bound, tiny_is_one, tiny_near}
use Rattle.slow_filter.proofs.NearOnePower.{near_one_power_lem, tiny_power}

-- ---- the answer that is found is what the other pattern narrows to
narrows : (w w' : ℕ) (v : Float) → Unscaled w → w ≤ w' + 6 → w' ≤ w + 6 → narrowed_pattern near_one_margin w' ≡ Some v → narrowed (f64 w) ≡ v
unfolding narrowed_pattern
narrows w w' v u g h found =
    let o = cond_some (clear_of_midpoints near_one_margin w') _ v found in
    clear_narrowed near_one_margin w w' (omega (arith, u.low)) (omega (arith, u.high)) (omega arith) (omega arith) (ltb-true _ _ o.0) ∙ o.1

-- the same where both are 1
narrows_one : (x : Float) (w' : ℕ) (v : Float) → narrowed x ≡ of_bits binary32 0x3f800000 → FromOne (2 ^ 28 + 8) w' → narrowed_pattern near_one_margin w' ≡ Some v → narrowed x ≡ v
unfolding narrowed_pattern
narrows_one x w' v e r found =
    let o = cond_some (clear_of_midpoints near_one_margin w') _ v found in
    e ∙ ap (of_bits binary32) (rounds w' r.least r.most (ltb-true _ _ o.0)) ∙ o.1
  where
    rounds : (w' : ℕ) → 1023 * 2 ^ 52 ≤ w' + (2 ^ 28 + 8) → w' ≤ 1023 * 2 ^ 52 + (2 ^ 28 + 8) → 2 * near_one_margin < (w' + (0x10000000 + near_one_margin)) % 0x20000000 → 0x3f800000 ≡ (w' + 0x10000000) / 0x20000000 - 0x1c0000000
    rounds w' g h t = omega arith

pub near_one : (t : DoubleDouble) (t' : Float) → Number t.hi → Apart S 2 t.hi t' → Bound S 1 t.lo → Bound S (2 ^ 37) t' → (v : Float) → near_one_found t' ≡ Some v → v ≡ exp2_accurate t
unfolding near_one_found
near_one t t' n a l b v found = go (le (absolute t.hi) (f64 0x3e6715476af0d4c8)) refl
  where
    go : (x : Bool) → le (absolute t.hi) (f64 0x3e6715476af0d4c8) ≡ x → v ≡ exp2_accurate t
    go false e =
        let p = near_one_power_lem t t' n a l b e in
        sym (narrows p.pattern (to_bits binary64 (near_one_power t')) v p.unscaled p.over p.under found) ∙ sym p.is
    go true e =
        let h = tiny_bound t.hi n e in
        let x = one ⊕ t.hi ⊗ f64 0x3fe0000000000000 in
        sym (narrows_one x (to_bits binary64 (near_one_power t')) v (tiny_is_one t.hi h) (tiny_near t' (bound_near b.number (apart_turned a) h)) found) ∙ sym (tiny_power t t' n a l b e)
