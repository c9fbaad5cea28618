-- What the plain evaluation finds of x and y is the slow path's answer (`settled`): the accurate logarithm times y is near the plain t', the accurate power near the plain one, and no midpoint is between
-- them. Assumes nothing.
use Rattle.std.proofs.Common.{◌≡◌, ℕ, zero, suc, ◌+◌, ◌*◌, ◌^◌, ◌<◌, Some, None, refl, sym, ◌∙◌, subst, Bool, true, false, cond, lt_of_lt_of_le, zero-lt-suc, arith, T, lit<}
use lib.Ieee.{Float, binary32, binary64, fits, le, lt, eq, ne, to_signed}
use lib.Ieee.Fits.{mul-fits}
use lib.Ieee.Scale.{finite}
use Rattle.floats.specs.Operations.{◌⊗◌}
use Rattle.floats.specs.OnBits.{absolute}
use Rattle.floats.specs.Narrowing.{nearest_whole}
use Rattle.floats.proofs.Laws.Tests.{second, differ_no}
use Rattle.double_double.specs.declared.DoubleDouble.{DoubleDouble}
use Rattle.double_double.specs.DoubleDouble.{quick_mult_f64}
use Rattle.special.specs.Special.{one, minus_one}
use Rattle.slow_path.specs.Slow.{compoundf_log2p1_accurate, exp2_accurate, compoundf_accurate}
use Rattle.bounds.proofs.Values.{mag, Number}
use Rattle.bounds.proofs.Scales.{S, unit, at}
use Rattle.bounds.proofs.OwnScale.{Nil, nil_bound, nil_product}
use Rattle.bounds.proofs.Nearest.{sign_below}
use Rattle.filter.specs.Plain.{plain_factor, plain_log2p1, part_of, rest_of, plain_pattern, clear_of_switches}
use Rattle.filter.proofs.Factor.{plain_factor_lem}
use Rattle.filter.proofs.Times.{single}
use Rattle.fast_path.specs.Scaling.{scaled}
use Rattle.slow_filter.specs.Subnormal.{rounded_subnormal}
use Rattle.slow_filter.specs.NearOne.{near_one_found}
use Rattle.slow_filter.specs.PlainSlow.{slow_switch_gap, subnormal_power, kept_from, plain_log, in_reach, next_to_one, plain_slow}
use Rattle.slow_filter.proofs.LogOwn.{LogOwn}
use Rattle.slow_filter.proofs.Accurate.{kept_own, times_beside, times_fine}
use Rattle.slow_filter.proofs.Tiny.{tiny_own}
use Rattle.slow_filter.proofs.Power.{power_of}
use Rattle.slow_filter.proofs.Subnormal.{subnormal}
use Rattle.slow_filter.proofs.NearOne.{near_one}
use Rattle.slow_filter.proofs.Reach.{Reached, in_parts, Next, next_parts, next_bound, next_least, reach_bound, reach_negative, reach_some, reach_apart, reach_whole, reach_k, wide_bounds}

-- where x is 0, the plain logarithm is, and so is t'
nil_log : (x y : Float) → Nil x → Number y → Nil (x ⊗ plain_factor x ⊗ y)
nil_log x y n m = nil_product (nil_product n (plain_factor_lem (at (2 ^ 47 + 2 ^ 34) (nil_bound S unit n) tt)).number) m

module _ (x y : Float) (fx : T (fits binary32 x)) (px : T (finite x)) (hx : T (lt minus_one x)) (fy : T (fits binary32 y)) (py : T (finite y)) where
  abbrev t : DoubleDouble
  t = quick_mult_f64 (compoundf_log2p1_accurate x) y

  abbrev t' : Float
  t' = plain_log x ⊗ y

  held : T (fits binary64 t')
  held = mul-fits binary64 (plain_log x) y

  -- where t' is not 0, the accurate logarithm is beside the plain one
  own : 0 < mag t' → LogOwn (compoundf_log2p1_accurate x) (plain_log x)
  unfolding plain_log
  own = go (le kept_from (absolute x)) refl
    where
      some : (m : ℕ) → (m ≡ 0 → ⊥) → 0 < m
      some zero n = absurd (n refl)
      some (suc m) n = zero-lt-suc m

      none : (m : ℕ) → m ≡ 0 → 0 < m → ⊥
      none m e h = omega arith

      go : (b : Bool) → le kept_from (absolute x) ≡ b → 0 < mag (cond b (plain_log2p1 x) (x ⊗ plain_factor x) ⊗ y) → LogOwn (compoundf_log2p1_accurate x) (cond b (plain_log2p1 x) (x ⊗ plain_factor x))
      go true e h = kept_own x fx px hx (subst T (sym e) tt)
      go false e h = tiny_own x fx px e (some (mag x) (λ m. none (mag (x ⊗ plain_factor x ⊗ y)) (nil_log x y (record { number = (single x fx px).number; is = m }) (single y fy py).number).is h))

  -- y is not 1
  as_power : ne y one ≡ true → exp2_accurate t ≡ compoundf_accurate x y
  unfolding compoundf_accurate
  as_power e = second (eq y one) _ _ (differ_no y one e)

  -- ---- below the normal f32s
  module _ (r : Reached y t') where
    by_power : (v : Float) → clear_of_switches slow_switch_gap (part_of t') (rest_of t') ≡ true → rounded_subnormal (scaled (plain_pattern t') (to_signed 63 (nearest_whole t'))) ≡ Some v → v ≡ compoundf_accurate x y
    by_power v e f =
        let b = reach_bound t' held r.high r.low in
        let s = times_beside (own (reach_some t' held r.high r.low)) (single y fy py) b in
        let w = wide_bounds t' held r.high r.low e in
        let p = power_of true t t' (sign_below t.hi (reach_apart t' held r.high r.low s.near)) (sign_below t' (reach_negative t' held r.high r.low)) s.number s.near s.low b w.0 w.1 (reach_whole t' held r.high r.low) in
        sym (subnormal p.pattern (plain_pattern t') (to_signed 63 (nearest_whole t')) v p.unscaled p.plain p.over p.under (reach_k t' held r.high r.low) f) ∙ sym p.is ∙ as_power r.not_one

    below : (v : Float) → subnormal_power t' ≡ Some v → v ≡ compoundf_accurate x y
    unfolding subnormal_power
    below v e = go (clear_of_switches slow_switch_gap (part_of t') (rest_of t')) refl e
      where
        go : (q : Bool) → clear_of_switches slow_switch_gap (part_of t') (rest_of t') ≡ q → cond q (rounded_subnormal (scaled (plain_pattern t') (to_signed 63 (nearest_whole t')))) None ≡ Some v → v ≡ compoundf_accurate x y
        go true g e = by_power v g e
        go false g e = cc

  -- ---- next to 1
  beside_one : Next y t' → (v : Float) → near_one_found t' ≡ Some v → v ≡ compoundf_accurate x y
  beside_one r v e =
      let b = next_bound t' held r.most in
      let l = next_least t' b.number r.least in
      let s = times_fine (own (lt_of_lt_of_le size_pos l)) (single y fy py) b in
      near_one t t' s.number s.near s.low b v e ∙ as_power r.not_one
    where
      size_pos : 0 < 2 ^ 28 * S
      size_pos = unfold S in lit< tt

  pub settled : (v : Float) → plain_slow x y ≡ Some v → v ≡ compoundf_accurate x y
  unfolding plain_slow
  settled v e = go (in_reach y t') refl (next_to_one y t') refl e
    where
      go : (p : Bool) → in_reach y t' ≡ p → (q : Bool) → next_to_one y t' ≡ q → cond p (subnormal_power t') (cond q (near_one_found t') None) ≡ Some v → v ≡ compoundf_accurate x y
      go true f q g e = below (in_parts y t' f) v e
      go false f true g e = beside_one (next_parts y t' g) v e
      go false f false g e = cc
