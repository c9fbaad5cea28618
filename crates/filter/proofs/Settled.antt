-- What the filter finds of the plain t' is right of t = l×y as the fast path has it (`plain_right`): at the edges by how near the two are, and between them by the nearness of the two powers. Assumes
-- nothing.
use Rattle.std.proofs.Common.{◌≡◌, ℕ, ◌+◌, ◌-◌, ◌*◌, ◌/◌, ◌%◌, ◌^◌, ◌<◌, ◌≤◌, Bool, true, false, cond, not, ◌&&◌, ltb, ◌⊎◌, T, pos, Option, sym, subst, refl, ap, ◌∙◌, inl, inr, le_trans, le_of_eq, lt_of_lt_of_le, add-zero, mul_assoc, zero-add, arith, lit<, lit≤, ltb-true, Some, None}
use lib.Ieee.Scale.{finite}
use lib.Ieee.{Float, fin, binary32, fits, of_bits, to_signed, le, lt, eq, is_nan}
use Rattle.floats.specs.Operations.{◌⊖◌, ◌⊗◌, f64}
use Rattle.floats.specs.Narrowing.{nearest_whole}
use Rattle.floats.proofs.Laws.Units.{HasSign}
use Rattle.special.specs.Operands.{Tabled}
use Rattle.special.specs.Special as Special
use Rattle.special.proofs.Rule.{finite_number}
use Rattle.fast_path.specs.Scaling.{scaled}
use Rattle.fast_path.specs.Fast.{compoundf_log2p1_fast, exp2_reduced, rounding_test, exp2_fast}
use Rattle.bounds.proofs.Values.{plus, less, mag, one_side, Number}
use Rattle.bounds.proofs.Scales.{S, Bound, at}
use Rattle.bounds.proofs.Distances.{Apart, bound_near}
use Rattle.bounds.proofs.Compared.{le_true, units_of_not_lt}
use Rattle.bounds.proofs.Nearest.{sign_above, sign_below}
use Rattle.filter.specs.declared.Found.{Found}
use Rattle.filter.specs.declared.Found.TheVariants.{Slow, Low, High, One}
use Rattle.filter.specs.Midpoints.{narrowed_pattern}
use Rattle.filter.specs.Plain.{plain_log2p1, part_of, rest_of, plain_pattern, fast_margin, fast_switch_gap, near_midpoint, fast_or, rounded_pattern, clear_of_switches, middle_found, plain_lower_edge, below_normal_from, below_normal_to, low_found, plain_upper_edge, high_found, tiny_found, is_tiny_t, plain_found}
use Rattle.filter.specs.Right.{Inside, Passed, Right}
use Rattle.filter.proofs.Limits.{middle_bound}
use Rattle.filter.proofs.Power.{PowerBeside, power_beside}
use Rattle.filter.proofs.Accepted.{Accepted, accepted}
use Rattle.filter.proofs.Middle.{not_small, whole_within, switch_bounds}
use Rattle.filter.proofs.Logarithm.{log_beside}
use Rattle.filter.proofs.Times.{single, TimesBeside, times_beside}
use Rattle.filter.proofs.Near.{near_right}
use Rattle.filter.proofs.Edges.{not_low, not_high, not_tiny, lower_edge_lem, upper_edge_lem, at_one, below_normals}

-- ---- between the edges: t' from 2^-300 to 124 in size
module _ (t t' : Float) (b : TimesBeside t t') (m : Bound S (124 * 2 ^ 53) t') (some : 2 ^ 774 ≤ mag t') where
  near : Apart S (2 ^ 20) t t'
  near = record { over = omega arith; under = omega arith }

  -- the same sign
  record Signs : Type 0 where
    sign : Bool
    has : HasSign sign t
    plain_has : HasSign sign t'

  signs : Signs
  signs = go (one_side t')
    where
      positive : (n : ℕ) → 2 ^ 774 ≤ n → 0 < n
      positive n h = lt_of_lt_of_le (lit< tt) h

      go : (plus t' ≡ 0) ⊎ (less t' ≡ 0) → Signs
      go (inl e) =
          let k : 0 < less t' = positive (less t') (le_trans some (le_of_eq (ap (λ (n : ℕ). n + less t') e ∙ zero-add (less t')))) in
          record { sign = true; has = sign_below t (omega arith); plain_has = sign_below t' k }
      go (inr e) =
          let k : 0 < plus t' = positive (plus t') (le_trans some (le_of_eq (ap (λ (n : ℕ). plus t' + n) e ∙ add-zero (plus t')))) in
          record { sign = false; has = sign_above t (omega arith); plain_has = sign_above t' k }

  -- t is at no edge
  t_bound : Bound S (125 * 2 ^ 53) t
  t_bound = at (125 * 2 ^ 53) (bound_near b.number near m) tt

  inside : Inside t
  inside = record {
    above = not_low b.number (omega arith);
    below = not_high b.number (omega arith);
    apart = not_tiny t b.number (large (plus t) (less t) (plus t') (less t') (one_side t) (one_side t') some b.over b.under);
  }
    where
      sized : plus t + less t ≤ 125 * (2 ^ 53 * S)
      sized = le_trans t_bound.size (le_of_eq (mul_assoc 125 (2 ^ 53) S))

      half : (x y z : ℕ) → x * 2 ^ 45 ≤ y * 2 ^ 45 + 33 * z → x * 2 ≤ y * 2 + z
      half x y z h = omega arith

      at_half : (p n q k w : ℕ) → (p ≡ 0) ⊎ (n ≡ 0) → (q ≡ 0) ⊎ (k ≡ 0) → 2 * w ≤ q + k → (p + k) * 2 ≤ (n + q) * 2 + (q + k) → (n + q) * 2 ≤ (p + k) * 2 + (q + k) → w ≤ p + n
      at_half p n q k w (inl x) (inl y) h i j = omega arith
      at_half p n q k w (inl x) (inr y) h i j = omega arith
      at_half p n q k w (inr x) (inl y) h i j = omega arith
      at_half p n q k w (inr x) (inr y) h i j = omega arith

      large : (p n q k : ℕ) → (p ≡ 0) ⊎ (n ≡ 0) → (q ≡ 0) ⊎ (k ≡ 0) → 2 ^ 774 ≤ q + k → (p + k) * 2 ^ 45 ≤ (n + q) * 2 ^ 45 + 33 * (q + k) → (n + q) * 2 ^ 45 ≤ (p + k) * 2 ^ 45 + 33 * (q + k) → 2 ^ 773 ≤ p + n
      large p n q k x y h i j = at_half p n q k (2 ^ 773) x y (le_trans (lit≤ tt) h) (half (p + k) (n + q) (q + k) i) (half (n + q) (p + k) (q + k) j)

  -- clear of the switches and of the midpoints
  module _ (clear : clear_of_switches fast_switch_gap (part_of t') (rest_of t') ≡ true) (apart : 2 * fast_margin < (scaled (plain_pattern t') (to_signed 63 (nearest_whole t')) + (0x10000000 + fast_margin)) % 0x20000000) where
    powers : PowerBeside t t'
    powers =
        let o = switch_bounds t' m clear in
        power_beside signs.sign t t' signs.has signs.plain_has b.number near m o.0 o.1

    taken : Accepted (exp2_reduced (part_of t)) (plain_pattern t') (to_signed 63 (nearest_whole t'))
    taken = accepted (exp2_reduced (part_of t)) (plain_pattern t') (to_signed 63 (nearest_whole t')) powers.fast powers.plain powers.over powers.under (whole_within t' m) apart

    passed : Passed (of_bits binary32 ((scaled (plain_pattern t') (to_signed 63 (nearest_whole t')) + 0x10000000) / 0x20000000 - 0x1c0000000)) t
    unfolding exp2_fast part_of
    passed = record {
      inside = inside;
      value = f64 (scaled (exp2_reduced (t ⊖ nearest_whole t)) (to_signed 63 (nearest_whole t')));
      passes = ap (λ (k : Float). rounding_test (f64 (scaled (exp2_reduced (t ⊖ nearest_whole t)) (to_signed 63 k))) (f64 (scaled 0x3d61d00000000000 (to_signed 63 k)))) powers.same_k ∙ taken.passes;
      narrows = taken.narrows;
    }

  middle_right : Right (middle_found t') t
  unfolding middle_found rounded_pattern narrowed_pattern
  middle_right = go (clear_of_switches fast_switch_gap (part_of t') (rest_of t')) refl (ltb (2 * fast_margin) ((scaled (plain_pattern t') (to_signed 63 (nearest_whole t')) + (0x10000000 + fast_margin)) % 0x20000000)) refl
    where
      go : (x : Bool) → clear_of_switches fast_switch_gap (part_of t') (rest_of t') ≡ x → (y : Bool) → ltb (2 * fast_margin) ((scaled (plain_pattern t') (to_signed 63 (nearest_whole t')) + (0x10000000 + fast_margin)) % 0x20000000) ≡ y
          → Right (cond x (fast_or (cond y (Some (of_bits binary32 ((scaled (plain_pattern t') (to_signed 63 (nearest_whole t')) + 0x10000000) / 0x20000000 - 0x1c0000000))) None) (near_midpoint t' (scaled (plain_pattern t') (to_signed 63 (nearest_whole t'))))) None) t
      go true e true f = passed e (ltb-true _ _ f)
      go true e false f = near_right signs.sign t t' signs.has signs.plain_has b inside
      go false e y f = tt

-- ---- all of it
low_right : {t t' : Float} → TimesBeside t t' → Right (low_found t') t
unfolding low_found
low_right {t} {t'} b = go (le t' plain_lower_edge) refl (le t' below_normal_to) refl (le below_normal_from t') refl
  where
    go : (x : Bool) → le t' plain_lower_edge ≡ x → (y : Bool) → le t' below_normal_to ≡ y → (z : Bool) → le below_normal_from t' ≡ z → Right (cond x (Some Low) (cond (y && z) (Some Slow) None)) t
    go true e y f z g = lower_edge_lem b e
    go false e true f true g = below_normals b f g
    go false e true f false g = tt
    go false e false f z g = tt

high_right : {t t' : Float} → TimesBeside t t' → Right (high_found t') t
unfolding high_found
high_right {t} {t'} b = go (le plain_upper_edge t') refl
  where
    go : (x : Bool) → le plain_upper_edge t' ≡ x → Right (cond x (Some High) None) t
    go true e = upper_edge_lem b e
    go false e = tt

tiny_right : {t t' : Float} → TimesBeside t t' → Right (tiny_found t') t
unfolding tiny_found
tiny_right {t} {t'} b = go (eq t' Special.zero) refl
  where
    go : (x : Bool) → eq t' Special.zero ≡ x → Right (cond x (Some One) None) t
    go true e = at_one b e
    go false e = tt

pub plain_right : {t t' : Float} → TimesBeside t t' → Right (plain_found t') t
unfolding plain_found
plain_right {t} {t'} b = go (lt t' (fin true 31 (pos 2))) refl (lt (fin false 31 (pos 2)) t') refl (is_tiny_t t') refl
  where
    low : Number (fin true 31 (pos 2))
    low = unfold fits in record { held = tt; plain = tt }

    high : Number (fin false 31 (pos 2))
    high = unfold fits in record { held = tt; plain = tt }

    go : (x : Bool) → lt t' (fin true 31 (pos 2)) ≡ x → (y : Bool) → lt (fin false 31 (pos 2)) t' ≡ y → (z : Bool) → is_tiny_t t' ≡ z
        → Right (cond x (low_found t') (cond y (high_found t') (cond z (tiny_found t') (middle_found t')))) t
    go true e y f z g = low_right b
    go false e true f z g = high_right b
    go false e false f true g = tiny_right b
    go false e false f false g =
        middle_right t t' b (middle_bound b.beside (le_true low b.beside (units_of_not_lt b.beside low e)) (le_true b.beside high (units_of_not_lt high b.beside f))) (not_small b.beside g)

-- ---- what proves `filtered`
pub beside : (x y : Float) → Tabled x y → TimesBeside (compoundf_log2p1_fast x ⊗ y) (plain_log2p1 x ⊗ y)
beside x y a = times_beside (log_beside x a.base.x_fits a.base.x_finite a.base.x_above) (single y a.y_fits a.y_finite)

-- t = l×y is no NaN
pub t_number : (x y : Float) → Tabled x y → T (not (is_nan (compoundf_log2p1_fast x ⊗ y)))
t_number x y a = finite_number _ (beside x y a).number.plain

pub finite_product : (x y : Float) → Tabled x y → T (finite (plain_log2p1 x ⊗ y))
finite_product x y a = (beside x y a).beside.plain

pub right : (x y : Float) (r : Option Found) → Tabled x y → r ≡ plain_found (plain_log2p1 x ⊗ y) → Right r (compoundf_log2p1_fast x ⊗ y)
right x y r a e = subst (λ (f : Option Found). Right f (compoundf_log2p1_fast x ⊗ y)) (sym e) (plain_right (beside x y a))

pub ruleset filtered = (finite_product, right)
