-- The plain power of two beside the fast path's, for a t and a t' at most 2^-33 from each other, where t' is clear of the switches of k and of the index: both take the same k, and
-- their patterns are 2^20 from each other at most (`power_beside`). Assumes nothing.
use Rattle.std.proofs.Common.{◌≡◌, ℕ, ◌+◌, ◌-◌, ◌*◌, ◌^◌, ◌<◌, ◌≤◌, Bool, true, false, T, negsuc, sym, refl, ap, ◌∙◌, subst}
use lib.Ieee.{Float, fin, binary64, fits, to_bits}
use lib.Ieee.Fits.{sub-fits}
use Rattle.floats.specs.Operations.{◌⊖◌, ◌⊗◌}
use Rattle.floats.specs.Narrowing.{nearest_whole}
use Rattle.floats.proofs.Laws.Sums.{whole_distance}
use Rattle.floats.proofs.Laws.Units.{HasSign}
use Rattle.tables.specs.Tables.{entry, pair_entry, compoundf_exp2_t, compoundf_exp2_u}
use Rattle.fast_path.specs.Fast.{power_index, compoundf_expf_poly, exp2_reduced}
use Rattle.bounds.proofs.Values.{Number}
use Rattle.bounds.proofs.Scales.{S, unit, unit_left, Bound, at, sub_bound, mul_bound, tested}
use Rattle.bounds.proofs.Distances.{Apart, apart_at, bound_near}
use Rattle.bounds.proofs.Apart.{apart_same, apart_turned, differences_apart, product_apart}
use Rattle.bounds.proofs.Compared.{Positive, positive_at, positive_bound, positive_near, positive_mul, bits_around_one, bits_apart}
use Rattle.bounds.proofs.Nearest.{whole_bound}
use Rattle.fast_path.proofs.Index.{between_finite}
use Rattle.fast_path.proofs.Coefficients.{power_hi, exponent_size}
use Rattle.fast_path.proofs.PowerSlot.{power_slot}
use Rattle.filter.specs.Plain.{plain_expf_poly, part_of, rest_of, plain_pattern}
use Rattle.filter.proofs.Limits.{between_bound}
use Rattle.filter.proofs.Switches.{same_whole, index_inside, same_index}
use Rattle.filter.proofs.Polynomial.{fast_poly, PolyBeside, poly_beside}

-- a pattern from 1/2 to 2
pub record Unscaled (b : ℕ) : Type 0 where
  pub low : 1022 * 2 ^ 52 ≤ b
  pub high : b < 1024 * 2 ^ 52

pub record PowerBeside (t t' : Float) : Type 0 where
  pub same_k : nearest_whole t ≡ nearest_whole t'
  pub fast : Unscaled (exp2_reduced (part_of t))
  pub plain : Unscaled (plain_pattern t')
  pub over : exp2_reduced (part_of t) ≤ plain_pattern t' + 2 ^ 20
  pub under : plain_pattern t' ≤ exp2_reduced (part_of t) + 2 ^ 20

pub unscaled : {x : Float} → Positive (2 ^ 52) (2 ^ 54 - 1) x → Unscaled (to_bits binary64 x)
unscaled p = record { low = (bits_around_one p).0; high = (bits_around_one p).1 }

-- ---- the fast path's own, wherever t is
-- what is left of t over k is a half at most
pub part_half : (t : Float) → Number t → Bound S (2 ^ 52) (t ⊖ nearest_whole t)
part_half t n =
    let w = whole_distance t n.held n.plain in
    between_bound (2 ^ 52) below above (record { held = sub-fits binary64 t (nearest_whole t); plain = between_finite (fin true 1 (negsuc 0)) (t ⊖ nearest_whole t) (fin false 1 (negsuc 0)) tt tt w.0 w.1 }) (true_of _ w.0) (true_of _ w.1)
  where
    below : Bound S (2 ^ 52) (fin true 1 (negsuc 0))
    below = unfold fits in tested (2 ^ 52) (fin true 1 (negsuc 0)) tt

    above : Bound S (2 ^ 52) (fin false 1 (negsuc 0))
    above = unfold fits in tested (2 ^ 52) (fin false 1 (negsuc 0)) tt

    true_of : (v : Bool) → T v → v ≡ true
    true_of true h = refl
    true_of false h = elim h [ ]

pub fast_unscaled : (t : Float) → Bound S (150 * 2 ^ 53) t → Unscaled (exp2_reduced (part_of t))
unfolding exp2_reduced part_of
fast_unscaled t b =
    let slot = power_slot (t ⊖ nearest_whole t) (at (65 * 2 ^ 46) (part_half t b.number) tt) in
    unscaled (positive_at (2 ^ 52) (2 ^ 54 - 1) (positive_mul (2 ^ 52) (power_hi (power_index (t ⊖ nearest_whole t)) slot.inside) (fast_poly slot.rest) tt tt tt) tt tt)

-- ---- both
-- t and t' have the sign s: a nearest whole value that is 0 has the sign of what it is nearest to
module _ (s : Bool) (t t' : Float) (sign : HasSign s t) (sign' : HasSign s t') (n : Number t) (a : Apart S (2 ^ 20) t t') (b : Bound S (124 * 2 ^ 53) t') (p : Bound S (2 ^ 52 - 2 ^ 23) (part_of t')) (r : Bound S (2 ^ 47 - 2 ^ 23) (rest_of t')) where
  -- ---- the same k
  k : Float
  k = nearest_whole t'

  k_bound : Bound S (124 * 2 ^ 53) k
  unfolding k
  k_bound = whole_bound 124 b

  t_bound : Bound S (125 * 2 ^ 53) t
  t_bound = at (125 * 2 ^ 53) (bound_near n a b) tt

  same_k : nearest_whole t ≡ nearest_whole t'
  same_k = same_whole 124 s t t' sign sign' n a b p tt tt

  -- ---- the same index
  parts_near : Apart S (2 ^ 20 + 500) (t ⊖ k) (part_of t')
  unfolding k part_of
  parts_near = apart_at (2 ^ 20 + 500) (differences_apart a t_bound b k_bound tt tt) tt

  fast_part : Bound S (65 * 2 ^ 46) (t ⊖ k)
  fast_part = at (65 * 2 ^ 46) (bound_near (sub_bound t_bound k_bound tt).number parts_near p) tt

  i : ℕ
  i = power_index (part_of t')

  inside : i < 33
  unfolding i
  inside = index_inside t' p tt

  index_shared : power_index (t ⊖ k) ≡ i
  unfolding i
  index_shared = same_index (t ⊖ k) t' fast_part parts_near p r tt tt tt

  e : Float
  e = entry compoundf_exp2_t i

  e_bound : Bound S (2 ^ 52) e
  unfolding e
  e_bound = exponent_size i inside

  -- ---- the polynomials at what is left, and the products
  rests_near : Apart S (2 ^ 20 + 512) (t ⊖ k ⊖ e) (rest_of t')
  unfolding e i rest_of
  rests_near = apart_at (2 ^ 20 + 512) (differences_apart parts_near fast_part p e_bound tt tt) tt

  u : Float
  u = (pair_entry compoundf_exp2_u i).hi

  u_bound : Positive (5 * 2 ^ 50) (92682 * 2 ^ 37) u
  unfolding u
  u_bound = power_hi i inside

  polynomials : PolyBeside (compoundf_expf_poly (t ⊖ k ⊖ e)) (plain_expf_poly (rest_of t'))
  polynomials = poly_beside (at (2 ^ 47) (bound_near (sub_bound fast_part e_bound tt).number rests_near r) tt) (at (2 ^ 47) r tt) rests_near

  fast_power : Float
  fast_power = u ⊗ compoundf_expf_poly (t ⊖ k ⊖ e)

  plain_power : Float
  plain_power = u ⊗ plain_expf_poly (rest_of t')

  powers_near : Apart S (2 ^ 20) fast_power plain_power
  unfolding fast_power plain_power
  powers_near = apart_at (2 ^ 20) (product_apart (unit_left unit) (apart_same u) polynomials.near (positive_bound u_bound) (positive_bound polynomials.fast) (positive_bound u_bound) polynomials.plain tt) tt

  fast_positive : Positive (2 ^ 52 + 2 ^ 20) (2 ^ 54 - 2 ^ 21) fast_power
  unfolding fast_power
  fast_positive = positive_at (2 ^ 52 + 2 ^ 20) (2 ^ 54 - 2 ^ 21) (positive_mul (2 ^ 52 + 2 ^ 20) u_bound polynomials.fast tt tt tt) tt tt

  fast_is : Positive (2 ^ 52) (2 ^ 54 - 1) fast_power
  fast_is = positive_at (2 ^ 52) (2 ^ 54 - 1) fast_positive tt tt

  plain_is : Positive (2 ^ 52) (2 ^ 54 - 1) plain_power
  unfolding plain_power
  plain_is = positive_at (2 ^ 52) (2 ^ 54 - 1) (positive_near (mul_bound (unit_left unit) (positive_bound u_bound) polynomials.plain tt tt).number (apart_turned powers_near) fast_positive tt) tt tt

  -- ---- the patterns
  fast_pattern : to_bits binary64 fast_power ≡ exp2_reduced (part_of t)
  unfolding fast_power u e k part_of exp2_reduced
  fast_pattern =
      ap (λ (j : ℕ). to_bits binary64 ((pair_entry compoundf_exp2_u j).hi ⊗ compoundf_expf_poly (t ⊖ nearest_whole t' ⊖ entry compoundf_exp2_t j))) (sym index_shared) ∙ ap (λ (w : Float). exp2_reduced (t ⊖ w)) (sym same_k)

  plain_pattern_lem : to_bits binary64 plain_power ≡ plain_pattern t'
  unfolding plain_power u i plain_pattern
  plain_pattern_lem = refl

  pub power_beside : PowerBeside t t'
  power_beside = record {
    same_k = same_k;
    fast = subst Unscaled fast_pattern (unscaled fast_is);
    plain = subst Unscaled plain_pattern_lem (unscaled plain_is);
    over = subst (λ (m : ℕ). m ≤ plain_pattern t' + 2 ^ 20) fast_pattern (subst (λ (m : ℕ). to_bits binary64 fast_power ≤ m + 2 ^ 20) plain_pattern_lem (bits_apart fast_is plain_is powers_near));
    under = subst (λ (m : ℕ). m ≤ exp2_reduced (part_of t) + 2 ^ 20) plain_pattern_lem (subst (λ (m : ℕ). to_bits binary64 plain_power ≤ m + 2 ^ 20) fast_pattern (bits_apart plain_is fast_is (apart_turned powers_near)));
  }
