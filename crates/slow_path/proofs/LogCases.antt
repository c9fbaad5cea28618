-- Where x is not lost in the sum, the two logarithms of 1 + x are on one scale, or the fast one is 0 (`parted_logs`). The cases are those of `Logs`. Assumes nothing.
use Rattle.std.proofs.Common.{◌≡◌, ℕ, ◌+◌, ◌-◌, ◌*◌, ◌%◌, ◌^◌, ◌<◌, ◌≤◌, ◌⊎◌, ℤ, neg_ℤ, sym, ap, ◌∙◌, subst, ap₂, inl, inr, le_trans, lt_trans, le_refl, mul-le-mul_right, eq-zero-or-pos, mul-le-mul, zero-mul, arith, lit<, lit≤}
use lib.Ieee.{Float, binary64, to_bits, of_int}
use lib.Ieee.Bits.{of_bits-to_bits}
use lib.Ieee.Fits.{add-fits}
use Rattle.floats.specs.Operations.{◌⊕◌, ◌⊗◌, f64}
use Rattle.floats.proofs.Laws.Powers.{mul_one}
use Rattle.double_double.specs.declared.DoubleDouble.{DoubleDouble}
use Rattle.double_double.specs.DoubleDouble.{from_exact_add, dd_fmla}
use Rattle.tables.specs.Tables.{entry, pair_entry, log2p1_compoundf_inv, log2p1_compoundf_log2_inv, log2p1_scale}
use Rattle.tables.proofs.Entries.{scale_rule}
use Rattle.special.specs.Special.{one, minus_one}
use Rattle.fast_path.specs.Scaling.{scaled, biased, exponent_of}
use Rattle.fast_path.specs.Fast.{inverse_index, HasInverse, log2p1, log2p1_polyeval1, compoundf_log2p1_fast}
use Rattle.slow_path.specs.Slow.{one_plus, times_inverse, log2_reduced, log2_poly2, sum_of_logs, compoundf_log2p1_accurate}
use Rattle.fast_path.proofs.Index.{reduced_index}
use Rattle.slow_path.proofs.Scaled.{times_scale}
use Rattle.bounds.proofs.Values.{mag}
use Rattle.bounds.proofs.Scales.{S, unit, unit_left, Bound, Bounds, at, add_bound, mul_bound, fast_bounds}
use Rattle.bounds.proofs.Compared.{Positive, positive_bound}
use Rattle.bounds.proofs.Exactly.{Off, fmla_minus_one}
use Rattle.bounds.proofs.OwnScale.{Nil, nil_sum, nil_product, on_own}
use Rattle.fast_path.proofs.Coefficients.{inverse_log_hi, inverse_log_lo}
use Rattle.fast_path.proofs.InverseSlot.{inverse_slot, inverse_size}
use Rattle.fast_path.proofs.LogSize.{fast_factor, product_size, part_size}
use Rattle.slow_path.proofs.LogSize.{poly_size}
use Rattle.slow_path.proofs.Logs.{Logs, far_whole, far_part, near}
use Rattle.slow_path.proofs.LowPart.{one_is_1, scale_size, Low, low_part, low_bound, one_large}
use Rattle.slow_path.proofs.OnePlusParts.{Parted}
use Rattle.fast_path.proofs.Reduced.{reduced_positive, Power, Alone, exponent_cases, One, inverse_cases}

-- 2 × 2^-53, on the scale of q × 2^-53
two_parts : (q : ℕ) → 0 < q → 2 * S ≤ 2 ^ 54 * (q * 2 ^ 968)
unfolding S
two_parts q h = le_trans (lit≤ tt) (mul-le-mul (le_refl (2 ^ 54)) (mul-le-mul_right (2 ^ 968) h))

-- ---- the two logarithms, by what they share: the exponent e, t and its index i
module _ (x : Float) (v : ℕ) (is_v : v ≡ to_bits binary64 (one ⊕ x)) (low : 999 * 2 ^ 52 ≤ v) (high : v < 1151 * 2 ^ 52) (x_size : Bound S (2 ^ 181) x) (parted : Parted x (one_plus x)) where
  small : v < 2 ^ 63
  small = lt_trans high (lit< tt)

  unfoldable pub e : Float
  e = of_int binary64 (exponent_of v)

  unfoldable pub t : Float
  t = f64 (scaled v (neg_ℤ (exponent_of v)))

  unfoldable pub i : ℕ
  i = inverse_index t

  unfoldable pub r : Float
  r = entry log2p1_compoundf_inv i

  unfoldable pub z : Float
  z = dd_fmla r t minus_one

  unfoldable pub a : DoubleDouble
  a = pair_entry log2p1_compoundf_log2_inv i

  unfoldable pub s : Float
  s = entry log2p1_scale (biased v + 29 - 1023)

  unfoldable pub z' : DoubleDouble
  z' = from_exact_add z (r ⊗ ((one_plus x).lo ⊗ s))

  pub fast_logs : compoundf_log2p1_fast x ≡ e ⊕ (a.hi ⊕ log2p1_polyeval1 z)
  unfolding log2p1 e t i r z a
  fast_logs =
      ap (λ (n : ℕ).
      of_int binary64 (exponent_of n) ⊕ ((pair_entry log2p1_compoundf_log2_inv (inverse_index (f64 (scaled n (neg_ℤ (exponent_of n)))))).hi
      ⊕ log2p1_polyeval1 (dd_fmla (entry log2p1_compoundf_inv (inverse_index (f64 (scaled n (neg_ℤ (exponent_of n)))))) (f64 (scaled n (neg_ℤ (exponent_of n)))) minus_one)))
      (sym is_v)

  sum_is : f64 v ≡ one ⊕ x
  sum_is = ap f64 is_v ∙ of_bits-to_bits binary64 (one ⊕ x) (add-fits binary64 one x)

  reduced : (one ⊕ x) ⊗ s ≡ t
  unfolding s t
  reduced = ap (λ (u : Float). u ⊗ entry log2p1_scale (biased v + 29 - 1023)) (sym sum_is) ∙ (times_scale v low high).1

  pub accurate_logs : compoundf_log2p1_accurate x ≡ sum_of_logs e a (log2_poly2 z')
  unfolding compoundf_log2p1_accurate log2_reduced times_inverse e t i r z a s z'
  accurate_logs =
      ap (λ (h : Float). log2_reduced (of_int binary64 (exponent_of (to_bits binary64 h))) (record { lo = (one_plus x).lo ⊗ entry log2p1_scale (biased (to_bits binary64 h) + 29 - 1023); hi = h ⊗ entry log2p1_scale (biased (to_bits binary64 h) + 29 - 1023) })) parted.hi_is
      ∙ ap (λ (n : ℕ). log2_reduced (of_int binary64 (exponent_of n)) (record { lo = (one_plus x).lo ⊗ entry log2p1_scale (biased n + 29 - 1023); hi = (one ⊕ x) ⊗ entry log2p1_scale (biased n + 29 - 1023) })) (sym is_v)
      ∙ ap (λ (h : Float). log2_reduced (of_int binary64 (exponent_of v)) (record { lo = (one_plus x).lo ⊗ entry log2p1_scale (biased v + 29 - 1023); hi = h })) reduced

  -- ---- sizes
  t_positive : Positive (2 ^ 52) (3 * 2 ^ 52) t
  unfolding t
  t_positive = reduced_positive v small

  has : HasInverse t
  unfolding t
  has = reduced_index v small

  pub inside : i < 46
  unfolding i
  inside = has.1

  pub z_size : Bound S (2 ^ 47 + 2 ^ 33) z
  unfolding z r i
  z_size = inverse_slot t t_positive has

  pub a_size : Bounds S (33 * 2 ^ 47) 1 a
  unfolding a
  a_size = record { hi = inverse_log_hi i inside; lo = inverse_log_lo i inside }

  p_size : Bound S (47 * 2 ^ 42 + 2 ^ 36) (log2p1_polyeval1 z)
  p_size = product_size z_size

  -- the low part, and what the inverse makes of it
  u_size : Bound S (2 ^ 182) (one ⊕ x)
  u_size = at (2 ^ 182) (add_bound (positive_bound one_is_1) x_size tt) tt

  pub s_size : Bound S (2 ^ 82) s
  unfolding s
  s_size = scale_size (biased v + 29 - 1023) (times_scale v low high).0

  pub low_of : (c : ℕ) → 1 ≤ c → 4 * c ≤ 2 ^ 100 → mag (one_plus x).lo * (8 * c) ≤ mag (one ⊕ x) → Low c ((one_plus x).lo ⊗ s)
  low_of c some few h = low_part c (one_plus x).lo (one ⊕ x) s t some (one_large (4 * c) few) parted.lo_number h u_size s_size reduced (positive_bound t_positive).size

  low_size : Bound S (2 ^ 30) ((one_plus x).lo ⊗ s)
  low_size = low_bound (low_of (2 ^ 23) (lit≤ tt) (lit≤ tt) parted.lo_small)

  pub r_size : Bound S (3 * 2 ^ 52) r
  unfolding r
  r_size = inverse_size i inside

  pub z'-size : Bounds S (2 ^ 47 + 2 ^ 36) 4 z'
  unfolding z'
  z'-size =
      let f = fast_bounds z_size (at (2 ^ 31) (mul_bound (unit_left unit) r_size low_size tt tt) tt) tt in
      record { hi = at (2 ^ 47 + 2 ^ 36) f.hi tt; lo = at 4 f.lo tt }

  poly : Bounds S (2 ^ 48 + 2 ^ 38) (2 ^ 6) (log2_poly2 z')
  poly =
      let f = poly_size unit z'-size z'-size tt in
      record { hi = at (2 ^ 48 + 2 ^ 38) f.hi tt; lo = at (2 ^ 6) f.lo tt }

  -- ---- the cases
  joined : Logs (e ⊕ (a.hi ⊕ log2p1_polyeval1 z)) (sum_of_logs e a (log2_poly2 z')) → Logs (compoundf_log2p1_fast x) (compoundf_log2p1_accurate x)
  joined l = subst (λ (k : Float). Logs k (compoundf_log2p1_accurate x)) (sym fast_logs) (subst (Logs (e ⊕ (a.hi ⊕ log2p1_polyeval1 z))) (sym accurate_logs) l)

  whole_case : Power e → Logs (compoundf_log2p1_fast x) (compoundf_log2p1_accurate x)
  whole_case p = joined (far_whole p.size p.least p.most p.number p.is (part_size a_size.hi p_size) a_size poly)

  part_case : Nil e → 35 * 2 ^ 43 * S ≤ mag a.hi → Logs (compoundf_log2p1_fast x) (compoundf_log2p1_accurate x)
  part_case n l = joined (far_part n p_size l a_size poly)

  -- ---- near 1: no power of two is taken out, and the inverse is 1
  module _ (power : Alone v) (alone : One i) where
    pub e_nil : Nil e
    unfolding e
    e_nil = power.nil

    t_is : t ≡ one ⊕ x
    unfolding t scaled
    t_is = ap (λ (k : ℤ). f64 (scaled v (neg_ℤ k))) power.none ∙ ap f64 (same v small) ∙ sum_is
      where
        same : (v : ℕ) → v < 2 ^ 63 → (v + 0 * 2 ^ 52) % 2 ^ 64 ≡ v
        same v h = omega arith

    s_is : s ≡ one
    unfolding s
    s_is = ap (λ (b : ℕ). entry log2p1_scale (b + 29 - 1023)) power.field ∙ scale_rule 29 (lit< tt)

    pub r_is : r ≡ one
    unfolding r
    r_is = alone.inverse

    pub u_positive : Positive (2 ^ 52) (3 * 2 ^ 52) (one ⊕ x)
    u_positive = subst (Positive (2 ^ 52) (3 * 2 ^ 52)) t_is t_positive

    pub off : Off (one ⊕ x) z
    unfolding z
    off = subst (Off (one ⊕ x)) (sym (ap₂ (λ (k l : Float). dd_fmla k l minus_one) r_is t_is)) (fmla_minus_one (one ⊕ x) u_positive)

    pub high_nil : Nil a.hi
    unfolding a
    high_nil = alone.hi

    low_nil : Nil a.lo
    unfolding a
    low_nil = alone.lo

    -- z is 0, and so is the logarithm
    nil_case : Nil z → Nil (compoundf_log2p1_fast x)
    nil_case h = subst Nil (sym fast_logs) (nil_sum e_nil (nil_sum high_nil (nil_product h (fast_factor z_size).number)))

    -- z is not 0: both logarithms are on its scale
    near_case : 0 < off.parts → Logs (compoundf_log2p1_fast x) (compoundf_log2p1_accurate x)
    unfolding z'
    near_case some =
        let q = off.parts in
        let σ = q * 2 ^ 968 in
        let itself = on_own q off.grid some (at (2 ^ 48) z_size tt) in
        let scale = itself.bound.scale in
        let low : Bound σ (2 ^ 54 + 2 ^ 10) ((one_plus x).lo ⊗ s) = subst (Bound σ (2 ^ 54 + 2 ^ 10)) (sym (ap (λ (k : Float). (one_plus x).lo ⊗ k) s_is ∙ mul_one binary64 (one_plus x).lo parted.lo_number.held)) (parted.near_low σ scale (two_parts q some) u_positive) in
        let unity : Bound S (2 ^ 53) r = subst (Bound S (2 ^ 53)) (sym r_is) (positive_bound one_is_1) in
        let f = fast_bounds itself.bound (at (2 ^ 54 + 2 ^ 11) (mul_bound (unit_left scale) unity low tt tt) tt) tt in
        let own : Bounds σ (3 * 2 ^ 53 + 2 ^ 20) 16 z' = record { hi = at (3 * 2 ^ 53 + 2 ^ 20) f.hi tt; lo = at 16 f.lo tt } in
        joined (near itself z_size e_nil high_nil low_nil z'-size own)

    near_cases : Logs (compoundf_log2p1_fast x) (compoundf_log2p1_accurate x) ⊎ Nil (compoundf_log2p1_fast x)
    near_cases = go (eq-zero-or-pos off.parts)
      where
        go : (off.parts ≡ 0) ⊎ (0 < off.parts) → Logs (compoundf_log2p1_fast x) (compoundf_log2p1_accurate x) ⊎ Nil (compoundf_log2p1_fast x)
        go (inl h) = inr (nil_case (record { number = off.number; is = off.grid ∙ ap (λ (k : ℕ). k * S) h ∙ zero-mul S }))
        go (inr h) = inl (near_case h)

  -- all of them
  pub parted_logs : Logs (compoundf_log2p1_fast x) (compoundf_log2p1_accurate x) ⊎ Nil (compoundf_log2p1_fast x)
  unfolding e a
  parted_logs = go (exponent_cases v low high)
    where
      zero_exponent : Alone v → One i ⊎ (35 * 2 ^ 43 * S ≤ mag (pair_entry log2p1_compoundf_log2_inv i).hi) → Logs (compoundf_log2p1_fast x) (compoundf_log2p1_accurate x) ⊎ Nil (compoundf_log2p1_fast x)
      zero_exponent h (inl o) = near_cases h o
      zero_exponent h (inr l) = inl (part_case h.nil l)

      go : Alone v ⊎ Power (of_int binary64 (exponent_of v)) → Logs (compoundf_log2p1_fast x) (compoundf_log2p1_accurate x) ⊎ Nil (compoundf_log2p1_fast x)
      go (inl h) = zero_exponent h (inverse_cases i inside)
      go (inr p) = inl (whole_case p)
