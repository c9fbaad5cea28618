-- The accurate logarithm beside x times the plain factor, for an x other than 0 below 2^-29 in size (`tiny_own`): no power of two is taken out of 1 + x, the inverse is 1, and z is x but for a
-- few roundings of it, whether 1 + x is one sum or, below 2^-53, 1 and x (`parts_of`). All is on the scale of that product, k, where 2^53 is |k|, but for less than 1.
-- Assumes nothing.
use Rattle.std.proofs.Common.{◌≡◌, ℕ, zero, suc, ◌+◌, ◌-◌, ◌*◌, ◌/◌, ◌%◌, ◌^◌, ◌<◌, ◌≤◌, refl, sym, ap, ap₂, ◌∙◌, subst, ◌⊎◌, inl, inr, Bool, true, false, not, cond, zero-le, le_refl, le_trans, le_of_eq, le_of_lt, lt_of_lt_of_le, le_of_mul-le-mul_right, mul_assoc, mul-le-mul, mul-le-mul_right, le-add_right, not-le_of_lt, arith, T, leb, leb→le, lit≤, lit<, ℤ, negsuc}
use lib.Dec.{nleb→lt}
use lib.Ieee.{Float, fin, binary32, binary64, minus, neg, add, sub, le, fits, to_bits, of_bits, of_int}
use lib.Ieee.Fits.{add-fits}
use lib.Ieee.Scale.{finite}
use Rattle.floats.specs.Operations.{◌⊕◌, ◌⊖◌, ◌⊗◌}
use Rattle.floats.specs.Narrowing.{narrowed}
use Rattle.floats.specs.OnBits.{absolute}
use Rattle.floats.proofs.Laws.Narrow.{narrowed_same}
use Rattle.floats.proofs.Laws.Powers.{mul_one}
use Rattle.floats.proofs.Laws.Sums.{add_mono, add_mono_left}
use Rattle.double_double.specs.declared.DoubleDouble.{DoubleDouble}
use Rattle.double_double.specs.DoubleDouble.{from_exact_add, dd_fmla}
use Rattle.tables.specs.Tables.{entry, pair_entry, log2p1_compoundf_log2_inv, log2p1_scale}
use Rattle.tables.proofs.Entries.{scale_rule}
use Rattle.special.specs.Special.{one, minus_one}
use Rattle.fast_path.specs.Scaling.{biased, exponent_of}
use Rattle.fast_path.specs.Fast.{inverse_index}
use Rattle.fast_path.proofs.Index.{pattern_between}
use Rattle.fast_path.proofs.LogSize.{factor, fast_factor}
use Rattle.fast_path.proofs.Reduced.{Alone, no_power, One, one_18, one_19}
use Rattle.slow_path.specs.Slow.{one_plus, times_inverse, log2_reduced, log2_poly2, sum_of_logs, compoundf_log2p1_accurate}
use Rattle.slow_path.proofs.LogSize.{poly_size, logs_size}
use Rattle.slow_path.proofs.LowPart.{one_is_1, one_mag}
use Rattle.slow_path.proofs.OnePlusParts.{size_least, size_below}
use Rattle.bounds.proofs.Values.{per_one, plus, less, mag, one_side, Number, neg_plus, neg_less}
use Rattle.bounds.proofs.Operation.{Small, Same, mul_near}
use Rattle.bounds.proofs.Scales.{S, S_pos, one_is, unit, unit_left, Scale, Bound, Bounds, at, onto, neg_bound, sub_bound, mul_bound, mul_limit, fast_bounds}
use Rattle.bounds.proofs.Distances.{Apart, apart_at, apart_through, sum_off, add_apart_right, not_more, bound_near}
use Rattle.bounds.proofs.Compared.{Positive, positive_at, positive_bound, positive_near, positive_add, le_of_units, le_true}
use Rattle.bounds.proofs.Exactly.{Off, minus_one_lem, fmla_minus_one, one_times}
use Rattle.bounds.proofs.OwnScale.{Nil, nil_bound, nil_sum}
use Rattle.bounds.proofs.Apart.{apart_same, apart_turned, product_apart}
use Rattle.filter.specs.Plain.{plain_factor}
use Rattle.filter.proofs.Factor.{plain_factor_lem, factor_beside}
use Rattle.filter.proofs.Times.{single}
use Rattle.slow_filter.specs.PlainSlow.{kept_from}
use Rattle.slow_filter.proofs.SlowFactor.{slow_is, slow_size, slow_beside, mul_turned}
use Rattle.slow_filter.proofs.LogOwn.{LogOwn, own_bound}
use Rattle.slow_filter.proofs.LowPart.{tiny}
use Rattle.slow_filter.proofs.Fine.{onto_apart}

-- ---- the numbers that are tested
kept_is : Number kept_from × (plus kept_from ≤ 2 ^ 24 * S) × (less kept_from ≡ 0)
unfolding fits S
kept_is = (record { held = tt; plain = tt }, lit≤ tt, refl)

tiny_is : Number tiny × (plus tiny ≡ S) × (less tiny ≡ 0)
unfolding fits S
tiny_is = (record { held = tt; plain = tt }, refl, refl)

-- 1 - 2^-29 and 1 + 2^-29
abbrev before : Float
before = fin false 536870911 (negsuc 28)

abbrev after : Float
after = fin false 536870913 (negsuc 28)

-- ---- a u between them: no power of two is taken out, and the inverse is 1
bits_of : (u : Float) → T (fits binary64 u) → T (le before u) → T (le u after) → (0x3fefffffff000000 ≤ to_bits binary64 u) × (to_bits binary64 u ≤ 0x3ff0000000800000)
unfolding fits to_bits
bits_of u f l h = pattern_between 536870910 (negsuc 28) u 536870913 (negsuc 28) tt f tt l h

field_of : (v : ℕ) → 0x3fefffffff000000 ≤ v → v ≤ 0x3ff0000000800000 → biased v ≡ 1023
unfolding biased
field_of v l h = go (leb 0x6a09e667f3bcd (v % 2 ^ 52)) (leb→le 0x6a09e667f3bcd (v % 2 ^ 52)) (nleb→lt 0x6a09e667f3bcd (v % 2 ^ 52))
  where
    more : 0x6a09e667f3bcd ≤ v % 2 ^ 52 → v / 2 ^ 52 + 1 ≡ 1023
    more g = omega arith

    less : v % 2 ^ 52 < 0x6a09e667f3bcd → v / 2 ^ 52 + 0 ≡ 1023
    less g = omega arith

    go : (c : Bool) → (T c → 0x6a09e667f3bcd ≤ v % 2 ^ 52) → (T (not c) → v % 2 ^ 52 < 0x6a09e667f3bcd) → v / 2 ^ 52 + cond c 1 0 ≡ 1023
    go true y n = more (y tt)
    go false y n = less (n tt)

alone_of : (v : ℕ) → biased v ≡ 1023 → Alone v
unfolding exponent_of
alone_of v h =
    let none = ap (λ (b : ℕ). minus b 0x3ff) h in
    record { none = none; field = h; nil = subst (λ (k : ℤ). Nil (of_int binary64 k)) (sym none) no_power }

index_of : (u : Float) → T (finite u) → T (le before u) → T (le u after) → One (inverse_index u)
unfolding inverse_index of_bits add fits to_bits
index_of u p l h =
    let two = of_bits binary64 0x4000000000000000 in
    let b = pattern_between 1610612734 (negsuc 28) (add binary64 u two) 1610612737 (negsuc 28) tt (add-fits binary64 u two) tt (add_mono_left binary64 two before u tt tt p l) (add_mono_left binary64 two u after tt p tt h) in
    go (to_bits binary64 (add binary64 u two)) b.0 b.1
  where
    one_of_two : (v : ℕ) → 0x4007ffffffc00000 ≤ v → v ≤ 0x4008000000400000 → (v / 2 ^ 45 - 0x2002d ≡ 18) ⊎ (v / 2 ^ 45 - 0x2002d ≡ 19)
    one_of_two v g k = pick (v / 2 ^ 45 - 0x2003f) refl
      where
        pick : (d : ℕ) → v / 2 ^ 45 - 0x2003f ≡ d → (v / 2 ^ 45 - 0x2002d ≡ 18) ⊎ (v / 2 ^ 45 - 0x2002d ≡ 19)
        pick zero e = inl (omega arith)
        pick (suc d) e = inr (omega arith)

    go : (v : ℕ) → 0x4007ffffffc00000 ≤ v → v ≤ 0x4008000000400000 → One (v / 2 ^ 45 - 0x2002d)
    go v g k = which (one_of_two v g k)
      where
        which : (v / 2 ^ 45 - 0x2002d ≡ 18) ⊎ (v / 2 ^ 45 - 0x2002d ≡ 19) → One (v / 2 ^ 45 - 0x2002d)
        which (inl e) = subst One (sym e) one_18
        which (inr e) = subst One (sym e) one_19

-- ---- x and k on the scales of 1 and of k
-- k is 5/4 of x at least
from_below : (m x F s : ℕ) → 0 < s → 2 ^ 60 ≤ x → 90 * 2 ^ 47 * s ≤ F → x * F * 2 ^ 53 ≤ m * (s * 2 ^ 53) * 2 ^ 53 + x * F + s * 2 ^ 53 * 2 ^ 52 → 5 * x ≤ 4 * m
from_below m x F s s0 x0 l h = third m x x0 (le_of_mul-le-mul_right (second (x * F) m x s (first x F s l) (alone (x * F) m s h)) s0)
  where
    alone : (w m s : ℕ) → w * 2 ^ 53 ≤ m * (s * 2 ^ 53) * 2 ^ 53 + w + s * 2 ^ 53 * 2 ^ 52 → w * (2 ^ 53 - 1) ≤ m * s * 2 ^ 106 + s * 2 ^ 105
    alone w m s h = omega arith

    first : (x F s : ℕ) → 90 * 2 ^ 47 * s ≤ F → x * s * (90 * 2 ^ 47) ≤ x * F
    first x F s l = le_trans (le_of_eq (around x s)) (mul-le-mul (le_refl x) l)
      where
        around : (x s : ℕ) → x * s * (90 * 2 ^ 47) ≡ x * (90 * 2 ^ 47 * s)
        around x s = omega arith

    second : (w m x s : ℕ) → x * s * (90 * 2 ^ 47) ≤ w → w * (2 ^ 53 - 1) ≤ m * s * 2 ^ 106 + s * 2 ^ 105 → x * (90 * 2 ^ 47 * (2 ^ 53 - 1)) * s ≤ (m * 2 ^ 106 + 2 ^ 105) * s
    second w m x s g h = le_trans (le_of_eq (left x s)) (le_trans (mul-le-mul_right (2 ^ 53 - 1) g) (le_trans h (le_of_eq (right m s))))
      where
        left : (x s : ℕ) → x * (90 * 2 ^ 47 * (2 ^ 53 - 1)) * s ≡ x * s * (90 * 2 ^ 47) * (2 ^ 53 - 1)
        left x s = omega arith

        right : (m s : ℕ) → m * s * 2 ^ 106 + s * 2 ^ 105 ≡ (m * 2 ^ 106 + 2 ^ 105) * s
        right m s = omega arith

    third : (m x : ℕ) → 2 ^ 60 ≤ x → x * (90 * 2 ^ 47 * (2 ^ 53 - 1)) ≤ m * 2 ^ 106 + 2 ^ 105 → 5 * x ≤ 4 * m
    third m x x0 h = shorter m x x0 (cut (x * (90 * (2 ^ 53 - 1))) (m * 2 ^ 59 + 2 ^ 58) (le_trans (le_of_eq (left x)) (le_trans h (le_of_eq (right m)))))
      where
        left : (x : ℕ) → x * (90 * (2 ^ 53 - 1)) * 2 ^ 47 ≡ x * (90 * 2 ^ 47 * (2 ^ 53 - 1))
        left x = omega arith

        right : (m : ℕ) → m * 2 ^ 106 + 2 ^ 105 ≡ (m * 2 ^ 59 + 2 ^ 58) * 2 ^ 47
        right m = omega arith

        cut : (a b : ℕ) → a * 2 ^ 47 ≤ b * 2 ^ 47 → a ≤ b
        cut a b h = omega arith

        shorter : (m x : ℕ) → 2 ^ 60 ≤ x → x * (90 * (2 ^ 53 - 1)) ≤ m * 2 ^ 59 + 2 ^ 58 → 5 * x ≤ 4 * m
        shorter m x x0 h = omega arith

module _ (x : Float) (f : T (fits binary32 x)) (p : T (finite x)) (small : le kept_from (absolute x) ≡ false) (some : 0 < mag x) where
  number : Number x
  number = (single x f p).number

  large : 2 ^ 925 ≤ mag x
  large = go (single x f p).some
    where
      go : (mag x ≡ 0) ⊎ (2 ^ 925 ≤ mag x) → 2 ^ 925 ≤ mag x
      go (inl e) = absurd (not-le_of_lt some (le_of_eq e))
      go (inr h) = h

  below : mag x < 2 ^ 24 * S
  below = lt_of_lt_of_le (size_below kept_from x kept_is.0 kept_is.2 number small) kept_is.1

  on_one : Bound S (2 ^ 24) x
  on_one = record { scale = unit; number = number; size = le_of_lt below }

  -- the factor, and k
  abbrev F : Float
  F = plain_factor x

  abbrev k : Float
  k = x ⊗ F

  factors : Apart S 120 (factor x) F
  factors = factor_beside (apart_at 40 (apart_same x) tt) (at (2 ^ 47 + 2 ^ 33) on_one tt) (at (2 ^ 47 + 2 ^ 34) on_one tt)

  F_size : Bound S (47 * 2 ^ 48) F
  F_size = plain_factor_lem (at (2 ^ 47 + 2 ^ 34) on_one tt)

  F_positive : Positive (90 * 2 ^ 47) (48 * 2 ^ 48) F
  F_positive = positive_at (90 * 2 ^ 47) (48 * 2 ^ 48) (positive_near F_size.number (apart_turned factors) (fast_factor (at (2 ^ 47 + 2 ^ 33) on_one tt)) tt) tt tt

  k_size : Bound S (2 ^ 25) k
  k_size = at (2 ^ 25) (mul_bound (unit_left unit) on_one F_size tt tt) tt

  k_least : 5 * mag x ≤ 4 * mag k
  k_least =
      let m = mul_near number F_size.number (mul_limit (unit_left unit) on_one F_size tt tt) in
      from_below (mag k) (mag x) (mag F) S S_pos (le_trans (lit≤ tt) large) (le_trans F_positive.least (le-add_right (plus F) (less F)))
      (subst (λ (w : ℕ). mag x * mag F * 2 ^ 53 ≤ mag k * w * 2 ^ 53 + mag x * mag F + w * 2 ^ 52) one_is m.least)

  k_large : 2 ^ 110 ≤ mag k
  k_large = go (mag x) (mag k) (le_trans (lit≤ tt) large) k_least
    where
      go : (x k : ℕ) → 2 ^ 111 ≤ x → 5 * x ≤ 4 * k → 2 ^ 110 ≤ k
      go x k g h = omega arith

  κ : ℕ
  κ = mag k / 2 ^ 53

  -- a 2^28th of the scale of 1 at most
  κ_small : 2 ^ 28 * κ ≤ S
  unfolding κ
  κ_small = go (mag k) S k_size.size
    where
      go : (k s : ℕ) → k ≤ 2 ^ 25 * s → 2 ^ 28 * (k / 2 ^ 53) ≤ s
      go k s h = omega arith

  scale : Scale κ
  unfolding κ S
  scale = record { positive = not_none (mag k) k_large; bounded = le_trans (less_than (mag k)) (le_trans k_size.size (lit≤ tt)) }
    where
      not_none : (m : ℕ) → 2 ^ 110 ≤ m → 0 < m / 2 ^ 53
      not_none m h = omega arith

      less_than : (m : ℕ) → m / 2 ^ 53 ≤ m
      less_than m = omega arith

  k_own : Bound κ (2 ^ 53 + 1) k
  unfolding κ
  k_own = own_bound k k_large k_size.number scale

  x_own : Bound κ (2 ^ 53) x
  unfolding κ
  x_own = record { scale = scale; number = number; size = under (mag x) (mag k) (le_trans (lit≤ tt) large) k_least }
    where
      under : (x k : ℕ) → 2 ^ 60 ≤ x → 5 * x ≤ 4 * k → x ≤ 2 ^ 53 * (k / 2 ^ 53)
      under x k g h = omega arith

  -- from the scale of k to that of 1
  wider : (K M : ℕ) → T (leb K (M * 2 ^ 28)) → K * κ ≤ M * S
  wider K M t = le_trans (mul-le-mul_right κ (leb→le K (M * 2 ^ 28) t)) (le_trans (le_of_eq (mul_assoc M (2 ^ 28) κ)) (mul-le-mul (le_refl M) κ_small))

  bound_wider : {K : ℕ} {z : Float} (M : ℕ) → Bound κ K z → T (leb K (M * 2 ^ 28)) → Bound S M z
  bound_wider {K} M b t = onto S M unit b (wider K M t)

  apart_wider : {K : ℕ} {z w : Float} (M : ℕ) → Apart κ K z w → T (leb K (M * 2 ^ 28)) → Apart S M z w
  apart_wider {K} M a t = onto_apart a (wider K M t)

  -- ---- the two parts of 1 + x: with z for hi - 1, z + lo is x but for 5 on the scale of k
  record Parts (v : DoubleDouble) : Type 0 where
    positive : Positive (2 ^ 52) (3 * 2 ^ 52) v.hi
    from : T (le before v.hi)
    to : T (le v.hi after)
    low : Bound κ (2 ^ 55 + 5) v.lo
    off : (z : Float) → Off v.hi z → Bound κ (3 * 2 ^ 53) z
    sum : (z : Float) → Off v.hi z → Small (plus z + plus v.lo + less x) (less z + less v.lo + plus x) (5 * κ)

  -- from 2^-53 on: the sum, and what is lost in it
  abbrev u : Float
  u = one ⊕ x

  u_positive : Positive (2 ^ 52) (3 * 2 ^ 52) u
  u_positive = positive_at (2 ^ 52) (3 * 2 ^ 52) (positive_add one_is_1 on_one tt tt) tt tt

  u_from : T (le before u)
  unfolding add neg fits S
  u_from = add_mono binary64 one (neg kept_from) x tt tt number.plain (le_of_units (neg kept_from) x (record { held = tt; plain = tt }) number (go (plus x) (less x) (2 ^ 1045) (le_of_lt below)))
    where
      go : (p n s : ℕ) → p + n ≤ s → 0 + n ≤ p + s
      go p n s h = omega arith

  u_to : T (le u after)
  unfolding add fits S
  u_to = add_mono binary64 one x kept_from tt number.plain tt (le_of_units x kept_from number (record { held = tt; plain = tt }) (go (plus x) (less x) (2 ^ 1045) (le_of_lt below)))
    where
      go : (p n s : ℕ) → p + n ≤ s → p + 0 ≤ s + n
      go p n s h = omega arith

  -- hi - 1 is x but for the sum's rounding
  off_x : (z : Float) → Off u z → Apart S 2 z x
  off_x z o =
      let s : Small (plus u + (less one + less x)) (less u + (plus one + plus x)) (2 * S) = sum_off (positive_bound one_is_1) on_one tt in
      record {
        over = above (plus x) (less x) (plus u) (less u) (plus one) (less one) (plus z) (less z) S per_one one_is one_mag one_is_1.clear u_positive.clear o.is s.upper;
        under = under (plus x) (less x) (plus u) (less u) (plus one) (less one) (plus z) (less z) S per_one one_is one_mag one_is_1.clear u_positive.clear o.is s.lower;
      }
    where
      above : (px nx pu nu po mo pz nz s W : ℕ) → W ≡ s * 2 ^ 53 → po + mo ≡ W → mo ≡ 0 → nu ≡ 0 → pz + 2 ^ 53 * s ≡ nz + pu → pu + (mo + nx) ≤ nu + (po + px) + 2 * s → pz + nx ≤ nz + px + 2 * s
      above px nx pu nu po mo pz nz s W w o n u d g = omega arith

      under : (px nx pu nu po mo pz nz s W : ℕ) → W ≡ s * 2 ^ 53 → po + mo ≡ W → mo ≡ 0 → nu ≡ 0 → pz + 2 ^ 53 * s ≡ nz + pu → nu + (po + px) ≤ pu + (mo + nx) + 2 * s → px + nz ≤ nx + pz + 2 * s
      under px nx pu nu po mo pz nz s W w o n u d g = omega arith

  module _ (above : S ≤ mag x) where
    off_size : (z : Float) → Off u z → Bound κ (3 * 2 ^ 53) z
    off_size z o = record { scale = scale; number = o.number; size = go (mag z) (mag x) S κ (not_more (off_x z o)) above x_own.size }
      where
        go : (z x s k : ℕ) → z ≤ x + 2 * s → s ≤ x → x ≤ 2 ^ 53 * k → z ≤ 3 * 2 ^ 53 * k
        go z x s k a b c = omega arith

    summed : Parts (from_exact_add one x)
    unfolding from_exact_add sub
    summed =
        let d = u ⊖ one in
        let o = minus_one_lem u u_positive in
        let l = x ⊖ d in
        let s : Small (plus l + (less x + less (neg d))) (less l + (plus x + plus (neg d))) (5 * κ) = sum_off x_own (neg_bound (off_size d o)) tt in
        record {
          positive = u_positive;
          from = u_from;
          to = u_to;
          low = at (2 ^ 55 + 5) (sub_bound x_own (off_size d o) tt) tt;
          off = off_size;
          sum = λ z h. record {
            upper = upper (plus x) (less x) (plus d) (less d) (plus (neg d)) (less (neg d)) (plus l) (less l) (plus z) (less z) (plus u) (2 ^ 53 * S) (5 * κ) (neg_plus d) (neg_less d) o.is h.is s.upper;
            lower = lower (plus x) (less x) (plus d) (less d) (plus (neg d)) (less (neg d)) (plus l) (less l) (plus z) (less z) (plus u) (2 ^ 53 * S) (5 * κ) (neg_plus d) (neg_less d) o.is h.is s.lower;
          };
        }
      where
        upper : (px nx pd nd pe ne pl nl pz nz u w k : ℕ) → pe ≡ nd → ne ≡ pd → pd + w ≡ nd + u → pz + w ≡ nz + u → pl + (nx + ne) ≤ nl + (px + pe) + k → pz + pl + nx ≤ nz + nl + px + k
        upper px nx pd nd pe ne pl nl pz nz u w k a b c d h = omega arith

        lower : (px nx pd nd pe ne pl nl pz nz u w k : ℕ) → pe ≡ nd → ne ≡ pd → pd + w ≡ nd + u → pz + w ≡ nz + u → nl + (px + pe) ≤ pl + (nx + ne) + k → nz + nl + px ≤ pz + pl + nx + k
        lower px nx pd nd pe ne pl nl pz nz u w k a b c d h = omega arith

  -- below it: 1 and x
  lost : Parts (record { lo = x; hi = one })
  unfolding le
  lost = record {
    positive = positive_at (2 ^ 52) (3 * 2 ^ 52) one_is_1 tt tt;
    from = tt;
    to = tt;
    low = at (2 ^ 55 + 5) x_own tt;
    off = λ z o. record { scale = scale; number = o.number; size = le_trans (le_of_eq (none z o)) zero-le };
    sum = λ z o. record { upper = same (plus z) (less z) (plus x) (less x) (5 * κ) (none z o); lower = same (less z) (plus z) (less x) (plus x) (5 * κ) (turned (plus z) (less z) (none z o)) };
  }
    where
      none : (z : Float) → Off one z → mag z ≡ 0
      none z o = go (plus z) (less z) (plus one) (less one) S per_one (one_side z) one_is one_mag one_is_1.clear o.is
        where
          go : (p n q m s w : ℕ) → (p ≡ 0) ⊎ (n ≡ 0) → w ≡ s * 2 ^ 53 → q + m ≡ w → m ≡ 0 → p + 2 ^ 53 * s ≡ n + q → p + n ≡ 0
          go p n q m s w (inl e) a b c d = omega arith
          go p n q m s w (inr e) a b c d = omega arith

      same : (p n q m k : ℕ) → p + n ≡ 0 → p + q + m ≤ n + m + q + k
      same p n q m k h = omega arith

      turned : (p n : ℕ) → p + n ≡ 0 → n + p ≡ 0
      turned p n h = omega arith

  parts_of : Parts (one_plus x)
  unfolding one_plus
  parts_of = go (le x one) at_most_one (le tiny (absolute (narrowed x))) refl
    where
      at_most_one : le x one ≡ true
      at_most_one = le_true number one_is_1.number (under (plus x) (less x) (plus one) (less one) S per_one one_is one_mag one_is_1.clear (le_of_lt below))
        where
          under : (p n q m s w : ℕ) → w ≡ s * 2 ^ 53 → q + m ≡ w → m ≡ 0 → p + n ≤ 2 ^ 24 * s → p + m ≤ q + n
          under p n q m s w a b c h = omega arith

      not_lost : le tiny (absolute (narrowed x)) ≡ true → S ≤ mag x
      not_lost e = le_trans (le_of_eq (sym tiny_is.1)) (size_least tiny x tiny_is.0 tiny_is.2 number (ap (λ (k : Float). le tiny (absolute k)) (sym (narrowed_same x f)) ∙ e))

      go : (b : Bool) → b ≡ true → (c : Bool) → le tiny (absolute (narrowed x)) ≡ c → Parts (cond b (cond c (from_exact_add one x) (record { lo = x; hi = one })) (from_exact_add x one))
      go true d true e = summed (not_lost e)
      go true d false e = lost
      go false d c e = absurd (subst T (sym d) tt)

  -- ---- the accurate logarithm, with nothing taken out
  abbrev v : DoubleDouble
  v = one_plus x

  abbrev bits : ℕ
  bits = to_bits binary64 v.hi

  power : Alone bits
  power =
      let b = bits_of v.hi parts_of.positive.number.held parts_of.from parts_of.to in
      alone_of bits (field_of bits b.0 b.1)

  abbrev i : ℕ
  i = inverse_index v.hi

  inverse : One i
  inverse = index_of v.hi parts_of.positive.number.plain parts_of.from parts_of.to

  e : Float
  e = of_int binary64 (exponent_of bits)

  a : DoubleDouble
  a = pair_entry log2p1_compoundf_log2_inv i

  z : Float
  z = dd_fmla one v.hi minus_one

  z' : DoubleDouble
  z' = from_exact_add z (one ⊗ v.lo)

  accurate_is : compoundf_log2p1_accurate x ≡ sum_of_logs e a (log2_poly2 z')
  unfolding compoundf_log2p1_accurate log2_reduced times_inverse e a z z'
  accurate_is =
      ap (λ (b : ℕ). log2_reduced (of_int binary64 (exponent_of bits)) (record { lo = v.lo ⊗ entry log2p1_scale (b + 29 - 1023); hi = v.hi ⊗ entry log2p1_scale (b + 29 - 1023) })) power.field
      ∙ ap (λ (s : Float). log2_reduced (of_int binary64 (exponent_of bits)) (record { lo = v.lo ⊗ s; hi = v.hi ⊗ s })) (scale_rule 29 (lit< tt))
      ∙ ap₂ (λ (l h : Float). log2_reduced (of_int binary64 (exponent_of bits)) (record { lo = l; hi = h })) (mul_one binary64 v.lo parts_of.low.number.held) (mul_one binary64 v.hi parts_of.positive.number.held)
      ∙ ap (λ (r : Float). sum_of_logs (of_int binary64 (exponent_of bits)) (pair_entry log2p1_compoundf_log2_inv i) (log2_poly2 (from_exact_add (dd_fmla r v.hi minus_one) (r ⊗ v.lo)))) inverse.inverse

  e_nil : Nil e
  unfolding e
  e_nil = power.nil

  a_nil : Nil a.hi × Nil a.lo
  unfolding a
  a_nil = (inverse.hi, inverse.lo)

  -- ---- z is x, but for a few roundings
  z_off : Off v.hi z
  unfolding z
  z_off = fmla_minus_one v.hi parts_of.positive

  z_own : Bound κ (3 * 2 ^ 53) z
  z_own = parts_of.off z z_off

  same : Same (one ⊗ v.lo) v.lo
  same = one_times v.lo parts_of.low.number

  low_own : Bound κ (2 ^ 55 + 5) (one ⊗ v.lo)
  low_own = record { scale = scale; number = same.number; size = le_trans (le_of_eq (ap₂ ◌+◌ same.plus_same same.less_same)) parts_of.low.size }

  z'-is : z'.hi ≡ z ⊕ one ⊗ v.lo
  unfolding z' from_exact_add
  z'-is = refl

  z'-x : Apart κ 20 z'.hi x
  z'-x =
      let l = one ⊗ v.lo in
      let w = z ⊕ l in
      let s : Small (plus w + (less z + less l)) (less w + (plus z + plus l)) (8 * κ) = sum_off z_own low_own tt in
      let o = parts_of.sum z z_off in
      subst (λ (k : Float). Apart κ 20 k x) (sym z'-is) (record {
        over = above (plus x) (less x) (plus z) (less z) (plus l) (less l) (plus w) (less w) (plus v.lo) (less v.lo) κ same.plus_same same.less_same s.upper o.upper;
        under = under (plus x) (less x) (plus z) (less z) (plus l) (less l) (plus w) (less w) (plus v.lo) (less v.lo) κ same.plus_same same.less_same s.lower o.lower;
      })
    where
      above : (px nx pz nz pl nl pw nw pm nm s : ℕ) → pl ≡ pm → nl ≡ nm → pw + (nz + nl) ≤ nw + (pz + pl) + 8 * s → pz + pm + nx ≤ nz + nm + px + 5 * s → pw + nx ≤ nw + px + 20 * s
      above px nx pz nz pl nl pw nw pm nm s f g h j = omega arith

      under : (px nx pz nz pl nl pw nw pm nm s : ℕ) → pl ≡ pm → nl ≡ nm → nw + (pz + pl) ≤ pw + (nz + nl) + 8 * s → nz + nm + px ≤ pz + pm + nx + 5 * s → px + nw ≤ nx + pw + 20 * s
      under px nx pz nz pl nl pw nw pm nm s f g h j = omega arith

  z'-own : Bounds κ (2 ^ 53 + 20) 32 z'
  unfolding z'
  z'-own =
      let f = fast_bounds z_own low_own tt in
      record { hi = bound_near f.hi.number z'-x x_own; lo = at 32 f.lo tt }

  z'-size : Bounds S (2 ^ 47 + 2 ^ 36) 4 z'
  z'-size = record { hi = bound_wider (2 ^ 47 + 2 ^ 36) z'-own.hi tt; lo = bound_wider 4 z'-own.lo tt }

  -- ---- the polynomial beside k
  abbrev b : DoubleDouble
  b = log2_poly2 z'

  b_own : Bounds κ (2 ^ 55) (2 ^ 10) b
  b_own =
      let f = poly_size scale z'-size z'-own tt in
      record { hi = at (2 ^ 55) f.hi tt; lo = at (2 ^ 10) f.lo tt }

  b_k : Apart κ 45200 b.hi k
  b_k =
      let slow = apart_through (slow_beside (apart_wider 100 z'-x tt) z'-size.hi (at (2 ^ 47 + 2 ^ 33) on_one tt)) factors in
      subst (Apart κ 45200 b.hi) (mul_turned F x F_size.number number)
      (subst (λ (w : Float). Apart κ 45200 w (F ⊗ x)) (sym (slow_is z')) (apart_at 45200 (product_apart (unit_left scale) slow z'-x (slow_size z'-size.hi) z'-own.hi F_size x_own tt) tt))

  -- ---- and the sum of the three
  sum_hi : (sum_of_logs e a b).hi ≡ e ⊕ a.hi ⊕ b.hi
  unfolding sum_of_logs from_exact_add
  sum_hi = refl

  sum_k_lem : Apart κ 45300 (sum_of_logs e a b).hi k
  sum_k_lem =
      subst (λ (w : Float). Apart κ 45300 w k) (sym sum_hi)
      (apart_at 45300 (apart_through (add_apart_right (nil_bound κ scale (nil_sum e_nil a_nil.0)) b_own.hi tt) b_k) tt)

  sum_own : Bounds κ (2 ^ 54) (2 ^ 15 + 1) (sum_of_logs e a b)
  sum_own =
      let f = logs_size (nil_bound κ scale e_nil) (record { hi = nil_bound κ scale a_nil.0; lo = nil_bound κ scale a_nil.1 }) b_own tt in
      record { hi = at (2 ^ 54) (bound_near f.hi.number sum_k_lem k_own) tt; lo = at (2 ^ 15 + 1) f.lo tt }

  own : LogOwn (compoundf_log2p1_accurate x) k
  unfolding κ
  own = record {
    large = k_large;
    sized = at (2 ^ 62) k_size tt;
    near = subst (λ (w : DoubleDouble). Apart (mag k / 2 ^ 53) 108194 w.hi k) (sym accurate_is) (apart_at 108194 sum_k_lem tt);
    parts = subst (Bounds (mag k / 2 ^ 53) (2 ^ 54) (2 ^ 15 + 1)) (sym accurate_is) sum_own;
  }

pub tiny_own : (x : Float) → T (fits binary32 x) → T (finite x) → le kept_from (absolute x) ≡ false → 0 < mag x → LogOwn (compoundf_log2p1_accurate x) (x ⊗ plain_factor x)
tiny_own = own
