-- The nearest 32nd to t at once: 3 * 2^46 + t is rounded to a whole number of 32nds, N of them. Let N and 16 more be 32 * j + i. Where i is above 0 and what is left of t is clear
-- of the switches of the index, j is k and 3 * 2^46 more, i is the index, and what is left is the same as in two steps (`one_step`). Assumes nothing.
use Rattle.std.proofs.Common.{rules, ◌≡◌, ℕ, zero, suc, ◌+◌, ◌-◌, ◌*◌, ◌/◌, ◌%◌, ◌^◌, ◌<◌, ◌≤◌, min, Bool, true, false, not, T, cond, ◌⊎◌, ℤ, pos, neg_ℤ, sym, refl, ap, ◌∙◌, subst, ap₂, inl, inr, le_trans, le_of_eq, lt_of_lt_of_le, lt_of_le_of_lt, lt_irrefl, mul-le-mul_right, mod-lt, le_antisymm, lt_of_mul-lt-mul_right, mul-pos, mul-one, le_of_mul-le-mul_right, mul-div_cancel, arith, lit<, lit≤}
use lib.Ieee.{Float, nan, inf, fin, binary64, up, down, fits, is_nan, neg, sub, le, of_bits, to_bits, to_signed}
use lib.Ieee.Bits.{is_true}
use lib.Ieee.Exact.{HasValue}
use lib.Ieee.Fits.{down_pos}
use lib.Ieee.Nearest.{closest}
use Rattle.floats.specs.Operations.{◌⊕◌, ◌⊖◌, ◌⊗◌}
use Rattle.floats.specs.Narrowing.{nearest_whole}
use Rattle.floats.proofs.Laws.Sums.{above, under, above_times, under_times, add_turned}
use Rattle.floats.proofs.Laws.Units.{HasSign, round_has_sign}
use Rattle.floats.proofs.Laws.Whole.{nearest_whole_exact}
use Rattle.special.proofs.Rule.{finite_number}
use Rattle.tables.specs.Tables.{entry, pair_entry, compoundf_exp2_t, compoundf_exp2_u}
use Rattle.fast_path.specs.Scaling.{scaled}
use Rattle.fast_path.specs.Fast.{power_index}
use Rattle.fast_path.proofs.Lifted.{lifted, lifted_sum}
use Rattle.fast_path.proofs.PowerSlot.{exponent_of_lem, power_nearest}
use Rattle.bounds.proofs.Values.{per_one, per_one_pos, plus, less, mag, one_side, Number, neg_plus, neg_less, neg_number, Units}
use Rattle.bounds.proofs.Operation.{units_mag}
use Rattle.bounds.proofs.Scales.{S, S_pos, one_is, unit, Bound, at, sub_bound}
use Rattle.bounds.proofs.Distances.{Apart, apart_at, sub_apart}
use Rattle.bounds.proofs.Grids.{Grid, Count, Clear, on_grid_clear, count_difference, NotMinusNought, sum_nought, sums_same}
use Rattle.bounds.proofs.Compared.{Positive, positive_add, positive_at, tested_positive, bits_by_field, le_of_units}
use Rattle.bounds.proofs.Nearest.{Left, part_exact, whole_bound, whole_value}
use Rattle.filter.specs.Plain.{plain_expf_poly, part_of, rest_of, plain_pattern, fast_switch_gap, part_end, clear_of_index, clear_of_switches, Middle}
use Rattle.filter.proofs.Limits.{rest_bound}
use Rattle.filter.proofs.Power.{part_half}
use Rattle.filter.proofs.Accepted.{within_more}
pub use Rattle.filter.proofs.Middle.{plain_least, plain_below}
use Rattle.filter.proofs.Middle.{bounded, not_small, whole_within}

-- 1.5 * 2^47
abbrev pub wide : Float
wide = fin false 3 (pos 46)

wide_is : Positive (3 * 2 ^ 99) (3 * 2 ^ 99) wide
unfolding fits
wide_is = tested_positive (3 * 2 ^ 99) (3 * 2 ^ 99) wide tt

-- a 32nd, in units
grid32 : Grid (2 ^ 48 * S)
unfolding S
grid32 = record { digits = 1069; is = refl; low = lit≤ tt }

wide_count : Count (2 ^ 48 * S) (3 * 2 ^ 51) 0 wide
unfolding S fits
wide_count = record { number = record { held = tt; plain = tt }; is = refl }

-- ---- from the 32nds to k. In units of s, t is p - n, k is a - b, and the nearest 32nd is q - m; k is A - B, and there are N 32nds in the sum
record Beside (s p n a b q m A B N j i : ℕ) : Type 0 where
  positive : 0 < s
  -- t is less than 1/64 from the nearest 32nd, and hardly more than a half from k
  grid_over : p + m ≤ n + q + (2 ^ 47 - 2 ^ 23 + 300) * s
  grid_under : q + n ≤ m + p + (2 ^ 47 - 2 ^ 23 + 300) * s
  whole_over : p + b ≤ n + a + (2 ^ 52 + 300) * s
  whole_under : a + n ≤ b + p + (2 ^ 52 + 300) * s
  -- k is whole, and the sum is 3 * 2^46 and the nearest 32nd
  k_plus : a ≡ A * (s * 2 ^ 53)
  k_less : b ≡ B * (s * 2 ^ 53)
  in_grid : q + 3 * 2 ^ 51 * (2 ^ 48 * s) ≡ m + N * (2 ^ 48 * s)
  -- the digits that j and i are read from
  split : N + 16 ≡ 32 * j + i
  some : 0 < i
  few : i < 32

-- a number of ones, and of 32nds, with s at its side
moved : (A s : ℕ) → A * (s * 2 ^ 53) ≡ A * s * 2 ^ 53
moved A s = omega arith

turned : (N s : ℕ) → N * (2 ^ 48 * s) ≡ N * s * 2 ^ 48
turned N s = omega arith

left : (A s : ℕ) → (A + 3 * 2 ^ 46) * s ≡ A * s + 3 * 2 ^ 46 * s
left A s = omega arith

both : (j B s : ℕ) → (j + B) * s ≡ j * s + B * s
both j B s = omega arith

module _ {s p n a b q m A B N j i : ℕ} (h : Beside s p n a b q m A B N j i) where
  -- the numbers times s
  N_times : N * s + 16 * s ≡ 32 * (j * s) + i * s
  N_times = sym (omega arith) ∙ ap (λ (z : ℕ). z * s) h.split ∙ (omega arith)

  i_least : s ≤ i * s
  i_least = go i h.some
    where
      go : (i : ℕ) → 0 < i → s ≤ i * s
      go (suc i) g = omega arith
      go zero g = omega arith

  i_most : i * s ≤ 31 * s
  i_most = mul-le-mul_right s (omega arith)

  -- k is less than one from j - 3 * 2^46, so it is that
  k_is : A + 3 * 2 ^ 46 ≡ j + B
  k_is =
      let o = near s p n a b q m (A * s) (B * s) (N * s) (j * s) (i * s) h.positive h.grid_over h.grid_under h.whole_over h.whole_under (h.k_plus ∙ moved A s) (h.k_less ∙ moved B s) (h.in_grid ∙ ap (λ (z : ℕ). m + z) (turned N s)) N_times i_least i_most in
      le_antisymm (below (lt_of_mul-lt-mul_right s (subst (λ (z : ℕ). z < (j + B + 1) * s) (sym (left A s)) (subst (λ (z : ℕ). A * s + 3 * 2 ^ 46 * s < z) (sym (omega arith)) o.0))))
      (below (lt_of_mul-lt-mul_right s (subst (λ (z : ℕ). z < (A + 3 * 2 ^ 46 + 1) * s) (sym (both j B s)) (subst (λ (z : ℕ). j * s + B * s < z) (sym (omega arith)) o.1))))
    where
      below : {u v : ℕ} → u < v + 1 → u ≤ v
      below g = omega (arith, g)

      near : (s p n a b q m A B N j i : ℕ) → 0 < s → p + m ≤ n + q + (2 ^ 47 - 2 ^ 23 + 300) * s → q + n ≤ m + p + (2 ^ 47 - 2 ^ 23 + 300) * s → p + b ≤ n + a + (2 ^ 52 + 300) * s → a + n ≤ b + p + (2 ^ 52 + 300) * s
          → a ≡ A * 2 ^ 53 → b ≡ B * 2 ^ 53 → q + 3 * 2 ^ 51 * (2 ^ 48 * s) ≡ m + N * 2 ^ 48 → N + 16 * s ≡ 32 * j + i → s ≤ i → i ≤ 31 * s → (A + 3 * 2 ^ 46 * s < j + B + s) × (j + B < A + 3 * 2 ^ 46 * s + s)
      near s p n a b q m A B N j i P g h k l e f d c u v = (omega arith, omega arith)

  -- so the nearest 32nd is k and (i - 16)/32
  level : q + b + 16 * (2 ^ 48 * s) ≡ m + a + i * (2 ^ 48 * s)
  level = omega (arith, h.k_plus ∙ moved A s, h.k_less ∙ moved B s, h.in_grid ∙ ap (λ (z : ℕ). m + z) (turned N s), N_times, sym (left A s) ∙ ap (λ (z : ℕ). z * s) k_is ∙ both j B s) ∙ ap (λ (z : ℕ). m + a + z) (sym (turned i s))

  -- the 32nd of index i, x - y, is as far from what is left of t over k, v - w, as the nearest 32nd is from t
  near_index : (v w x y : ℕ) → v + n + a ≡ w + p + b → x + 16 * (2 ^ 48 * s) ≡ y + i * (2 ^ 48 * s) → (v + y ≤ w + x + (2 ^ 47 - 8) * s) × (x + w ≤ y + v + (2 ^ 47 - 8) * s)
  near_index v w x y e d = go s p n a b q m (i * (2 ^ 48 * s)) v w x y h.grid_over h.grid_under level e d
    where
      go : (s p n a b q m I v w x y : ℕ) → p + m ≤ n + q + (2 ^ 47 - 2 ^ 23 + 300) * s → q + n ≤ m + p + (2 ^ 47 - 2 ^ 23 + 300) * s → q + b + 16 * (2 ^ 48 * s) ≡ m + a + I → v + n + a ≡ w + p + b → x + 16 * (2 ^ 48 * s) ≡ y + I
          → (v + y ≤ w + x + (2 ^ 47 - 8) * s) × (x + w ≤ y + v + (2 ^ 47 - 8) * s)
      go s p n a b q m I v w x y g l e d c = (omega arith, omega arith)

  -- and what is left of it over that is what is left of t over the nearest 32nd
  same_rest : (v w x y : ℕ) → v + n + a ≡ w + p + b → x + 16 * (2 ^ 48 * s) ≡ y + i * (2 ^ 48 * s) → y + v + (q + n) ≡ x + w + (m + p)
  same_rest v w x y e d = omega (arith, level, e, d)

  -- what is left of t over k is at most 31/64
  part_most : (v w : ℕ) → v + n + a ≡ w + p + b → (v ≤ w + 31 * 2 ^ 47 * s) × (w ≤ v + 31 * 2 ^ 47 * s)
  part_most v w e = go s p n a b q m (i * (2 ^ 48 * s)) v w h.grid_over h.grid_under level e (le_trans (le_of_eq (turned i s)) (le_trans (mul-le-mul_right (2 ^ 48) i_most) (le_of_eq (omega arith)))) (le_trans (le_of_eq (sym (omega arith))) (le_trans (mul-le-mul_right (2 ^ 48) i_least) (le_of_eq (sym (turned i s)))))
    where
      go : (s p n a b q m I v w : ℕ) → p + m ≤ n + q + (2 ^ 47 - 2 ^ 23 + 300) * s → q + n ≤ m + p + (2 ^ 47 - 2 ^ 23 + 300) * s → q + b + 16 * (2 ^ 48 * s) ≡ m + a + I → v + n + a ≡ w + p + b → I ≤ 31 * (2 ^ 48 * s) → 2 ^ 48 * s ≤ I
          → (v ≤ w + 31 * 2 ^ 47 * s) × (w ≤ v + 31 * 2 ^ 47 * s)
      go s p n a b q m I v w g l e d c f = (omega arith, omega arith)

-- ---- k, as a signed number
-- k as an i64, 4096 more
lifted_value : (x : Float) (s : Bool) (M : ℕ) → HasValue x s M 1 → M ≤ 124 → to_signed 63 x ≡ cond s (neg_ℤ (pos M)) (pos M)
unfolding to_signed
lifted_value nan s M v h = absurd v
lifted_value (inf u) s M v h = absurd v
lifted_value (fin u m e) s M v h = ap (λ (z : Bool). cond z (neg_ℤ (pos (min (m * up e / down e) (2 ^ 63)))) (pos (min (m * up e / down e) (2 ^ 63 - 1)))) v.0 ∙ ap (λ (z : ℕ). cond s (neg_ℤ (pos (min z (2 ^ 63)))) (pos (min z (2 ^ 63 - 1)))) quotient ∙ ap₂ (λ (y z : ℕ). cond s (neg_ℤ (pos y)) (pos z)) (cut M h).0 (cut M h).1
  where
    quotient : m * up e / down e ≡ M
    quotient = ap (λ (z : ℕ). z / down e) (sym (mul-one (m * up e)) ∙ v.1) ∙ mul-div_cancel M (down_pos e)

    cut : (M : ℕ) → M ≤ 124 → (min M (2 ^ 63) ≡ M) × (min M (2 ^ 63 - 1) ≡ M)
    cut M h = (omega arith, omega arith)

last_digits : (s : Bool) (M j : ℕ) → M ≤ 124 → above s M + 3 * 2 ^ 46 ≡ j + under s M → lifted (cond s (neg_ℤ (pos M)) (pos M)) % 4096 ≡ j % 4096
last_digits false M j h e = omega (arith, h, e)
last_digits true zero j h e = omega (arith, e)
last_digits true (suc M) j h e = omega (arith, h, e)

-- the nearest whole value of x: M, with a sign
record Whole (x : Float) : Type 0 where
  sign : Bool
  size : ℕ
  units : Units sign (size * per_one) (nearest_whole x)
  value : HasValue (nearest_whole x) sign size 1

whole : (x : Float) → Number x → Whole x
whole nan n = absurd n.plain
whole (inf s) n = absurd n.plain
whole (fin s m e) n = record { sign = s; size = closest (m * up e) (down e); units = whole_value s m e n.held; value = nearest_whole_exact s m e n.held }

-- ---- t, its nearest 32nd, and the pattern that the index and k are read from
abbrev pub nearest32nd : Float → Float
nearest32nd t = wide ⊕ t ⊖ wide

abbrev pub digits32 : Float → ℕ
digits32 t = to_bits binary64 (wide ⊕ t) + 16

pub record OneStep (t : Float) : Type 0 where
  pub index : power_index (part_of t) ≡ digits32 t % 32
  pub rest : rest_of t ≡ t ⊖ nearest32nd t
  pub below : le (part_of t) (part_end fast_switch_gap) ≡ true
  pub above : le (neg (part_end fast_switch_gap)) (part_of t) ≡ true
  pub k : lifted (to_signed 63 (nearest_whole t)) % 4096 ≡ digits32 t / 32 % 4096

module _ (t : Float) (b : Bound S (124 * 2 ^ 53) t) where
  -- the sum
  pub sum_range : Positive (3 * 2 ^ 99 - 125 * 2 ^ 53) (3 * 2 ^ 99 + 125 * 2 ^ 53) (wide ⊕ t)
  sum_range = positive_at (3 * 2 ^ 99 - 125 * 2 ^ 53) (3 * 2 ^ 99 + 125 * 2 ^ 53) (positive_add wide_is b tt tt) tt tt

  grid : Clear (2 ^ 48 * S) (wide ⊕ t)
  grid = on_grid_clear grid32 sum_range.number sum_range.clear (le_trans (omega arith) sum_range.least)

  N : ℕ
  N = grid.parts

  N_range : (2 ^ 52 ≤ N) × (N < 2 ^ 53)
  unfolding N
  N_range = (
    le_of_mul-le-mul_right (le_trans (omega arith) (le_trans sum_range.least (le_of_eq grid.is))) parts_pos,
    lt_of_mul-lt-mul_right (2 ^ 48 * S) (lt_of_le_of_lt (le_of_eq (sym grid.is)) (lt_of_le_of_lt sum_range.most (omega arith))),
  )
    where
      parts_pos : 0 < 2 ^ 48 * S
      parts_pos = mul-pos (lit< tt) S_pos

  -- its pattern ends in N
  sum_bits : to_bits binary64 (wide ⊕ t) ≡ 1069 * 2 ^ 52 + N
  unfolding N S
  sum_bits =
      bits_by_field 1069 (wide ⊕ t) sum_range.number sum_range.clear (le_trans (lit≤ tt) sum_range.least) (lt_of_le_of_lt sum_range.most (lit< tt))
      ∙ ap (λ (n : ℕ). 1069 * 2 ^ 52 + n) (ap (λ (n : ℕ). n / 2 ^ 1069) grid.is ∙ mul-div_cancel grid.parts (lit< tt))

  pub digits_fit : digits32 t < 2 ^ 64
  digits_fit = subst (λ (n : ℕ). n + 16 < 2 ^ 64) (sym sum_bits) (omega (arith, N_range.1))

  j : ℕ
  j = (N + 16) / 32

  i : ℕ
  i = (N + 16) % 32

  index_is : digits32 t % 32 ≡ i
  unfolding i
  index_is = ap (λ (n : ℕ). (n + 16) % 32) sum_bits ∙ (omega arith)

  k_digits : digits32 t / 32 % 4096 ≡ j % 4096
  unfolding j
  k_digits = ap (λ (n : ℕ). (n + 16) / 32 % 4096) sum_bits ∙ (omega arith)

  -- the nearest 32nd
  nearest_count : Count (2 ^ 48 * S) (N + 0) (0 + 3 * 2 ^ 51) (nearest32nd t)
  unfolding N
  nearest_count = count_difference grid32 grid.count wide_count (go grid.parts N_range.1).0 (go grid.parts N_range.1).1
    where
      go : (n : ℕ) → n < 2 ^ 53 → (n + 0 < 0 + 3 * 2 ^ 51 + 2 ^ 53) × (0 + 3 * 2 ^ 51 < n + 0 + 2 ^ 53)
      go n h = (omega arith, omega arith)

  in_grid : plus (nearest32nd t) + 3 * 2 ^ 51 * (2 ^ 48 * S) ≡ less (nearest32nd t) + N * (2 ^ 48 * S)
  in_grid = ap (λ (z : ℕ). plus (nearest32nd t) + z * (2 ^ 48 * S)) (sym (omega arith)) ∙ nearest_count.is ∙ ap (λ (z : ℕ). less (nearest32nd t) + z * (2 ^ 48 * S)) (omega arith)

  nearest_bound : Bound S (125 * 2 ^ 53) (nearest32nd t)
  unfolding N
  nearest_bound = record { scale = unit; number = nearest_count.number; size = go (plus (nearest32nd t)) (less (nearest32nd t)) (N * (2 ^ 48 * S)) S (one_side (nearest32nd t)) in_grid (le_trans sum_range.least (le_of_eq grid.is)) (le_trans (le_of_eq (sym grid.is)) sum_range.most) }
    where
      go : (q m n s : ℕ) → (q ≡ 0) ⊎ (m ≡ 0) → q + 3 * 2 ^ 51 * (2 ^ 48 * s) ≡ m + n → (3 * 2 ^ 99 - 125 * 2 ^ 53) * s ≤ n → n ≤ (3 * 2 ^ 99 + 125 * 2 ^ 53) * s → q + m ≤ 125 * 2 ^ 53 * s
      go q m n s (inl z) e g h = omega arith
      go q m n s (inr z) e g h = omega arith

  -- ---- where i is above 0, and t is clear of the switches of the index
  module _ (some : 0 < digits32 t % 32) (big : 0 < mag t) (r : Bound S (2 ^ 47 - 2 ^ 23) (t ⊖ nearest32nd t)) where
    k : Whole t
    k = whole t b.number

    grid_near : Apart S (2 ^ 47 - 2 ^ 23 + 300) t (nearest32nd t)
    grid_near = apart_at (2 ^ 47 - 2 ^ 23 + 300) (sub_apart b nearest_bound r tt) tt

    whole_near : Apart S (2 ^ 52 + 300) t (nearest_whole t)
    whole_near = apart_at (2 ^ 52 + 300) (sub_apart b (whole_bound 124 b) (part_half t b.number) tt) tt

    beside : Beside S (plus t) (less t) (plus (nearest_whole t)) (less (nearest_whole t)) (plus (nearest32nd t)) (less (nearest32nd t)) (above k.sign k.size) (under k.sign k.size) N j i
    unfolding j i k
    beside = record {
      positive = S_pos;
      grid_over = grid_near.over;
      grid_under = grid_near.under;
      whole_over = whole_near.over;
      whole_under = whole_near.under;
      k_plus = k.units.plus_is ∙ above_times k.sign k.size per_one ∙ ap (λ (z : ℕ). above k.sign k.size * z) one_is;
      k_less = k.units.less_is ∙ under_times k.sign k.size per_one ∙ ap (λ (z : ℕ). under k.sign k.size * z) one_is;
      in_grid = in_grid;
      split = sym (omega arith);
      some = subst (λ (z : ℕ). 0 < z) index_is some;
      few = mod-lt (N + 16) (lit< tt);
    }

    part_is : Left t (nearest_whole t)
    part_is = part_exact t b.number (le_trans b.size (omega (arith, one_is)))

    i_inside : i < 33
    i_inside = omega (arith, beside.few)

    index : power_index (part_of t) ≡ i
    unfolding part_of
    index =
        let e = exponent_of_lem i i_inside in
        let o = near_index beside _ _ _ _ part_is.is e.is in
        power_nearest (t ⊖ nearest_whole t) (at (65 * 2 ^ 46) (part_half t b.number) tt) i i_inside (record { over = o.0; under = o.1 })

    rest : rest_of t ≡ t ⊖ nearest32nd t
    unfolding rest_of part_of sub
    rest =
        let e = exponent_of_lem i i_inside in
        ap (λ (n : ℕ). part_of t ⊖ entry compoundf_exp2_t n) index
        ∙ add_turned binary64 (t ⊖ nearest_whole t) (neg (entry compoundf_exp2_t i))
        ∙ sums_same (neg_number e.number) part_is.number (neg_number nearest_bound.number) b.number part_sign (λ z. absurd (lt_irrefl 0 (subst (λ (n : ℕ). 0 < n) z big)))
        (ap₂ (λ (u v : ℕ). u + plus (t ⊖ nearest_whole t) + (v + less t)) (neg_plus (entry compoundf_exp2_t i)) (neg_less (nearest32nd t))
        ∙ same_rest beside _ _ _ _ part_is.is e.is
        ∙ ap₂ (λ (u v : ℕ). u + less (t ⊖ nearest_whole t) + (v + plus t)) (sym (neg_less (entry compoundf_exp2_t i))) (sym (neg_plus (nearest32nd t))))
        ∙ add_turned binary64 (neg (nearest32nd t)) t
      where
        -- what is left of t is not -0
        part_sign : NotMinusNought (t ⊖ nearest_whole t)
        part_sign z =
            subst (HasSign false)
            (sym (add_turned binary64 t (neg (nearest_whole t))
            ∙ sum_nought (neg (nearest_whole t)) t (neg_number k.units.number) b.number (λ y. absurd (lt_irrefl 0 (subst (λ (n : ℕ). 0 < n) y big)))
            (ap (λ (n : ℕ). n + plus t) (neg_plus (nearest_whole t)) ∙ (omega (arith, z, part_is.is)) ∙ ap (λ (n : ℕ). n + less t) (sym (neg_less (nearest_whole t))))))
            (round_has_sign binary64 false 0 per_one)

    pub one_step : OneStep t
    unfolding part_of
    one_step = record {
      index = index ∙ sym index_is;
      rest = rest;
      below = is_true _ (le_of_units (t ⊖ nearest_whole t) (part_end fast_switch_gap) part_is.number end.0 (omega (arith, end.1, end.2, o.0)));
      above = is_true _ (le_of_units (neg (part_end fast_switch_gap)) (t ⊖ nearest_whole t) (neg_number end.0) part_is.number (omega (arith, neg_plus (part_end fast_switch_gap) ∙ end.2, neg_less (part_end fast_switch_gap) ∙ end.1, o.1)));
      k = ap (λ (z : ℤ). lifted z % 4096) (lifted_value (nearest_whole t) k.sign k.size k.value k_most) ∙ last_digits k.sign k.size j k_most (k_is beside) ∙ sym k_digits;
    }
      where
        o : (plus (t ⊖ nearest_whole t) ≤ less (t ⊖ nearest_whole t) + 31 * 2 ^ 47 * S) × (less (t ⊖ nearest_whole t) ≤ plus (t ⊖ nearest_whole t) + 31 * 2 ^ 47 * S)
        o = part_most beside _ _ part_is.is

        end : Number (part_end fast_switch_gap) × (plus (part_end fast_switch_gap) ≡ (2 ^ 52 - 2 ^ 23) * S) × (less (part_end fast_switch_gap) ≡ 0)
        end = unfold of_bits fits sub S in (record { held = tt; plain = tt }, refl, refl)

        k_most : k.size ≤ 124
        k_most = le_of_mul-le-mul_right (le_trans (le_of_eq (sym (units_mag k.units))) (le_trans (whole_bound 124 b).size (le_of_eq (omega (arith, one_is))))) per_one_pos

-- ---- so the tests of the two steps pass, and the scaled pattern is theirs
module _ (t : Float) (b : Bound S (124 * 2 ^ 53) t) (big : 0 < mag t) (some : 0 < digits32 t % 32) (clear : clear_of_index fast_switch_gap (t ⊖ nearest32nd t) ≡ true) where
  step : OneStep t
  step = one_step t b some big (rest_bound (sub_bound b (nearest_bound t b) tt).number (search rules) (search rules))

  pub clear_of_both : clear_of_switches fast_switch_gap (part_of t) (rest_of t) ≡ true
  clear_of_both = rw (step.below, step.above, step.rest, clear) refl

  pub same_pattern : (v : ℕ) → v ≡ to_bits binary64 ((pair_entry compoundf_exp2_u (digits32 t % 32)).hi ⊗ plain_expf_poly (t ⊖ nearest32nd t))
      → (v + digits32 t / 32 % 4096 * 2 ^ 52) % 2 ^ 64 ≡ scaled (plain_pattern t) (to_signed 63 (nearest_whole t))
  unfolding plain_pattern
  same_pattern v e =
      ap (λ (n : ℕ). (v + n * 2 ^ 52) % 2 ^ 64) (sym step.k)
      ∙ ap (λ (n : ℕ). (n + lifted (to_signed 63 (nearest_whole t)) % 4096 * 2 ^ 52) % 2 ^ 64)
      (e ∙ ap (λ (n : ℕ). to_bits binary64 ((pair_entry compoundf_exp2_u n).hi ⊗ plain_expf_poly (t ⊖ nearest32nd t))) (sym step.index) ∙ ap (λ (x : Float). to_bits binary64 ((pair_entry compoundf_exp2_u (power_index (part_of t))).hi ⊗ plain_expf_poly x)) (sym step.rest))
      ∙ lifted_sum (plain_pattern t) (to_signed 63 (nearest_whole t)) (within_more (to_signed 63 (nearest_whole t)) (whole_within t b))

-- ---- what proves `middle_found`
pub is_wide : of_bits binary64 0x42e8000000000000 ≡ wide
unfolding of_bits
is_wide = refl

module _ (t : Float) (f : T (fits binary64 t)) (m : Middle t) where
  start : Bound S (124 * 2 ^ 53) t
  start = bounded t f m.least m.most

  nonzero : 0 < mag t
  nonzero = lt_of_lt_of_le (lit< tt) (not_small start.number m.apart)

  pub wide_number : T (not (is_nan (wide ⊕ t)))
  unfolding is_nan
  wide_number = finite_number (wide ⊕ t) (sum_range t start).number.plain

  pub wide_fits : digits32 t < 2 ^ 64
  wide_fits = digits_fit t start

  module _ (some : 0 < digits32 t % 32) (clear : clear_of_index fast_switch_gap (t ⊖ nearest32nd t) ≡ true) where
    pub clear_at_once : clear_of_switches fast_switch_gap (part_of t) (rest_of t) ≡ true
    clear_at_once = clear_of_both t start nonzero some clear

    pub pattern_at_once : (to_bits binary64 ((pair_entry compoundf_exp2_u (digits32 t % 32)).hi ⊗ plain_expf_poly (t ⊖ nearest32nd t)) + digits32 t / 32 % 4096 * 2 ^ 52) % 2 ^ 64 ≡ scaled (plain_pattern t) (to_signed 63 (nearest_whole t))
    pattern_at_once = same_pattern t start nonzero some clear _ refl

pub ruleset at_once = (is_wide, wide_number, wide_fits, clear_at_once, pattern_at_once, plain_least, plain_below)
