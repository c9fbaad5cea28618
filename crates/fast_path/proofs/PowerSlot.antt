-- The index of the power: for |r| up to 65/128 it is inside the table without being cut, and the power's exponent (i - 16)/32 is within 1/32 of r, and a little more
-- (`power_slot`); and where an exponent of the table is nearer to r than 1/64, and a little, its index is that of r (`power_nearest`). Assumes nothing.
use Rattle.std.proofs.Common.{◌≡◌, ℕ, suc, ◌+◌, ◌-◌, ◌*◌, ◌/◌, ◌^◌, ◌<◌, ◌≤◌, Bool, true, false, not, T, ltb, sym, ap, ◌∙◌, subst, le_trans, le_of_eq, lt_of_lt_of_le, le_of_suc-le-suc, lt_of_le_of_lt, le_of_lt, mul_assoc, div-lt_iff_lt-mul, add-mul, le_antisymm, mul-pos, le-div_iff_mul-le, zero-add, mul_right_comm, arith, lit<, ltb→lt, nltb→le}
use lib.Ieee.{Float, nan, inf, fin, binary64, up, down, fits, of_bits}
use lib.Ieee.Bits.{of_bits-fits}
use lib.Ieee.Exact.{HasValue}
use Rattle.floats.specs.Operations.{◌⊕◌, ◌⊖◌, f64}
use Rattle.tables.specs.Tables.{entry, compoundf_exp2_t}
use Rattle.tables.proofs.Entries.{exp2t_rule}
use Rattle.fast_path.specs.Fast.{power_place, power_index}
use Rattle.bounds.proofs.Values.{per_one, plus, less, Number, Units, by_value}
use Rattle.bounds.proofs.Operation.{Small}
use Rattle.bounds.proofs.Scales.{S, S_pos, one_is, unit, Bound, at, sub_small_bound}
use Rattle.bounds.proofs.Distances.{Apart, sum_off}
use Rattle.bounds.proofs.Compared.{Positive, tested_positive, positive_at, positive_bound, positive_add, place_in_32nds, quotient}

-- ---- the values of the table, in units: (i - 16)/32
pub record Exponent (i : ℕ) (x : Float) : Type 0 where
  pub number : Number x
  pub is : plus x + 16 * (2 ^ 48 * S) ≡ less x + i * (2 ^ 48 * S)

-- a / 32 is a × 2^48 on the scale of 1
on_scale : (x : Float) (s : Bool) (a : ℕ) → T (fits binary64 x) → HasValue x s a 32 → Units s (a * (2 ^ 48 * S)) x
on_scale nan s a t v = absurd v
on_scale (inf u) s a t v = absurd v
on_scale (fin u m e) s a t v =
    by_value (fin u m e) s (a * (2 ^ 48 * S)) t (v.0, subst (λ (w : ℕ). m * up e * w ≡ a * (2 ^ 48 * S) * down e) (sym (thirty_two S per_one one_is)) (go (m * up e) a (down e) (2 ^ 48 * S) v.1))
  where
    thirty_two : (s w : ℕ) → w ≡ s * 2 ^ 53 → w ≡ 32 * (2 ^ 48 * s)
    thirty_two s w e = omega arith

    go : (x a d k : ℕ) → x * 32 ≡ a * d → x * (32 * k) ≡ a * k * d
    go x a d k e = sym (mul_assoc x 32 k) ∙ ap (λ (z : ℕ). z * k) e ∙ mul_right_comm a d k

pub exponent_of_lem : (i : ℕ) → i < 33 → Exponent i (entry compoundf_exp2_t i)
unfolding entry
exponent_of_lem i h = go (ltb i 16) (ltb→lt i 16) (nltb→le i 16) (on_scale (entry compoundf_exp2_t i) (ltb i 16) (16 - i + (i - 16)) (of_bits-fits binary64 _) (exp2t_rule i h))
  where
    below : (i a : ℕ) → i < 16 → 0 + 16 * a ≡ (16 - i + (i - 16)) * a + i * a
    below i a h = zero-add (16 * a) ∙ sym (sym (add-mul (16 - i + (i - 16)) i a) ∙ ap (λ (z : ℕ). z * a) (back i h))
      where
        back : (i : ℕ) → i < 16 → 16 - i + (i - 16) + i ≡ 16
        back i h = omega arith

    from : (i a : ℕ) → 16 ≤ i → (16 - i + (i - 16)) * a + 16 * a ≡ 0 + i * a
    from i a h = sym (add-mul (16 - i + (i - 16)) 16 a) ∙ ap (λ (z : ℕ). z * a) (back i h) ∙ sym (zero-add (i * a))
      where
        back : (i : ℕ) → 16 ≤ i → 16 - i + (i - 16) + 16 ≡ i
        back i h = omega arith

    go : (b : Bool) → (T b → i < 16) → (T (not b) → 16 ≤ i) → Units b ((16 - i + (i - 16)) * (2 ^ 48 * S)) (entry compoundf_exp2_t i) → Exponent i (entry compoundf_exp2_t i)
    go true l g u = record { number = u.number; is = ap (λ (z : ℕ). z + 16 * (2 ^ 48 * S)) u.plus_is ∙ below i (2 ^ 48 * S) (l tt) ∙ sym (ap (λ (z : ℕ). z + i * (2 ^ 48 * S)) u.less_is) }
    go false l g u = record { number = u.number; is = ap (λ (z : ℕ). z + 16 * (2 ^ 48 * S)) u.plus_is ∙ from i (2 ^ 48 * S) (g tt) ∙ sym (ap (λ (z : ℕ). z + i * (2 ^ 48 * S)) u.less_is) }

-- ---- the index
-- 3 + 1/64
abbrev three : Float
three = f64 0x4008200000000000

three_is : Positive (193 * 2 ^ 47) (193 * 2 ^ 47) three
unfolding of_bits fits
three_is = tested_positive (193 * 2 ^ 47) (193 * 2 ^ 47) three tt

pub record Slot (r : Float) : Type 0 where
  pub from_0 : 0x10010 ≤ power_place r
  pub inside : power_index r < 33
  pub rest : Bound S (2 ^ 48 + 2 ^ 40) (r ⊖ entry compoundf_exp2_t (power_index r))

-- from the sum, of X units, to the rest: with s for the scale and t for i times it
rest_small : (X C pr nr pT nT s t : ℕ) → C ≡ 193 * 2 ^ 47 * s → pT + 16 * (2 ^ 48 * s) ≡ nT + t * 2 ^ 48 → (t + 80 * s) * 2 ^ 48 ≤ X → X ≤ (t + 81 * s) * 2 ^ 48
    → X + nr ≤ C + pr + 4 * s → C + pr ≤ X + nr + 4 * s → Small (pr + nT) (nr + pT) ((2 ^ 47 + 4) * s)
rest_small X C pr nr pT nT s t c e l m g h = record { upper = omega arith; lower = omega arith }

-- from the rest to the sum
in_slot : (X C pr nr pT nT s t : ℕ) → 0 < s → C ≡ 193 * 2 ^ 47 * s → pT + 16 * (2 ^ 48 * s) ≡ nT + t * 2 ^ 48 → pr + nT ≤ nr + pT + (2 ^ 47 - 8) * s → pT + nr ≤ nT + pr + (2 ^ 47 - 8) * s
    → X + nr ≤ C + pr + 4 * s → C + pr ≤ X + nr + 4 * s → ((t + 80 * s) * 2 ^ 48 ≤ X) × (X < (t + 81 * s) * 2 ^ 48)
in_slot X C pr nr pT nT s t P c e l m g h = (omega arith, omega arith)

low_end : (i s : ℕ) → (i * s + 80 * s) * 2 ^ 48 ≡ (i + 80) * (2 ^ 48 * s)
low_end i s = omega arith

high_end : (i s : ℕ) → (i * s + 81 * s) * 2 ^ 48 ≡ (i + 80 + 1) * (2 ^ 48 * s)
high_end i s = omega arith

-- the exponent with i × S for i
exponent_at : {x : Float} (i : ℕ) → Exponent i x → plus x + 16 * (2 ^ 48 * S) ≡ less x + i * S * 2 ^ 48
exponent_at {x} i T = T.is ∙ ap (λ (n : ℕ). less x + n) (shifted i S)
  where
    shifted : (i s : ℕ) → i * (2 ^ 48 * s) ≡ i * s * 2 ^ 48
    shifted i s = omega arith

module _ (r : Float) (b : Bound S (65 * 2 ^ 46) r) where
  w : Float
  w = three ⊕ r

  sum_is : Positive (80 * 2 ^ 48) (113 * 2 ^ 48 - 1) w
  unfolding w
  sum_is = positive_at (80 * 2 ^ 48) (113 * 2 ^ 48 - 1) (positive_add three_is b tt tt) tt tt

  j : ℕ
  j = plus w / (2 ^ 48 * S)

  parts_pos : 0 < 2 ^ 48 * S
  parts_pos = mul-pos (lit< tt) S_pos

  place_is : power_place r ≡ 1023 * 2 ^ 6 + j
  unfolding w j
  place_is = place_in_32nds (positive_at (2 ^ 54) (2 ^ 55 - 1) sum_is tt tt)

  index_is : power_index r ≡ j - 80
  unfolding power_index
  index_is = ap (λ (n : ℕ). n - 0x10010) place_is ∙ less_by j
    where
      less_by : (n : ℕ) → 1023 * 2 ^ 6 + n - 0x10010 ≡ n - 80
      less_by n = omega arith

  j_least : 80 ≤ j
  unfolding j
  j_least = (le-div_iff_mul-le parts_pos).1 (le_trans (le_of_eq (sym (mul_assoc 80 (2 ^ 48) S))) sum_is.least)

  j_most : j < 113
  unfolding j
  j_most = (div-lt_iff_lt-mul parts_pos).1 (lt_of_le_of_lt sum_is.most (lt_of_lt_of_le (one_less S S_pos) (le_of_eq (mul_assoc 113 (2 ^ 48) S))))
    where
      one_less : (s : ℕ) → 0 < s → (113 * 2 ^ 48 - 1) * s < 113 * 2 ^ 48 * s
      one_less s h = omega arith

  from_0 : 0x10010 ≤ power_place r
  from_0 = subst (λ (n : ℕ). 0x10010 ≤ n) (sym place_is) (go j j_least)
    where
      go : (n : ℕ) → 80 ≤ n → 0x10010 ≤ 1023 * 2 ^ 6 + n
      go n h = omega arith

  inside : power_index r < 33
  inside = subst (λ (n : ℕ). n < 33) (sym index_is) (go j j_least j_most)
    where
      go : (n : ℕ) → 80 ≤ n → n < 113 → n - 80 < 33
      go n g h = omega arith

  -- the sum is within four parts of 2^53 of the exact one
  off : Small (plus w + (less three + less r)) (less w + (plus three + plus r)) (4 * S)
  unfolding w
  off = sum_off (positive_bound three_is) b tt

  three_plus : plus three ≡ 193 * 2 ^ 47 * S
  three_plus = le_antisymm three_is.most three_is.least

  over_it : plus w + less r ≤ plus three + plus r + 4 * S
  over_it = go (plus w) (less w) (plus three) (less three) (plus r) (less r) S three_is.clear sum_is.clear off.upper
    where
      go : (X n C m p q s : ℕ) → m ≡ 0 → n ≡ 0 → X + (m + q) ≤ n + (C + p) + 4 * s → X + q ≤ C + p + 4 * s
      go X n C m p q s e f h = omega arith

  under_it : plus three + plus r ≤ plus w + less r + 4 * S
  under_it = go (plus w) (less w) (plus three) (less three) (plus r) (less r) S three_is.clear sum_is.clear off.lower
    where
      go : (X n C m p q s : ℕ) → m ≡ 0 → n ≡ 0 → n + (C + p) ≤ X + (m + q) + 4 * s → C + p ≤ X + q + 4 * s
      go X n C m p q s e f h = omega arith

  pub power_slot : Slot r
  unfolding j
  power_slot =
      let i = power_index r in
      let T = exponent_of_lem i inside in
      let q = quotient (plus w) (2 ^ 48 * S) parts_pos in
      let i80 : i + 80 ≡ j = ap (λ (n : ℕ). n + 80) index_is ∙ back j j_least in
      let small = rest_small (plus w) (plus three) (plus r) (less r) (plus (entry compoundf_exp2_t i)) (less (entry compoundf_exp2_t i)) S (i * S) three_plus (exponent_at i T)
      (le_trans (le_of_eq (low_end i S)) (subst (λ (n : ℕ). n * (2 ^ 48 * S) ≤ plus w) (sym i80) q.0))
      (le_trans (le_of_lt (subst (λ (n : ℕ). plus w < (n + 1) * (2 ^ 48 * S)) (sym i80) q.1)) (le_of_eq (sym (high_end i S)))) over_it under_it in
      record { from_0 = from_0; inside = inside; rest = at (2 ^ 48 + 2 ^ 40) (sub_small_bound (2 ^ 47 + 4) unit b.number T.number small tt) tt }
    where
      back : (n : ℕ) → 80 ≤ n → n - 80 + 80 ≡ n
      back n h = omega arith

  -- the index is that of an exponent that is nearer than 1/64, and a little
  pub power_nearest : (i : ℕ) → i < 33 → Apart S (2 ^ 47 - 8) r (entry compoundf_exp2_t i) → power_index r ≡ i
  unfolding j
  power_nearest i h c =
      let T = exponent_of_lem i h in
      let k = in_slot (plus w) (plus three) (plus r) (less r) (plus (entry compoundf_exp2_t i)) (less (entry compoundf_exp2_t i)) S (i * S) S_pos three_plus (exponent_at i T) c.over c.under over_it under_it in
      index_is
      ∙ taken j i
      (le_of_suc-le-suc ((div-lt_iff_lt-mul parts_pos).1 (lt_of_lt_of_le k.1 (le_of_eq (high_end i S ∙ ap (λ (n : ℕ). n * (2 ^ 48 * S)) (next (i + 80)))))))
      ((le-div_iff_mul-le parts_pos).1 (le_trans (le_of_eq (sym (low_end i S))) k.0))
    where
      next : (n : ℕ) → n + 1 ≡ suc n
      next n = omega arith

      taken : (j i : ℕ) → j ≤ i + 80 → i + 80 ≤ j → j - 80 ≡ i
      taken j i g h = omega arith
