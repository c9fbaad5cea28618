-- Document 01: "entry i of LOG2P1_SCALE is 2^(29 - i) for i from 0 to 157; entry i of COMPOUNDF_EXP2_T is (i - 16)/32 for i from 0 to 32". Each
-- rule is one test, computed over the whole table, and carried from there to each entry (`carried`). So is that no entry of any table is a NaN's
-- pattern. Assumes nothing.
use mathlib.Core.Path.{◌≡◌, refl, sym, ap, ◌∙◌, subst}
use mathlib.Core.Logic.{inl, inr}
use mathlib.Core.Bool.{Bool, true, false, not, ◌&&◌, beq}
use mathlib.Core.List.{List}
use Prim.Native.Nat.{ℕ, zero, suc, ◌-◌, ◌*◌, ◌^◌, ◌<◌}
use native.Mathlib.Nat.{zero-add, eq-or-lt_of_le, le_of_suc-le-suc, not-suc-le-zero}
use lib.Dec.{T, eqb, eqb→eq}
use lib.ListN.{get_or}
use lib.Ieee.{Float, nan, inf, fin, binary64, up, down, fits, nan_bits, to_bits, of_bits}
use lib.Ieee.Bits.{of_bits-to_bits}
use lib.Ieee.Exact.{HasValue}
use lib.Ieee.Fits.{and_l, and_r}
use Rattle.std.specs.Prelude.{IsTrue, length}
use Rattle.std.specs.List.{list_all, All, range_with_len}
use Rattle.std.proofs.lemmas.Bool.{and_parts, leb-true}
use Rattle.std.proofs.lemmas.Float.{not_nan_f64_bits}
use Rattle.std.proofs.lemmas.List.Elements.{All-get_or, All-from_get_or}
use Rattle.std.proofs.lemmas.List.FromFn.{length-range_with_len, get_or-range_with_len}
use Rattle.std.proofs.lemmas.List.Sums.{AllPass-from_list_all}
use Rattle.tables.specs.Tables.{entry, is_number, is_pair, log2p1_scale, compoundf_exp2_t}
use Rattle.tables.specs.Rules.{scale_value, IsExp2T, Rules}

-- ---- a test that passes at every number below n
abbrev pub passes_below : ℕ → (ℕ → Bool) → Bool
passes_below zero test = true
passes_below (suc n) test = passes_below n test && test n

-- passes at each of them
pub carried : (n : ℕ) (test : ℕ → Bool) → T (passes_below n test) → (i : ℕ) → i < n → T (test i)
carried zero test t i h = absurd (not-suc-le-zero h)
carried (suc n) test t i h =
    elim (eq-or-lt_of_le (le_of_suc-le-suc h)) [
      | inl e ↦ subst (λ (k : ℕ). T (test k)) (sym e) (and_r (passes_below n test) (test n) t)
      | inr l ↦ carried n test (and_l (passes_below n test) (test n) t) i l
    ]

-- ---- LOG2P1_SCALE
-- its patterns: the exponent's field goes down from 1052, and the digits are 0
pub scale_pattern : (i : ℕ) → i < 158 → get_or log2p1_scale i 0 ≡ (1052 - i) * 2 ^ 52
unfolding log2p1_scale
scale_pattern i h = eqb→eq (get_or log2p1_scale i 0) ((1052 - i) * 2 ^ 52) (carried 158 (λ (k : ℕ). eqb (get_or log2p1_scale k 0) ((1052 - k) * 2 ^ 52)) tt i h)

-- its values: 2^(29 - i)
pub scale_rule : (i : ℕ) → i < 158 → entry log2p1_scale i ≡ scale_value i
unfolding entry log2p1_scale fits to_bits
scale_rule i h =
    let x = scale_value in
    let t = carried 158 (λ (k : ℕ). fits binary64 (x k) && eqb (get_or log2p1_scale k 0) (to_bits binary64 (x k))) tt i h in
    ap (of_bits binary64) (eqb→eq (get_or log2p1_scale i 0) (to_bits binary64 (x i)) (and_r (fits binary64 (x i)) (eqb (get_or log2p1_scale i 0) (to_bits binary64 (x i))) t))
    ∙ of_bits-to_bits binary64 (x i) (and_l (fits binary64 (x i)) (eqb (get_or log2p1_scale i 0) (to_bits binary64 (x i))) t)

-- ---- COMPOUNDF_EXP2_T
-- x is a / c with the sign s, as a test
abbrev has_value : Float → Bool → ℕ → ℕ → Bool
has_value nan s a c = false
has_value (inf t) s a c = false
has_value (fin t m e) s a c = beq t s && eqb (m * up e * c) (a * down e)

value_of_test : (x : Float) (s : Bool) (a c : ℕ) → T (has_value x s a c) → HasValue x s a c
value_of_test nan s a c t = t
value_of_test (inf u) s a c t = t
value_of_test (fin u m e) s a c t = (same u s (and_l (beq u s) (eqb (m * up e * c) (a * down e)) t), eqb→eq (m * up e * c) (a * down e) (and_r (beq u s) (eqb (m * up e * c) (a * down e)) t))
  where
    same : (u s : Bool) → T (beq u s) → u ≡ s
    same true true t = refl
    same true false t = absurd t
    same false true t = absurd t
    same false false t = refl

-- the values of a table, tested over the whole of it
by_test : (n : ℕ) (x : ℕ → Float) (s : ℕ → Bool) (a : ℕ → ℕ) (c : ℕ) → T (passes_below n (λ (k : ℕ). has_value (x k) (s k) (a k) c)) → (i : ℕ) → i < n → HasValue (x i) (s i) (a i) c
by_test n x s a c t i h = value_of_test (x i) (s i) (a i) c (carried n (λ (k : ℕ). has_value (x k) (s k) (a k) c) t i h)

-- its values: (i - 16)/32, exactly
pub exp2t_rule : (i : ℕ) → i < 33 → IsExp2T i (entry compoundf_exp2_t i)
unfolding entry compoundf_exp2_t of_bits
exp2t_rule = by_test 33 (entry compoundf_exp2_t) _ _ _ tt

-- ---- both
-- what holds of each number below n holds of all of them
over_all : (n : ℕ) (P : ℕ → Type 0) → ((i : ℕ) → i < n → P i) → All P (range_with_len 0 n)
over_all n P holds =
    All-from_get_or P (range_with_len 0 n) 0
    (λ i h. let k : i < n = rw length-range_with_len at h in rw (get_or-range_with_len 0 n i 0 k, zero-add) (holds i k))

pub rules : Rules
unfolding log2p1_scale compoundf_exp2_t
rules = record {
  scale = over_all 158 (λ i. entry log2p1_scale i ≡ scale_value i) scale_rule;
  scale_length = refl;
  exp2_t = over_all 33 (λ i. IsExp2T i (entry compoundf_exp2_t i)) exp2t_rule;
  exp2_t_length = refl;
}

-- ---- all tables
-- no pattern is a NaN's, so that each is read as it stands
pub number_at : (table : List ℕ) (i : ℕ) → IsTrue (list_all is_number table) → i < length table → T (not (nan_bits binary64 (get_or table i 0)))
number_at table i t h = not_nan_f64_bits _ (leb-true _ _ (All-get_or (λ p. IsTrue (is_number p)) table i 0 h (AllPass-from_list_all is_number table t)))

-- nor is either half of a pair
pub pair_at : (table : List (ℕ × ℕ)) (i : ℕ) → IsTrue (list_all is_pair table) → i < length table
    → T (not (nan_bits binary64 (get_or table i (0, 0)).0)) × T (not (nan_bits binary64 (get_or table i (0, 0)).1))
pair_at table i t h =
    let b = and_parts _ _ (All-get_or (λ p. IsTrue (is_pair p)) table i (0, 0) h (AllPass-from_list_all is_pair table t)) in
    (not_nan_f64_bits _ (leb-true _ _ b.0), not_nan_f64_bits _ (leb-true _ _ b.1))
