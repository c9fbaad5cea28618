-- 1 + x for an x above -1: its sign is clear, and it is no NaN; and for a finite binary32 x its pattern is that of a value from 2^-24
-- to 2^128 (`sum_bits`). Assumes nothing.
use Rattle.std.proofs.Common.{◌≡◌, ℕ, ◌+◌, ◌-◌, ◌*◌, ◌^◌, ◌<◌, ◌≤◌, Bool, true, false, cond, not, T, ltb, ◌⊎◌, ℤ, pos, negsuc, sym, refl, ap, ◌∙◌, subst, inl, inr, lt_trans, le_of_eq, lt_of_lt_of_le, le_of_suc-le-suc, lt_of_le_of_lt, eq-or-lt_of_le, mul-pos, mul-one, le-add_left, arith, lit<, ltb→lt, lt→ltb}
use lib.Ieee.{Float, nan, inf, fin, Format, binary32, binary64, up, down, round, sum, add, level, le, lt, fits, to_bits, of_bits, is_nan}
use lib.Ieee.Bits.{of_bits-to_bits}
use lib.Ieee.Fits.{add-fits, down_pos}
use lib.Ieee.Scale.{finite}
use Rattle.floats.specs.Operations.{f64}
use Rattle.floats.proofs.Laws.Magnitude.{inf_under_top}
use Rattle.floats.proofs.Laws.Order.{clear, round_clear, le_below, or_l, pattern_mono, order_of_patterns}
use Rattle.floats.proofs.Laws.Sums.{add_mono}
use Rattle.floats.proofs.Laws.Units.{bits_under_top, fits_digits}
use Rattle.special.specs.Special.{one, minus_one}
pub use Rattle.fast_path.proofs.Index.{reduced_number, reduced_index, reduced_below}
use Rattle.fast_path.proofs.Index.{pattern_between}

-- ---- the sign of 1 + x
pub sum_clear : (f : Format) (s : Bool) (m : ℕ) (e : ℤ) → T (lt minus_one (fin s m e)) → T (clear (add f one (fin s m e)))
unfolding add sum lt
sum_clear f false m e h = round_clear f (1 * 1 * down e + m * up e * 1) (1 * down e)
sum_clear f true m e h = go (ltb (1 * 1 * down e) (m * up e * 1)) (ltb→lt (1 * 1 * down e) (m * up e * 1)) (ltb→lt (m * up e * 1) (1 * 1 * down e) h)
  where
    no : (a b : ℕ) → a < b → b < a → ⊥
    no a b g k = omega arith

    go : (u : Bool) → (T u → 1 * 1 * down e < m * up e * 1) → m * up e * 1 < 1 * 1 * down e
        → T (clear (cond u (round f true (m * up e * 1 - 1 * 1 * down e) (1 * down e)) (round f false (1 * 1 * down e - m * up e * 1) (1 * down e))))
    go true g k = absurd (no (1 * 1 * down e) (m * up e * 1) (g tt) k)
    go false g k = round_clear f (1 * 1 * down e - m * up e * 1) (1 * down e)

-- x > -1, +infinity included: the sign's bit of 1 + x is clear
pub one_plus_clear : (x : Float) → T (fits binary64 x) → T (lt minus_one x) → to_bits binary64 (add binary64 one x) < 2 ^ 63
unfolding lt add to_bits
one_plus_clear nan f h = absurd h
one_plus_clear (inf true) f h = absurd h
one_plus_clear (inf false) f h = lit< tt
one_plus_clear (fin s m e) f h = under (add binary64 one (fin s m e)) (add-fits binary64 one (fin s m e)) (sum_clear binary64 s m e h)
  where
    under : (y : Float) → T (fits binary64 y) → T (clear y) → to_bits binary64 y < 2 ^ 63
    under nan f c = absurd c
    under (inf true) f c = absurd c
    under (inf false) f c = inf_under_top binary64
    under (fin true m e) f c = absurd c
    under (fin false m e) f c = bits_under_top binary64 m e f

-- and is no NaN
pub one_plus_number : (x : Float) → T (lt minus_one x) → T (not (is_nan (add binary64 one x)))
unfolding lt add is_nan
one_plus_number nan h = absurd h
one_plus_number (inf true) h = absurd h
one_plus_number (inf false) h = tt
one_plus_number (fin s m e) h = number (add binary64 one (fin s m e)) (sum_clear binary64 s m e h)
  where
    number : (y : Float) → T (clear y) → T (not (is_nan y))
    number nan c = absurd c
    number (inf s) c = tt
    number (fin s m e) c = tt

-- ---- what proves `log2p1`
-- what the code has for 1
pub is_1 : f64 0x3ff0000000000000 ≡ one
unfolding of_bits
is_1 = refl

pub ruleset one_plus = (is_1, one_plus_clear, one_plus_number, reduced_number, reduced_index, reduced_below)

-- ---- the least binary32 above -1, 2^-24 - 1, and the largest, 2^128 - 2^104
abbrev least : Float
least = fin true 16777215 (negsuc 23)

abbrev largest : Float
largest = fin false 16777215 (pos 104)

-- a / d is below 1, and its digits are 24 at most
under_least : (a d : ℕ) → a < d → a < 2 ^ 24 → a * 16777216 ≤ 16777215 * 1 * d
under_least a d h g = omega arith

pub digits_below : (m : ℕ) (e : ℤ) → m < 2 ^ 24 → m * up e < down e → m * up e < 2 ^ 24
digits_below m (pos k) g h = lt_trans h (lit< tt)
digits_below m (negsuc k) g h = lt_of_le_of_lt (le_of_eq (mul-one m)) g

above_least : (x : Float) → T (fits binary32 x) → T (lt minus_one x) → T (le least x)
unfolding lt le
above_least nan f h = absurd h
above_least (inf true) f h = absurd h
above_least (inf false) f h = tt
above_least (fin true m e) f h =
    let k = unit (m * up e) (down e) (ltb→lt (m * up e * 1) (1 * 1 * down e) h) in
    le_below (16777215 * 1 * down e) (m * up e * 16777216) (under_least (m * up e) (down e) k (digits_below m e (fits_digits binary32 true m e f) k))
  where
    unit : (a d : ℕ) → a * 1 < 1 * 1 * d → a < d
    unit a d h = omega arith
above_least (fin false m e) f h =
    or_l (ltb 0 (16777215 * 1 * down e + m * up e * 16777216)) (level true (16777215 * 1 * down e) false (m * up e * 16777216))
    (lt→ltb 0 (16777215 * 1 * down e + m * up e * 16777216) (some (down e) (m * up e) (down_pos e)))
  where
    some : (d a : ℕ) → 0 < d → 0 < 16777215 * 1 * d + a * 16777216
    some d a h = omega arith

below_largest : (x : Float) → T (fits binary32 x) → T (finite x) → T (le x largest)
unfolding le fits to_bits of_bits
below_largest nan f p = absurd p
below_largest (inf s) f p = absurd p
below_largest (fin true m e) f p =
    or_l (ltb 0 (m * up e * 1 + 16777215 * 2 ^ 104 * down e)) (level true (m * up e * 1) false (16777215 * 2 ^ 104 * down e))
    (lt→ltb 0 (m * up e * 1 + 16777215 * 2 ^ 104 * down e) (lt_of_lt_of_le (mul-pos (lit< tt) (down_pos e)) (le-add_left (16777215 * 2 ^ 104 * down e) (m * up e * 1))))
below_largest (fin false m e) f p =
    order_of_patterns binary32 (fin false m e) largest tt tt f tt
    (go (eq-or-lt_of_le (pattern_mono binary32 (fin false m e) (inf false) tt tt f tt tt)))
  where
    apart : fin false m e ≡ inf false → ⊥
    apart q = subst (λ (x : Float). T (finite x)) q tt

    go : (to_bits binary32 (fin false m e) ≡ 0x7f800000) ⊎ (to_bits binary32 (fin false m e) < 0x7f800000) → to_bits binary32 (fin false m e) ≤ 0x7f7fffff
    go (inl q) = absurd (apart (sym (of_bits-to_bits binary32 (fin false m e) f) ∙ ap (of_bits binary32) q))
    go (inr q) = le_of_suc-le-suc q

-- ---- the pattern of 1 + x for a finite binary32 x above -1
abbrev pub InScale : ℕ → Type 0
InScale v = (999 * 2 ^ 52 ≤ v) × (v < 1151 * 2 ^ 52)

-- the sum is from 2^-24 to 2^128 - 2^104
pub sum_bits : (x : Float) → T (fits binary32 x) → T (finite x) → T (lt minus_one x) → InScale (to_bits binary64 (add binary64 one x))
unfolding add fits to_bits
sum_bits x f p h =
    let y = add binary64 one x in
    let b = pattern_between 0 (negsuc 23) y 16777215 (pos 104) tt (add-fits binary64 one x) tt (add_mono binary64 one least x tt tt p (above_least x f h)) (add_mono binary64 one x largest tt p tt (below_largest x f p)) in
    (b.0, lt_of_le_of_lt b.1 (lit< tt))
