-- A claim with a condition says nothing if the condition never holds. So each condition of Claims.antt and
-- Reached.antt, and those of the table path, is computed here: it holds at pairs that are listed, and those that are
-- tests of x or y fail at others beside them.
use Rattle.std.specs.Prelude.{ℕ, ◌≡◌, List, [], ◌∷◌, map, Bool, true, not, ◌&&◌, Option, Some, None, Float}
use Rattle.std.specs.List.{list_all}
use Rattle.std.specs.Float.{binary32}
use Rattle.std.specs.Float.Ieee.{of_bits, is_nan}
use Rattle.special.specs.Special.{zero, one, is_rule}
use Rattle.special.specs.Operands.{Tabled}
use Rattle.fast_path.specs.Fast.{HasInverse, HasPower}
use Rattle.filter.specs.declared.Found.{Found}
use Rattle.filter.specs.Plain.{filtered}
use Rattle.compound.specs.declared.Route.TheVariants.{Whole as whole}
use Rattle.compound.specs.Starred.{Row, row, defined, stated}
use Rattle.answers.specs.Exact.{exact}
use Rattle.answers.specs.Claims.{whole_to16, x_in_range, lower_end, upper_end, answer, AnyOther}
use Rattle.answers.specs.Reached.{PastRule, OnSlow}

-- the f32 of a pattern
abbrev pub f32 : ℕ → Float
f32 n = of_bits binary32 n

-- the test passes at each pattern, and at none
abbrev pub AtEach : (Float → Bool) → List ℕ → Type 0
AtEach test ns = list_all (λ n. test (f32 n)) ns ≡ true

abbrev pub AtNone : (Float → Bool) → List ℕ → Type 0
AtNone test ns = AtEach (λ x. not (test x)) ns

-- ---- "y is whole, 1 <= |y| <= 16"
-- all 32 of them: 1 to 16, and -1 to -16
abbrev pub whole_ys : List ℕ
whole_ys =
    0x3f800000 ∷ 0x40000000 ∷ 0x40400000 ∷ 0x40800000 ∷ 0x40a00000 ∷ 0x40c00000 ∷ 0x40e00000 ∷ 0x41000000 ∷
    0x41100000 ∷ 0x41200000 ∷ 0x41300000 ∷ 0x41400000 ∷ 0x41500000 ∷ 0x41600000 ∷ 0x41700000 ∷ 0x41800000 ∷
    0xbf800000 ∷ 0xc0000000 ∷ 0xc0400000 ∷ 0xc0800000 ∷ 0xc0a00000 ∷ 0xc0c00000 ∷ 0xc0e00000 ∷ 0xc1000000 ∷
    0xc1100000 ∷ 0xc1200000 ∷ 0xc1300000 ∷ 0xc1400000 ∷ 0xc1500000 ∷ 0xc1600000 ∷ 0xc1700000 ∷ 0xc1800000 ∷ []

-- 17, -17, the next f32 above 16, 1/2, -1/2, 3/2, the two zeros, the two infinities, the NaN
abbrev pub other_ys : List ℕ
other_ys =
    0x41880000 ∷ 0xc1880000 ∷ 0x41800001 ∷ 0x3f000000 ∷ 0xbf000000 ∷ 0x3fc00000 ∷ 0x00000000 ∷ 0x80000000 ∷
    0x7f800000 ∷ 0xff800000 ∷ 0x7fc00000 ∷ []

-- ---- "x nonzero and -1 < x < 2^64"
-- 1/2, the largest f32 below 2^64, the least above -1, the two next to 0; and losses of 0.02 %, 0.05 % and 1 %, a
-- growth of 10 %, -1/2, -2^-20 and -2^-30
abbrev pub xs_in_range : List ℕ
xs_in_range =
    0x3f000000 ∷ 0x5f7fffff ∷ 0xbf7fffff ∷ 0x00000001 ∷ 0x80000001 ∷
    0xb951b717 ∷ 0xba03126f ∷ 0xbc23d70a ∷ 0x3dcccccd ∷ 0xbf000000 ∷ 0xb5800000 ∷ 0xb0800000 ∷ []

-- 2^64, -1, -2, the two zeros, the two infinities, the NaN
abbrev pub other_xs : List ℕ
other_xs = 0x5f800000 ∷ 0xbf800000 ∷ 0xc0000000 ∷ 0x00000000 ∷ 0x80000000 ∷ 0x7f800000 ∷ 0xff800000 ∷ 0x7fc00000 ∷ []

-- ---- the bound
-- pairs that it speaks of, each with the answer, and its route
abbrev pub bounded : List Row
bounded =
    row 0x3f000000 0x40000000 0x40100000 whole ∷
    row 0x3f800000 0xc1800000 0x37800000 whole ∷
    row 0x5f7fffff 0x3f800000 0x5f7fffff whole ∷
    row 0x5f7fffff 0x41800000 0x7f800000 whole ∷
    row 0x5f7fffff 0xc1800000 0x00000000 whole ∷
    row 0x5f000000 0x41800000 0x7f800000 whole ∷
    row 0x5f000000 0xc1800000 0x00000000 whole ∷
    row 0xbf7fffff 0x3f800000 0x33800000 whole ∷
    row 0xbf7fffff 0xc1800000 0x7f800000 whole ∷
    row 0x00000001 0x41800000 0x3f800000 whole ∷
    row 0x80000001 0xbf800000 0x3f800000 whole ∷
    row 0xbc23d70a 0x41200000 0x3f678595 whole ∷ []

-- whether it speaks of a row
abbrev pub is_bounded : Row → Bool
is_bounded w = whole_to16 (f32 w.y) && x_in_range (f32 w.x)

-- its two ends at a row
abbrev pub ends : Row → Float × Float
ends w = (lower_end 47 (exact (f32 w.x) (f32 w.y)), upper_end 47 (exact (f32 w.x) (f32 w.y)))

-- both are the row's answer
abbrev pub answer_twice : Row → Float × Float
answer_twice w = (f32 w.r, f32 w.r)

-- ---- "any other answer"
-- x < -1, and a NaN on either side: here it is none
abbrev pub nan_answers : List (ℕ × ℕ)
nan_answers = (0xbf800001, 0x40000000) ∷ (0x7fc00000, 0x40000000) ∷ (0x3f000000, 0x7fc00000) ∷ []

abbrev pub is_nan_at : (ℕ × ℕ) → Bool
is_nan_at p = is_nan (answer (f32 p.0) (f32 p.1))

-- ---- what the filter finds: each of its cases, and none
abbrev pub found_at : (ℕ × ℕ) → Option Found
found_at p = filtered (f32 p.0) (f32 p.1)

abbrev pub filtered_pairs : List ((ℕ × ℕ) × Option Found)
filtered_pairs =
    ((0x3f800000, 0x3e800000), Some (Found.Fast (f32 0x3f9837f0))) ∷
    ((0x3f800000, 0xc3150000), Some Found.Slow) ∷
    ((0x3f800000, 0xc3180000), Some Found.Low) ∷
    ((0x3f800000, 0x43020000), Some Found.High) ∷
    ((0x21800000, 0x5d800000), Some Found.One) ∷
    ((0x3f800000, 0xc3160000), None) ∷ []

-- ---- all of them
pub record Witnesses : Type 0 where
  pub y_whole : AtEach whole_to16 whole_ys
  pub y_other : AtNone whole_to16 other_ys
  pub x_in : AtEach x_in_range xs_in_range
  pub x_out : AtNone x_in_range other_xs
  pub bound_asked : list_all is_bounded bounded ≡ true
  pub bound_answers : map defined bounded ≡ map stated bounded
  pub bound_ends : map ends bounded ≡ map answer_twice bounded
  -- one of each route: `whole`, `rule`, `edge`, `fast`, `slow`; and x < -1, a NaN on either side
  pub other : AnyOther (f32 0x3f000000) (f32 0x40000000) × AnyOther (f32 0xbf800000) (f32 0x3f800000)
      × AnyOther (f32 0x3f800000) (f32 0x43000000) × AnyOther (f32 0xb951b717) (f32 0x43fa0000)
      × AnyOther (f32 0x3f800000) (f32 0xc3150000)
  pub no_other : list_all is_nan_at nan_answers ≡ true
  -- one of each route past `rule`: `whole`, `edge`, `fast`, `slow`; and a pair with a NaN
  pub past_rule : PastRule (f32 0x3f000000) (f32 0x40000000) × PastRule (f32 0x21800000) (f32 0x5d800000)
      × PastRule (f32 0xb951b717) (f32 0x43fa0000) × PastRule (f32 0x3f800000) (f32 0xc3150000)
  pub not_past_rule : is_rule (f32 0x3f000000) (f32 0x7fc00000) ≡ true
  -- a subnormal answer; one whose k is past 150; next to a midpoint with y above 0; a loss of 0.6 % with y above 0
  pub on_slow : OnSlow (f32 0x3f800000) (f32 0xc3150000) × OnSlow (f32 0x25bfffff) (f32 0xdcce6666)
      × OnSlow (f32 0x3f800001) (f32 0x41880000) × OnSlow (f32 0xbbd201d8) (f32 0x4656a9bb)
  -- the table path and its two indices
  pub tabled : Tabled (f32 0x3f800000) (f32 0x3f000000)
  pub has_inverse : HasInverse one
  pub has_power : HasPower zero
  pub found : map (λ p. found_at p.0) filtered_pairs ≡ map (λ p. p.1) filtered_pairs
