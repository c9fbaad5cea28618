-- Document 01, "Traps for the translator": "an index below 0 reads entry 0 and one above 32 reads entry 32, and in
-- the scaling a k past 1000 or -1000 counts as that end and a NaN k as 0; no pair is known to get there." Here it is
-- said that none does, and that no t is a NaN.
use Rattle.std.specs.Prelude.{ℕ, ◌≤◌, ◌≡◌, false, not, T, pos, Float}
use Rattle.std.specs.Float.{fin, binary32}
use Rattle.std.specs.Float.Ieee.{of_bits, is_nan, le}
use Rattle.floats.specs.Operations.{◌⊖◌, ◌⊗◌}
use Rattle.floats.specs.Narrowing.{nearest_whole}
use Rattle.floats.specs.OnBits.{absolute}
use Rattle.double_double.specs.declared.DoubleDouble.{DoubleDouble}
use Rattle.double_double.specs.DoubleDouble.{from_exact_add, quick_mult_f64}
use Rattle.compound.specs.declared.Route.TheVariants.{Slow as slow}
use Rattle.special.specs.Special.{is_rule}
use Rattle.fast_path.specs.Fast.{compoundf_log2p1_fast, power_place}
use Rattle.slow_path.specs.Slow.{compoundf_log2p1_accurate}
use Rattle.compound.specs.Route.{compound}

-- x and y are not of the route `rule`
abbrev pub PastRule : Float → Float → Type 0
PastRule x y = is_rule x y ≡ false

-- t = l×y of the table path is no NaN there. So each comparison of document 01 with t says what it says of numbers.
unfoldable pub TNumber : Float → Float → Type 0
TNumber x y = PastRule x y → T (not (is_nan (compoundf_log2p1_fast x ⊗ y)))

-- x and y are of the route `slow`
abbrev pub OnSlow : Float → Float → Type 0
OnSlow x y = (compound x y).via ≡ slow

-- the exponent of the slow path, near y×log2(1 + x), and its k: what `exp2_accurate` in slow_path/specs/Slow.antt
-- makes of it
abbrev pub slow_exponent : Float → Float → DoubleDouble
slow_exponent x y = quick_mult_f64 (compoundf_log2p1_accurate x) y

abbrev pub slow_k : Float → Float → Float
slow_k x y = nearest_whole (slow_exponent x y).hi

-- what is left of the exponent, with lo added to it: the r that `exp2_away` there takes the index of
abbrev pub slow_rest : Float → Float → Float
slow_rest x y = (from_exact_add ((slow_exponent x y).hi ⊖ slow_k x y) (slow_exponent x y).lo).hi

-- On the route `slow` the index is from 0 to 32 before any cut: index 0 is place 0x10010 (`power_index` in
-- fast_path/specs/Fast.antt).
unfoldable pub IndexInside : Float → Float → Type 0
IndexInside x y = OnSlow x y → (0x10010 ≤ power_place (slow_rest x y)) × (power_place (slow_rest x y) ≤ 0x10030)

-- On the route `slow` k is a number of at most 1000 in size. `le` is false at a NaN.
unfoldable pub KInside : Float → Float → Type 0
KInside x y = OnSlow x y → T (le (absolute (slow_k x y)) (fin false 125 (pos 3)))

-- all three, for the f32s of two patterns
pub record Reached (nx ny : ℕ) : Type 0 where
  pub t_number : TNumber (of_bits binary32 nx) (of_bits binary32 ny)
  pub index_inside : IndexInside (of_bits binary32 nx) (of_bits binary32 ny)
  pub k_inside : KInside (of_bits binary32 nx) (of_bits binary32 ny)
