-- Document 01, "Widening, narrowing, nearest whole". Each is fixed by its value for every pattern. Widening needs no
-- definition: an f32 and the f64 of the same value are the same `Float`.
use Rattle.std.specs.Prelude.{◌≡◌, ℕ, ◌-◌, ◌*◌, ◌^◌, ◌<◌, ◌≤◌, false, T, from_bits, Float}
use Rattle.std.specs.Float.{nan, inf, fin, binary32, binary64}
use Rattle.std.specs.Float.Ieee.{up, down, round}
use Rattle.std.specs.Float.Ieee.Nearest.{closest}
use Rattle.std.specs.Float.Ieee.Scale.{finite}

-- "Narrowing f64 to f32 is nearest, ties to even, with subnormals and overflow to infinity": the exact value, rounded
-- once to binary32
unfoldable pub narrowed : Float → Float
narrowed nan = nan
narrowed (inf s) = inf s
narrowed (fin s m e) = round binary32 s (m * up e) (down e)

-- "Nearest f32 to a positive fraction, as in demand 3, is the same rule over whole numbers": to a / c
unfoldable pub nearest_f32 : ℕ → ℕ → Float
nearest_f32 a c = round binary32 false a c

-- "from 2^128 - 2^103 up it is infinity", and below that it is finite
abbrev pub infinite_from : ℕ
infinite_from = 2 ^ 128 - 2 ^ 103

-- a / c is at that end or above it, or below it
abbrev pub FromEnd : ℕ → ℕ → Type 0
FromEnd a c = (0 < c) × (infinite_from * c ≤ a)

abbrev pub BelowEnd : ℕ → ℕ → Type 0
BelowEnd a c = (0 < c) × (a < infinite_from * c)

-- Neither is empty, at the end or away from it: the end itself, 2^128 and a third of 2^200; half of 1 below the end,
-- whose nearest f32 is the largest, 0 and a third.
pub record NearestF32Ends : Type 0 where
  pub infinite : (a c : ℕ) → FromEnd a c → nearest_f32 a c ≡ inf false
  pub finite_below : (a c : ℕ) → BelowEnd a c → T (finite (nearest_f32 a c))
  pub from_end : FromEnd infinite_from 1 × FromEnd (2 ^ 128) 1 × FromEnd (2 ^ 200) 3
  pub below_end : BelowEnd (2 * infinite_from - 1) 2 × BelowEnd 0 1 × BelowEnd 1 3
  pub largest : nearest_f32 (2 * infinite_from - 1) 2 ≡ from_bits binary32 0x7f7fffff

-- "`round_ties_even` gives the nearest whole f64, ties to even, and keeps the sign of zero": the whole number nearest
-- to the exact value, with the value's sign. An f64 holds that number (`nearest_whole_exact` in
-- proofs/Laws/Whole.antt), so `round` changes nothing.
unfoldable pub nearest_whole : Float → Float
nearest_whole nan = nan
nearest_whole (inf s) = inf s
nearest_whole (fin s m e) = round binary64 s (closest (m * up e) (down e)) 1
