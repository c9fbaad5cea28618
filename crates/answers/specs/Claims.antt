-- The mission, demands 2 and 3: what is claimed of the answer for every pair of patterns. When it is a NaN, its sign,
-- and for whole exponents the bound.
use Rattle.std.specs.Prelude.{ℕ, ◌+◌, ◌-◌, ◌*◌, ◌^◌, ◌<◌, ◌≡◌, Bool, false, not, ◌&&◌, ◌||◌, T, pos, Float}
use Rattle.std.specs.Float.{fin, binary32}
use Rattle.std.specs.Float.Ieee.{of_bits, to_bits, is_nan, lt, le}
use Rattle.floats.specs.Narrowing.{nearest_f32}
use Rattle.floats.specs.OnBits.{absolute, is_integer}
use Rattle.special.specs.Special.{one, minus_one, is_zero}
use Rattle.compound.specs.Route.{compound}
use Rattle.answers.specs.Exact.{Fraction, exact}

-- the answer for x and y
abbrev pub answer : Float → Float → Float
answer x y = (compound x y).value

-- the answer "is NaN exactly when x or y is NaN or x < -1"
unfoldable pub NanExactly : Float → Float → Type 0
NanExactly x y = is_nan (answer x y) ≡ (is_nan x || is_nan y || lt x minus_one)

-- "any other answer"
abbrev pub AnyOther : Float → Float → Type 0
AnyOther x y = T (not (is_nan (answer x y)))

-- it "has a clear sign bit": the highest of 32
unfoldable pub SignClear : Float → Float → Type 0
SignClear x y = AnyOther x y → to_bits binary32 (answer x y) < 2 ^ 31

-- "y is whole" and "1 <= |y| <= 16". `is_integer` holds of an infinity and a NaN too; the comparisons leave them out.
unfoldable pub whole_to16 : Float → Bool
whole_to16 y = is_integer y && le one (absolute y) && le (absolute y) (fin false 1 (pos 4))

-- "x nonzero and -1 < x < 2^64"
unfoldable pub x_in_range : Float → Bool
x_in_range x = not (is_zero x) && lt minus_one x && lt x (fin false 1 (pos 64))

-- the two ends of the bound: the nearest f32 to E × (1 - 2^-k), and to E × (1 + 2^-k)
abbrev pub lower_end : ℕ → Fraction → Float
lower_end k E = nearest_f32 (E.top * (2 ^ k - 1)) (E.bottom * 2 ^ k)

abbrev pub upper_end : ℕ → Fraction → Float
upper_end k E = nearest_f32 (E.top * (2 ^ k + 1)) (E.bottom * 2 ^ k)

-- r is at least the one and at most the other; demand 3 has k = 47
unfoldable pub Near : ℕ → Fraction → Float → Type 0
Near k E r = T (le (lower_end k E) r) × T (le r (upper_end k E))

-- "Where in such a line y is whole, 1 <= |y| <= 16, x nonzero and -1 < x < 2^64, the answer is at least the nearest
-- f32 to E × (1 - 2^-47) and at most the nearest f32 to E × (1 + 2^-47), E being the exact (1+x)^y." Here it is said
-- of every such pair.
unfoldable pub WholeBound : Float → Float → Type 0
WholeBound x y = T (whole_to16 y) → T (x_in_range x) → Near 47 (exact x y) (answer x y)

-- and E is a number there: its bottom is not 0
unfoldable pub ExactNumber : Float → Float → Type 0
ExactNumber x y = T (whole_to16 y) → T (x_in_range x) → 0 < (exact x y).bottom

-- all of them, for the f32s of two patterns
pub record Claims (nx ny : ℕ) : Type 0 where
  pub nan_exactly : NanExactly (of_bits binary32 nx) (of_bits binary32 ny)
  pub sign_clear : SignClear (of_bits binary32 nx) (of_bits binary32 ny)
  pub whole_bound : WholeBound (of_bits binary32 nx) (of_bits binary32 ny)
  pub exact_number : ExactNumber (of_bits binary32 nx) (of_bits binary32 ny)
