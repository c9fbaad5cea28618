-- The four operations on f64, as the logic's account of IEEE 754 has them, written between their operands, so that
-- definitions above can be read beside the Rust. Each is the exact result rounded once to binary64.
use Rattle.std.specs.Float.{binary64}
use Rattle.std.specs.Float.Ieee.{add, sub, mul, div}
use Rattle.std.specs.Prelude.{ℕ, from_bits, Float}

infixl 6 ◌⊕◌
infixl 6 ◌⊖◌
infixl 7 ◌⊗◌
infixl 7 ◌⊘◌
-- a + b
abbrev pub ◌⊕◌ : Float → Float → Float
a ⊕ b = add binary64 a b

-- a - b
abbrev pub ◌⊖◌ : Float → Float → Float
a ⊖ b = sub binary64 a b

-- a * b
abbrev pub ◌⊗◌ : Float → Float → Float
a ⊗ b = mul binary64 a b

-- a / b
abbrev pub ◌⊘◌ : Float → Float → Float
a ⊘ b = div binary64 a b

-- the f64 of a pattern
abbrev pub f64 : ℕ → Float
f64 n = from_bits binary64 n
