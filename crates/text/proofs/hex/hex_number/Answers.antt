-- `hex_number` meets its contract: each step on the word has room, and they come to the number. Assumes nothing.
use mathlib.Core.Path.{subst, sym}
use Prim.Native.Nat.{ℕ, ◌^◌, ◌≤◌, ◌<◌}
use native.Mathlib.Omega.{arith}
use Rattle.text.proofs.Numerals.{sixteen, value_below}
use Rattle.text.proofs.Words.{digits_of, digits_small, eight_digits}
use Rattle.text.proofs.hex.hex_number.Goals as goal
use Rattle.text.proofs.hex.hex_number.Goals.{After-from_le_bytes-w}

-- the values of the digits have room
small : (c : After-from_le_bytes-w) → digits_of c.from_le_bytes-w.result ≤ 0x0f0f0f0f0f0f0f0f
small c = digits_small _ _ c.from_le_bytes-w.ensures c.told-digits c.requires

pub overflow_add-pairs : goal.overflow_add-pairs
overflow_add-pairs c = let h = small (goal.at.overflow_add-pairs c).After-from_le_bytes-w in record { fits = omega arith }

pub overflow_mul-pairs : goal.overflow_mul-pairs
overflow_mul-pairs c = let h = small (goal.at.overflow_mul-pairs c).After-from_le_bytes-w in record { fits = omega arith }

pub returns : goal.returns
returns c = eight_digits _ _ c.from_le_bytes-w.ensures c.told-digits c.requires

-- eight digits are a u32
pub overflow_cast-result : goal.overflow_cast-result
overflow_cast-result c = record { fits = subst (λ (n : ℕ). n < 2 ^ 32) (sym (returns c)) (value_below sixteen 8 _ c.told-digits c.requires) }
