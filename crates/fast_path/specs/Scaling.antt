-- Document 01, "Table path": "the power of two is added to the pattern's exponent field, wrapping"; and what the
-- source takes from that field before it takes a logarithm.
use Rattle.std.specs.Prelude.{ℕ, suc, ◌+◌, ◌-◌, ◌*◌, ◌/◌, ◌%◌, ◌^◌, cond, ℤ, pos, negsuc, nat_le}
use Rattle.std.specs.Float.Ieee.{minus}

-- v + k×2^52, wrapping at 2^64. To take 2^52 away is to add 2^64 - 2^52.
unfoldable pub scaled : ℕ → ℤ → ℕ
scaled v (pos k) = (v + k * 2 ^ 52) % 2 ^ 64
scaled v (negsuc k) = (v + suc k * (2 ^ 64 - 2 ^ 52)) % 2 ^ 64

-- the exponent's field of the pattern v, one more where the digits are those of sqrt(2) or above
unfoldable pub biased : ℕ → ℕ
biased v = v / 2 ^ 52 + cond (nat_le 0x6a09e667f3bcd (v % 2 ^ 52)) 1 0

-- the source's e: 2^e/sqrt(2) < u < 2^e×sqrt(2) for the u of the pattern v
unfoldable pub exponent_of : ℕ → ℤ
exponent_of v = minus (biased v) 0x3ff
