-- Numbers as text: the digits of a number, and the value of digits.
use Rattle.std.specs.Prelude.{ℕ, zero, suc, ◌+◌, ◌-◌, ◌*◌, ◌/◌, ◌%◌, Bool, ◌&&◌, ◌||◌, cond, List, [], ◌∷◌, ◌++◌, ltb}
use Rattle.std.specs.Prelude.{leb}

-- the ASCII code of a digit below 16: `0` to `9`, then `a` to `f`
unfoldable pub glyph : ℕ → ℕ
glyph d = cond (ltb d 10) (48 + d) (87 + d)

-- the last k digits of n in a base, the highest first
unfoldable pub digits : ℕ → ℕ → ℕ → List ℕ
digits base zero n = []
digits base (suc k) n = digits base k (n / base) ++ (glyph (n % base) ∷ [])

-- how many decimal digits n has without leading zeros, up to k + 1
unfoldable pub places : ℕ → ℕ → ℕ
places zero n = 1
places (suc k) n = cond (ltb n 10) 1 (places k (n / 10) + 1)

-- D of a number: "in decimal without leading zeros". Ten digits hold any u32.
unfoldable pub decimal : ℕ → List ℕ
decimal n = digits 10 (places 9 n) n

-- H of a pattern: "8 [..] lowercase hexadecimal digits, highest first"
unfoldable pub hex : ℕ → List ℕ
hex n = digits 16 8 n

-- a byte that is a decimal digit
unfoldable pub is_decimal : ℕ → Bool
is_decimal b = leb 48 b && leb b 57

-- a byte that is a lowercase hexadecimal digit
unfoldable pub is_hex : ℕ → Bool
is_hex b = is_decimal b || leb 97 b && leb b 102

-- the value of a digit
unfoldable pub digit_value : ℕ → ℕ
digit_value b = cond (leb b 57) (b - 48) (b - 87)

-- the value of n followed by digits
unfoldable pub value_from : ℕ → ℕ → List ℕ → ℕ
value_from base n [] = n
value_from base n (b ∷ l) = value_from base (n * base + digit_value b) l

-- the value of digits, the highest first
unfoldable pub digits_value : ℕ → List ℕ → ℕ
digits_value base l = value_from base 0 l
