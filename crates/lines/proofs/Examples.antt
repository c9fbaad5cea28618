-- Document 01, "Batch lines and the reader's state": lines as the definitions read them, computed. Assumes nothing.
use mathlib.Core.Path.{◌≡◌, refl}
use mathlib.Core.List.{List, []}
use Prim.Native.Nat.{ℕ}
use Rattle.text.specs.Bytes.{all}
use Rattle.text.specs.Digits.{is_decimal, is_hex, digit_value, value_from, digits_value}
use Rattle.lines.specs.Format.{pair, id_digits, is_d, has_id, after_id, hex_digits, has_hex, has_x, after_x, has_y, read_line}
use Rattle.std.specs.Prelude.{Ok, Err, codes}
use Rattle.lines.specs.declared.Refusal.TheVariants.{TooLong, NoId, NoX, NoY}

-- `id=7 x=3f000000 y=40000000`
abbrev pub seven : List ℕ
seven = codes "id=7 x=3f000000 y=40000000"

-- it says its id and the patterns of 0.5 and 2
pub seven_read : read_line seven ≡ Ok (pair 7 0x3f000000 0x40000000)
unfolding all is_decimal is_hex digit_value value_from digits_value id_digits is_d has_id after_id hex_digits has_hex has_x after_x has_y read_line
seven_read = refl

-- "D is 0 to 65535 in decimal without leading zeros": `id=07 x=3f000000 y=40000000` is refused
pub leading_zero : read_line (codes "id=07 x=3f000000 y=40000000") ≡ Err NoId
unfolding all is_decimal is_hex digit_value value_from digits_value id_digits is_d has_id read_line
leading_zero = refl

-- "Lines are tried in the order 1 to 4": `id=7 x=3F000000 y=4000000` is refused for its x, and with a good x for its y
pub x_first : read_line (codes "id=7 x=3F000000 y=4000000") ≡ Err NoX
unfolding all is_decimal is_hex digit_value value_from digits_value id_digits is_d has_id after_id hex_digits has_hex has_x after_x has_y read_line
x_first = refl

pub then_y : read_line (codes "id=7 x=3f000000 y=4000000") ≡ Err NoY
unfolding all is_decimal is_hex digit_value value_from digits_value id_digits is_d has_id after_id hex_digits has_hex has_x after_x has_y read_line
then_y = refl

-- and a line of 31 bytes is refused for that, whatever it says
pub too_long : read_line (codes "id=65535 x=3f800000 y=3f0000000") ≡ Err TooLong
unfolding read_line
too_long = refl

-- "An empty line is 2"
pub empty_line : read_line [] ≡ Err NoId
unfolding has_id read_line
empty_line = refl
