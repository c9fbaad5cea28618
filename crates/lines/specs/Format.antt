-- Document 01, "Batch lines and the reader's state": the input line, without its line feed, and the refusals 1 to 4.
use Rattle.std.specs.Prelude.{ℕ, ◌+◌, ◌≤◌, ◌<◌, ◌^◌, ◌≡◌, Bool, not, ◌&&◌, ◌||◌, cond, List, ◌∷◌, ◌++◌, Result, Ok, Err}
use Rattle.std.specs.Prelude.{codes, eqb, ltb, leb, length, take, drop, get_or}
use Rattle.std.specs.List.{starts_with, take_while}
use Rattle.text.specs.Bytes.{all}
use Rattle.text.specs.Digits.{decimal, hex, is_decimal, is_hex, digits_value}
use Rattle.lines.specs.declared.Pair.{Pair}
use Rattle.lines.specs.declared.Refusal.{Refusal}
use Rattle.lines.specs.declared.Refusal.TheVariants.{TooLong, NoId, NoX, NoY}

-- "The longest line has 30 bytes before its feed."
abbrev pub longest : ℕ
longest = 30

-- "D is 0 to 65535"
abbrev pub largest_id : ℕ
largest_id = 65535

-- `id=`, `x=`, `y=`
abbrev pub id_key : List ℕ
id_key = codes "id="

abbrev pub x_key : List ℕ
x_key = codes "x="

abbrev pub y_key : List ℕ
y_key = codes "y="

-- a space
abbrev pub space : ℕ
space = 32

-- "An input line is `id=D x=H y=H`": the line that says d, x and y
unfoldable pub line_of : ℕ → ℕ → ℕ → List ℕ
line_of d x y = id_key ++ decimal d ++ (space ∷ x_key) ++ hex x ++ (space ∷ y_key) ++ hex y

-- the digits that follow `id=`
unfoldable pub id_digits : List ℕ → List ℕ
id_digits l = take_while is_decimal (drop (length id_key) l)

-- digits that are a D: "0 to 65535 in decimal without leading zeros". 48 is `0`.
unfoldable pub is_d : List ℕ → Bool
is_d ds =
    ltb 0 (length ds) && (eqb (length ds) 1 || not (eqb (get_or ds 0 0) 48)) && leb (digits_value 10 ds) largest_id

-- whether a line begins with "`id=`, D, a space"; and what follows these
unfoldable pub has_id : List ℕ → Bool
has_id l =
    starts_with eqb l id_key && is_d (id_digits l) && eqb (get_or l (length id_key + length (id_digits l)) 0) space

unfoldable pub after_id : List ℕ → List ℕ
after_id l = drop (length id_key + length (id_digits l) + 1) l

-- the eight bytes that follow a key, and whether they are an H
unfoldable pub hex_digits : List ℕ → List ℕ → List ℕ
hex_digits key l = take 8 (drop (length key) l)

unfoldable pub has_hex : List ℕ → List ℕ → Bool
has_hex key l = starts_with eqb l key && eqb (length (hex_digits key l)) 8 && all is_hex (hex_digits key l)

-- whether what follows begins with "`x=`, H, a space"; and what follows these
unfoldable pub has_x : List ℕ → Bool
has_x l = has_hex x_key l && eqb (get_or l (length x_key + 8) 0) space

unfoldable pub after_x : List ℕ → List ℕ
after_x l = drop (length x_key + 8 + 1) l

-- whether the rest is "just `y=`, H"
unfoldable pub has_y : List ℕ → Bool
has_y l = has_hex y_key l && eqb (length l) (length y_key + 8)

-- an id and two patterns, as a line says them
abbrev pub pair : ℕ → ℕ → ℕ → Pair
pair d x y = record { id = d; x = x; y = y }

-- what the three fields of a line say
abbrev pub pair_said : List ℕ → Pair
pair_said l =
    pair (digits_value 10 (id_digits l))
    (digits_value 16 (hex_digits x_key (after_id l)))
    (digits_value 16 (hex_digits y_key (after_x (after_id l))))

-- what a line says, or why it is refused: "Lines are tried in the order 1 to 4"
unfoldable pub read_line : List ℕ → Result Pair Refusal
read_line l =
    cond (ltb longest (length l)) (Err TooLong)
    (cond (not (has_id l)) (Err NoId)
    (cond (not (has_x (after_id l))) (Err NoX)
    (cond (not (has_y (after_x (after_id l)))) (Err NoY)
    (Ok (pair_said l)))))

-- the numbers of the refusals
unfoldable pub refusal_number : Refusal → ℕ
refusal_number TooLong = 1
refusal_number NoId = 2
refusal_number NoX = 3
refusal_number NoY = 4

-- what D and H can say: an id up to the largest, and two patterns of 32 bits
pub record InRange (d x y : ℕ) : Type 0 where
  pub id_range : d ≤ largest_id
  pub x_range : x < 2 ^ 32
  pub y_range : y < 2 ^ 32

-- both directions of the format: every line of it is accepted with its values, and nothing else is
pub record Format : Type 0 where
  pub accepted : (d x y : ℕ) → InRange d x y → read_line (line_of d x y) ≡ Ok (pair d x y)
  pub nothing_else : (l : List ℕ) (d x y : ℕ) → read_line l ≡ Ok (pair d x y) → (l ≡ line_of d x y) × InRange d x y
