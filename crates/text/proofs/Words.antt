-- Digits that lie side by side in one number, the lowest first, and steps that act on all of them at once: a mask on each, and neighbours joined. Assumes nothing.
use mathlib.Core.Path.{◌≡◌, refl, sym, ap, ap₂, subst, ◌∙◌}
use mathlib.Core.Bool.{true}
use mathlib.Core.List.{List, [], ◌∷◌, map}
use Prim.Native.Nat.{ℕ, zero, suc, ◌+◌, ◌*◌, ◌/◌, ◌%◌, ◌^◌, ◌≤◌, ◌<◌}
use native.Mathlib.Omega.{arith}
use native.Mathlib.Nat.{mul-div_cancel, zero-lt-suc}
use mir.Syntax.{w64}
use lib.Bits.{bit_and, and_block, and_mask, and_high}
use lib.Dec.{lit<}
use lib.ListN.{length, get_or, drop, replicate, drop_of_length-le}
use lib.Seq.{drop-cons}
use Rattle.std.proofs.lemmas.Bool.Decides.{nat_tests}
use Rattle.std.specs.Int.{from_le_bytes}
use Rattle.text.specs.Bytes.{all}
use Rattle.text.specs.Digits.{is_decimal, is_hex, digit_value, digits_value, value_from}
use Rattle.text.proofs.Numerals.{both, sixteen}

-- ---- bytes read as one number
-- the number of digits in a base, the lowest first
lowest_first : ℕ → List ℕ → ℕ
lowest_first base [] = 0
lowest_first base (b ∷ l) = lowest_first base l * base + b

-- each element is below a bound
abbrev Below : ℕ → List ℕ → Type 0
Below m [] = Unit
Below m (x ∷ l) = (x < m) × Below m l

-- a mask that is the same for every digit acts on each, as f says
and_each : (k m : ℕ) (f : ℕ → ℕ) → ((x : ℕ) → bit_and x m ≡ f x) → m < 2 ^ k → (l : List ℕ) → Below (2 ^ k) l
    → bit_and (lowest_first (2 ^ k) l) (lowest_first (2 ^ k) (replicate (length l) m)) ≡ lowest_first (2 ^ k) (map f l)
unfolding lowest_first
and_each k m f e h [] b = refl
and_each k m f e h (x ∷ l) b =
    and_block k (lowest_first (2 ^ k) l) (lowest_first (2 ^ k) (replicate (length l) m)) x m b.0 h
    ∙ ap₂ (λ (y z : ℕ). y * 2 ^ k + z) (and_each k m f e h l b.1) (e x)

-- ---- hexadecimal digits turned to their values: the low half of the code, and 9 more for a letter
abbrev low : ℕ → ℕ
low b = b % 16

abbrev letter : ℕ → ℕ
letter b = b / 64 % 2

worth : (b : ℕ) → is_hex b ≡ true → low b + letter b * 9 ≡ digit_value b
unfolding is_decimal is_hex digit_value
worth b e = grind (arith, nat_tests)

byte : (b : ℕ) → is_hex b ≡ true → b < 256
unfolding is_decimal is_hex
byte b e = grind (arith, nat_tests)

bytes : (l : List ℕ) → all is_hex l ≡ true → Below 256 l
unfolding all
bytes [] h = tt
bytes (b ∷ l) h = let p = both (is_hex b) (all is_hex l) h in (byte b p.0, bytes l p.1)

letters_scaled : (l : List ℕ) → lowest_first 256 (map (λ (b : ℕ). letter b * 64) l) ≡ lowest_first 256 (map letter l) * 64
unfolding lowest_first
letters_scaled [] = refl
letters_scaled (b ∷ l) = omega (arith, letters_scaled l)

all_worth : (l : List ℕ) → all is_hex l ≡ true → lowest_first 256 (map low l) + lowest_first 256 (map letter l) * 9 ≡ lowest_first 256 (map digit_value l)
unfolding lowest_first all
all_worth [] h = refl
all_worth (b ∷ l) h = let p = both (is_hex b) (all is_hex l) h in omega (arith, all_worth l p.1, worth b p.0)

-- what is done to a word of eight digits at once, and what it gives
abbrev pub digits_of : ℕ → ℕ
digits_of w = bit_and w 0x0f0f0f0f0f0f0f0f + bit_and w 0x4040404040404040 / 64 * 9

digits_of_lem : (l : List ℕ) → length l ≡ 8 → all is_hex l ≡ true → digits_of (lowest_first 256 l) ≡ lowest_first 256 (map digit_value l)
unfolding lowest_first
digits_of_lem l e h =
    ap₂ (λ (x y : ℕ). x + y / 64 * 9)
    (ap (λ (n : ℕ). bit_and (lowest_first 256 l) (lowest_first 256 (replicate n 15))) (sym e) ∙ and_each 8 15 low (λ x. and_mask x 4) (lit< tt) l (bytes l h))
    (ap (λ (n : ℕ). bit_and (lowest_first 256 l) (lowest_first 256 (replicate n 64))) (sym e)
    ∙ and_each 8 64 (λ x. letter x * 64) (λ x. and_high x 1 6) (lit< tt) l (bytes l h)
    ∙ letters_scaled l)
    ∙ ap (λ (y : ℕ). lowest_first 256 (map low l) + y * 9) (mul-div_cancel (lowest_first 256 (map letter l)) (zero-lt-suc 63))
    ∙ all_worth l h

-- ---- neighbours joined: with each digit moved up and the next one added, every second sum is the two as one digit, and a mask keeps these
abbrev pub pairs_of : ℕ → ℕ
pairs_of v = bit_and (v * 16 + v / 256) 0x00ff00ff00ff00ff

abbrev pub fours_of : ℕ → ℕ
fours_of v = bit_and (v * 256 + v / 65536) 0x0000ffff0000ffff

-- two neighbours as one digit, and two sums side by side, of three neighbours
abbrev two : ℕ → ℕ → ℕ → ℕ
two m x y = x * m + y

abbrev sums : ℕ → ℕ → ℕ → ℕ → ℕ
sums m x y z = two m x y + two m y z * (m * m)

-- the first of the two sums
first_sum : (x y z : ℕ) → two 16 x y < 256 → sums 16 x y z % 256 ≡ two 16 x y
first_sum x y z h = omega arith

first_sum_256 : (x y z : ℕ) → two 256 x y < 65536 → sums 256 x y z % 65536 ≡ two 256 x y
first_sum_256 x y z h = omega arith

-- digits below 16, two by two
pair_small : (x y : ℕ) → x < 16 → y < 16 → two 16 x y < 256
pair_small x y i j = omega arith

module _ (a b c d e f g h : ℕ) (small : Below 16 (a ∷ b ∷ c ∷ d ∷ e ∷ f ∷ g ∷ h ∷ [])) where
  pairs_sum : (v : ℕ) → v ≡ lowest_first 256 (a ∷ b ∷ c ∷ d ∷ e ∷ f ∷ g ∷ h ∷ [])
      → v * 16 + v / 256 ≡ lowest_first 65536 (sums 16 a b c ∷ sums 16 c d e ∷ sums 16 e f g ∷ sums 16 g h 0 ∷ [])
  unfolding lowest_first
  pairs_sum v k = omega (arith, k, small.0)

  pairs_of_lem : pairs_of (lowest_first 256 (a ∷ b ∷ c ∷ d ∷ e ∷ f ∷ g ∷ h ∷ [])) ≡ lowest_first 65536 (two 16 a b ∷ two 16 c d ∷ two 16 e f ∷ two 16 g h ∷ [])
  unfolding lowest_first
  pairs_of_lem =
      let (i, (j, (k, (l, (m, (n, (o, (p, q)))))))) = small in
      ap (λ (s : ℕ). bit_and s 0x00ff00ff00ff00ff) (pairs_sum _ refl)
      ∙ and_each 16 255 (λ x. x % 256) (λ x. and_mask x 8) (lit< tt) (sums 16 a b c ∷ sums 16 c d e ∷ sums 16 e f g ∷ sums 16 g h 0 ∷ [])
      (size a b c i j k, (size c d e k l m, (size e f g m n o, (size g h 0 o p (lit< tt), tt))))
      ∙ rw (first_sum a b c (pair_small a b i j), first_sum c d e (pair_small c d k l), first_sum e f g (pair_small e f m n), first_sum g h 0 (pair_small g h o p)) refl
    where
      size : (x y z : ℕ) → x < 16 → y < 16 → z < 16 → sums 16 x y z < 65536
      size x y z i j k = omega arith

-- pairs, two by two, and the two fours as one number
four_small : (x y : ℕ) → x < 256 → y < 256 → two 256 x y < 65536
four_small x y i j = omega arith

module _ (a b c d : ℕ) (small : Below 256 (a ∷ b ∷ c ∷ d ∷ [])) where
  fours_sum : (v : ℕ) → v ≡ lowest_first 65536 (a ∷ b ∷ c ∷ d ∷ []) → v * 256 + v / 65536 ≡ lowest_first 0x100000000 (sums 256 a b c ∷ sums 256 c d 0 ∷ [])
  unfolding lowest_first
  fours_sum v k = omega (arith, k, small.0)

  fours_of_lem : fours_of (lowest_first 65536 (a ∷ b ∷ c ∷ d ∷ [])) ≡ lowest_first 0x100000000 (two 256 a b ∷ two 256 c d ∷ [])
  unfolding lowest_first
  fours_of_lem =
      let (i, (j, (k, (l, m)))) = small in
      ap (λ (s : ℕ). bit_and s 0x0000ffff0000ffff) (fours_sum _ refl)
      ∙ and_each 32 65535 (λ x. x % 65536) (λ x. and_mask x 16) (lit< tt) (sums 256 a b c ∷ sums 256 c d 0 ∷ []) (size a b c i j k, (size c d 0 k l (lit< tt), tt))
      ∙ rw (first_sum_256 a b c (four_small a b i j), first_sum_256 c d 0 (four_small c d k l)) refl
    where
      size : (x y z : ℕ) → x < 256 → y < 256 → z < 256 → sums 256 x y z < 0x100000000
      size x y z i j k = omega arith

abbrev pub eight_of : ℕ → ℕ
eight_of v = v % 0x100000000 * 65536 + v / 0x100000000

eight_of_lem : (a b : ℕ) → a < 65536 → b < 65536 → eight_of (lowest_first 0x100000000 (a ∷ b ∷ [])) ≡ a * 65536 + b
unfolding lowest_first
eight_of_lem a b i j = omega arith

-- ---- all steps
-- n elements of a list, one by one from a place on
abbrev items : List ℕ → ℕ → ℕ → List ℕ
items l i zero = []
items l i (suc n) = get_or l i 0 ∷ items l (suc i) n

itemized : (l : List ℕ) (n i : ℕ) → i + n ≡ length l → drop i l ≡ items l i n
itemized l zero i e = drop_of_length-le l {i = i} (omega arith)
itemized l (suc n) i e = drop-cons l i 0 (omega arith) ∙ ap (λ (t : List ℕ). get_or l i 0 ∷ t) (itemized l n (suc i) (omega arith))

values_small : (l : List ℕ) → all is_hex l ≡ true → Below 16 (map digit_value l)
unfolding all
values_small [] h = tt
values_small (b ∷ l) h = let p = both (is_hex b) (all is_hex l) h in (sixteen.bound b p.0, values_small l p.1)

-- eight digits, as their values
module _ (a b c d e f g h : ℕ) (small : Below 16 (a ∷ b ∷ c ∷ d ∷ e ∷ f ∷ g ∷ h ∷ [])) where
  -- their word has room for each step
  word_small : lowest_first 256 (a ∷ b ∷ c ∷ d ∷ e ∷ f ∷ g ∷ h ∷ []) ≤ 0x0f0f0f0f0f0f0f0f
  unfolding lowest_first
  word_small = let (i, (j, (k, (l, (m, (n, (o, (p, q)))))))) = small in omega arith

  eight_of_all : eight_of (fours_of (pairs_of (lowest_first 256 (a ∷ b ∷ c ∷ d ∷ e ∷ f ∷ g ∷ h ∷ []))))
      ≡ two 256 (two 16 a b) (two 16 c d) * 65536 + two 256 (two 16 e f) (two 16 g h)
  eight_of_all =
      let (i, (j, (k, (l, (m, (n, (o, (p, q)))))))) = small in
      let ab : two 16 a b < 256 = pair_small a b i j in
      let cd : two 16 c d < 256 = pair_small c d k l in
      let ef : two 16 e f < 256 = pair_small e f m n in
      let gh : two 16 g h < 256 = pair_small g h o p in
      ap (λ (v : ℕ). eight_of (fours_of v)) (pairs_of_lem a b c d e f g h small)
      ∙ ap eight_of (fours_of_lem (two 16 a b) (two 16 c d) (two 16 e f) (two 16 g h) (ab, (cd, (ef, (gh, tt)))))
      ∙ eight_of_lem _ _ (four_small _ _ ab cd) (four_small _ _ ef gh)

-- the fours of the pairs, in the order in which the digits stand
ordered : (a b c d e f g h : ℕ) → two 256 (two 16 a b) (two 16 c d) * 65536 + two 256 (two 16 e f) (two 16 g h)
    ≡ (((((((0 * 16 + a) * 16 + b) * 16 + c) * 16 + d) * 16 + e) * 16 + f) * 16 + g) * 16 + h
ordered a b c d e f g h = omega arith

in_order : (a b c d e f g h : ℕ)
    → two 256 (two 16 (digit_value a) (digit_value b)) (two 16 (digit_value c) (digit_value d)) * 65536 + two 256 (two 16 (digit_value e) (digit_value f)) (two 16 (digit_value g) (digit_value h))
    ≡ digits_value 16 (a ∷ b ∷ c ∷ d ∷ e ∷ f ∷ g ∷ h ∷ [])
unfolding digits_value value_from
in_order a b c d e f g h = ordered _ _ _ _ _ _ _ _

-- the word of eight hexadecimal digits
module _ (w : ℕ) (l : List ℕ) (e : w ≡ from_le_bytes w64 l) (eight : length l ≡ 8) (hex : all is_hex l ≡ true) where
  listed : l ≡ items l 0 8
  listed = itemized l 8 0 (omega (arith, eight))

  small : Below 16 (map digit_value (items l 0 8))
  small = subst (λ (t : List ℕ). Below 16 (map digit_value t)) listed (values_small l hex)

  read : w ≡ lowest_first 256 l
  unfolding lowest_first
  read = let t : from_le_bytes w64 l ≡ lowest_first 256 (items l 0 8) = omega arith in e ∙ t ∙ ap (lowest_first 256) (sym listed)

  word_of : digits_of w ≡ lowest_first 256 (map digit_value (items l 0 8))
  word_of = ap digits_of read ∙ digits_of_lem l eight hex ∙ ap (λ (t : List ℕ). lowest_first 256 (map digit_value t)) listed

  -- its values have room for the steps
  pub digits_small : digits_of w ≤ 0x0f0f0f0f0f0f0f0f
  digits_small = rw word_of (word_small _ _ _ _ _ _ _ _ small)

  -- and come to the number that the digits say
  pub eight_digits : eight_of (fours_of (pairs_of (digits_of w))) ≡ digits_value 16 l
  eight_digits = ap (λ (v : ℕ). eight_of (fours_of (pairs_of v))) word_of ∙ eight_of_all _ _ _ _ _ _ _ _ small ∙ in_order _ _ _ _ _ _ _ _ ∙ ap (digits_value 16) (sym listed)
