-- The format read both ways: every line of it is accepted with its values, and nothing else is. Assumes nothing.
use borrow.Author.Tests.{eqb-true, le-ltb, eq-eqb}
use mathlib.Core.Path.{◌≡◌, refl, sym, ◌∙◌, ap}
use mathlib.Core.Bool.{Bool, true, false, ◌&&◌}
use mathlib.Core.List.{List, [], ◌∷◌, ◌++◌, append_assoc, append-nil}
use Prim.Native.Nat.{ℕ, ◌+◌, ◌≤◌, ◌<◌, ◌^◌}
use native.Mathlib.Nat.{add_assoc}
use native.Mathlib.Omega.{arith}
use native.Mathlib.Numerals.{add-one}
use lib.Dec.{eqb, ltb, lit<, lit≤}
use lib.ListN.{length, take, drop, get_or, length-append, take-append-drop, drop_of_length-le}
use lib.Seq.{take_at, drop_at, get_or_at, get_or-drop, drop-drop, drop-cons, drop-append-add}
use Rattle.std.specs.List.{starts_with, take_while, prefix_len}
use Rattle.std.proofs.lemmas.Slice.Eq.{starts_is}
use Rattle.std.proofs.lemmas.Bool.Decides.{Decides-eqb}
use Rattle.std.proofs.lemmas.List.Sums.{take_while-cons}
use Rattle.std.proofs.lemmas.List.Folds.{length-prefix_len}
use Rattle.text.specs.Bytes.{all}
use Rattle.text.specs.Digits.{places, decimal, hex, is_decimal, is_hex, digits_value}
use Rattle.lines.specs.Format.{pair, longest, largest_id, id_key, x_key, y_key, space, line_of, InRange, Format}
use Rattle.lines.specs.Format.{id_digits, is_d, has_id, after_id, hex_digits, has_hex, has_x, after_x, has_y, read_line}
use Rattle.std.specs.Prelude.{Result, Ok}
use Rattle.lines.specs.declared.Pair.{Pair}
use Rattle.lines.specs.declared.Refusal.{Refusal}
use Rattle.text.proofs.Numerals.{both, sixteen, length_decimal, length_hex, all_decimal, all_hex, places_monotone, value_below}
use Rattle.lines.proofs.Ids.{digits_tested, is_d_lem, decimal_is_d, decimal_value, value_decimal}
use Rattle.text.proofs.Numerals.{value_hex, hex_value}
use Rattle.lines.proofs.Reading.{inside}

-- A line of the format is accepted.

-- digits, and then a byte that is none: the digits at the front are these
digits_before : (ds : List ℕ) (c : ℕ) (rest : List ℕ) → all is_decimal ds ≡ true → is_decimal c ≡ false → take_while is_decimal (ds ++ c ∷ rest) ≡ ds
unfolding all
digits_before [] c rest a h = rw h refl
digits_before (b ∷ ds) c rest a h =
    let t = both (is_decimal b) (all is_decimal ds) a in
    take_while-cons is_decimal b (ds ++ c ∷ rest) ∙ rw (t.0, digits_before ds c rest t.1 h) refl

-- a key, of its byte and `=`
abbrev key_of : ℕ → List ℕ
key_of key = key ∷ 61 ∷ []

-- a field of a key and a pattern: it is one, with the pattern's digits, and ends after ten bytes
module _ (key n : ℕ) (rest : List ℕ) where
  h_digits : hex_digits (key_of key) (key ∷ 61 ∷ (hex n ++ rest)) ≡ hex n
  unfolding hex_digits
  h_digits = take_at (hex n) rest 8 (length_hex n)

  h_has : has_hex (key_of key) (key ∷ 61 ∷ (hex n ++ rest)) ≡ true
  unfolding has_hex
  h_has = rw (h_digits, eq-eqb key key refl, length_hex n, all_hex n) refl

  h_after : drop 10 (key ∷ 61 ∷ (hex n ++ rest)) ≡ rest
  h_after = drop_at (hex n) rest 8 (length_hex n)

-- the parts of a line, each with what follows it
abbrev from_y : ℕ → List ℕ
from_y y = 121 ∷ 61 ∷ (hex y ++ [])

abbrev from_x : ℕ → ℕ → List ℕ
from_x x y = 120 ∷ 61 ∷ (hex x ++ (space ∷ from_y y))

abbrev from_id : ℕ → ℕ → ℕ → List ℕ
from_id d x y = 105 ∷ 100 ∷ 61 ∷ (decimal d ++ (space ∷ from_x x y))

line_parts : (d x y : ℕ) → line_of d x y ≡ from_id d x y
unfolding line_of
line_parts d x y = simp (append_assoc, append-nil)

-- a line has 25 bytes beside its id, and the longest has room for the largest id
longest_id : 25 + places 9 largest_id ≤ longest
unfolding places
longest_id = lit≤ tt

module _ (d x y : ℕ) (r : InRange d x y) where
  id_digits_lem : id_digits (from_id d x y) ≡ decimal d
  unfolding id_digits is_decimal
  id_digits_lem = digits_before (decimal d) space (from_x x y) (all_decimal d) refl

  has_id_lem : has_id (from_id d x y) ≡ true
  unfolding has_id
  has_id_lem = rw (id_digits_lem, decimal_is_d d r.id_range, at) refl
    where
      at : get_or (from_id d x y) (3 + length (decimal d)) 0 ≡ space
      at = sym (get_or-drop 3 (from_id d x y) (length (decimal d)) 0) ∙ get_or_at (decimal d) space (from_x x y) 0 (length (decimal d)) refl

  after_id_lem : after_id (from_id d x y) ≡ from_x x y
  unfolding after_id
  after_id_lem =
      rw (id_digits_lem, add_assoc 3 (length (decimal d)) 1)
      (sym (drop-drop (length (decimal d) + 1) 3 (from_id d x y)) ∙ drop-append-add (decimal d) (space ∷ from_x x y) 1)

  has_x_lem : has_x (from_x x y) ≡ true
  unfolding has_x
  has_x_lem = rw (h_has 120 x (space ∷ from_y y), at) refl
    where
      at : get_or (from_x x y) 10 0 ≡ space
      at = sym (get_or-drop 10 (from_x x y) 0 0) ∙ rw (h_after 120 x (space ∷ from_y y)) refl

  after_x_lem : after_x (from_x x y) ≡ from_y y
  unfolding after_x
  after_x_lem = sym (drop-drop 1 10 (from_x x y)) ∙ rw (h_after 120 x (space ∷ from_y y)) refl

  has_y_lem : has_y (from_y y) ≡ true
  unfolding has_y
  has_y_lem = rw (h_has 121 y [], long) refl
    where
      long : length (from_y y) ≡ 10
      long = rw (append-nil (hex y), length_hex y) refl

  short : length (from_id d x y) ≤ longest
  short =
      omega (
        arith,
        length-append (decimal d) (space ∷ from_x x y),
        length-append (hex x) (space ∷ from_y y),
        append_length (hex y),
        length_hex x,
        length_hex y,
        length_decimal d,
        places_monotone 9 d largest_id r.id_range,
        longest_id,
      )
    where
      append_length : (l : List ℕ) → length (l ++ []) ≡ length l
      append_length l = rw (append-nil l) refl

  read : read_line (from_id d x y) ≡ Ok (pair d x y)
  unfolding read_line
  read =
      rw (
        le-ltb longest (length (from_id d x y)) short,
        has_id_lem,
        after_id_lem,
        has_x_lem,
        after_x_lem,
        has_y_lem,
        id_digits_lem,
        h_digits 120 x (space ∷ from_y y),
        h_digits 121 y [],
        value_decimal d r.id_range,
        value_hex x r.x_range,
        value_hex y r.y_range,
      )
      refl

  line_accepted : read_line (line_of d x y) ≡ Ok (pair d x y)
  line_accepted = rw (line_parts d x y) read

-- Nothing else is accepted.

-- a list that starts with another
starts_split : (front l : List ℕ) → starts_with eqb l front ≡ true → l ≡ front ++ drop (length front) l
starts_split front l h = (starts_is Decides-eqb l front (starts_with eqb l front) refl).0 h

-- a byte that stands at a place, and what follows it
spaced : (l : List ℕ) (at : ℕ) → eqb (get_or l at 0) space ≡ true → drop at l ≡ space ∷ drop (at + 1) l
spaced l at h = drop-cons l at 0 (inside l at space (lit< tt) h) ∙ rw (eqb-true (get_or l at 0) space h, add-one at) refl

-- a field of a key and H: the pattern, and what follows
module _ (key : ℕ) (l : List ℕ) (h : has_hex (key_of key) l ≡ true) where
  h_tests : ((starts_with eqb l (key_of key) && eqb (length (hex_digits (key_of key) l)) 8) ≡ true) × (all is_hex (hex_digits (key_of key) l) ≡ true)
  unfolding has_hex
  h_tests = both _ _ h

  h_front : (starts_with eqb l (key_of key) ≡ true) × (eqb (length (hex_digits (key_of key) l)) 8 ≡ true)
  h_front = both _ _ h_tests.0

  h_long : length (hex_digits (key_of key) l) ≡ 8
  h_long = eqb-true (length (hex_digits (key_of key) l)) 8 h_front.1

  h_range : digits_value 16 (hex_digits (key_of key) l) < 2 ^ 32
  h_range = value_below sixteen 8 (hex_digits (key_of key) l) h_long h_tests.1

  h_rest : drop 2 l ≡ hex_digits (key_of key) l ++ drop 10 l
  unfolding hex_digits
  h_rest = sym (take-append-drop 8 (drop 2 l)) ∙ ap (λ (m : List ℕ). take 8 (drop 2 l) ++ m) (drop-drop 8 2 l)

  h_shape : l ≡ key ∷ 61 ∷ (hex (digits_value 16 (hex_digits (key_of key) l)) ++ drop 10 l)
  h_shape =
      starts_split (key_of key) l h_front.0
      ∙ ap (λ (m : List ℕ). key ∷ 61 ∷ m) (rw (hex_value (hex_digits (key_of key) l) h_long h_tests.1) h_rest)

-- an id, and what follows it and its space
module _ (l : List ℕ) (h : has_id l ≡ true) where
  id_tests : ((starts_with eqb l id_key && is_d (id_digits l)) ≡ true) × (eqb (get_or l (3 + length (id_digits l)) 0) space ≡ true)
  unfolding has_id
  id_tests = both _ _ h

  id_front : (starts_with eqb l id_key ≡ true) × (is_d (id_digits l) ≡ true)
  id_front = both _ _ id_tests.0

  id_split : drop 3 l ≡ id_digits l ++ drop (length (id_digits l)) (drop 3 l)
  unfolding id_digits
  id_split = rw (length-prefix_len is_decimal (drop 3 l)) (sym (take-append-drop (prefix_len is_decimal (drop 3 l)) (drop 3 l)))

  id_decimal : all is_decimal (id_digits l) ≡ true
  unfolding id_digits
  id_decimal = digits_tested (drop 3 l)

  id_after : drop (length (id_digits l)) (drop 3 l) ≡ space ∷ after_id l
  unfolding after_id
  id_after = drop-drop (length (id_digits l)) 3 l ∙ spaced l (3 + length (id_digits l)) id_tests.1

  id_shape : l ≡ 105 ∷ 100 ∷ 61 ∷ (id_digits l ++ (space ∷ after_id l))
  id_shape =
      starts_split id_key l id_front.0
      ∙ ap (λ (m : List ℕ). 105 ∷ 100 ∷ 61 ∷ m) (id_split ∙ ap (λ (m : List ℕ). id_digits l ++ m) id_after)

-- what a line says that is accepted
record Accepted (l : List ℕ) (d x y : ℕ) : Type 0 where
  short : ltb longest (length l) ≡ false
  id : has_id l ≡ true
  x_field : has_x (after_id l) ≡ true
  y_field : has_y (after_x (after_id l)) ≡ true
  d_is : digits_value 10 (id_digits l) ≡ d
  x_is : digits_value 16 (hex_digits x_key (after_id l)) ≡ x
  y_is : digits_value 16 (hex_digits y_key (after_x (after_id l))) ≡ y

-- of the definition's choice, the only way to a pair
pair_is : (p q : Pair) → ◌≡◌ {A = Result Pair Refusal} (Ok p) (Ok q) → p ≡ q
pair_is p q e = cc

accepted : (l : List ℕ) (d x y : ℕ) → read_line l ≡ Ok (pair d x y) → Accepted l d x y
unfolding read_line
accepted l d x y e = by (ltb longest (length l)) (has_id l) (has_x (after_id l)) (has_y (after_x (after_id l))) refl refl refl refl
  where
    by : (t i a b : Bool) → ltb longest (length l) ≡ t → has_id l ≡ i → has_x (after_id l) ≡ a → has_y (after_x (after_id l)) ≡ b → Accepted l d x y
    by true i a b p q r s = let f = simp (p) at e in cc
    by false false a b p q r s = let f = simp (p, q) at e in cc
    by false true false false p q r s = let f = simp (p, q, r, s) at e in cc
    by false true false true p q r s = let f = simp (p, q, r, s) at e in cc
    by false true true false p q r s = let f = simp (p, q, r, s) at e in cc
    by false true true true p q r s =
        let f = pair_is _ _ (simp (p, q, r, s) at e) in
        record {
          short = p;
          id = q;
          x_field = r;
          y_field = s;
          d_is = ap (λ (p : Pair). p.id) f;
          x_is = ap (λ (p : Pair). p.x) f;
          y_is = ap (λ (p : Pair). p.y) f;
        }

module _ (l : List ℕ) (d x y : ℕ) (a : Accepted l d x y) where
  x_tests : (has_hex x_key (after_id l) ≡ true) × (eqb (get_or (after_id l) 10 0) space ≡ true)
  unfolding has_x
  x_tests = both _ _ a.x_field

  y_tests : (has_hex y_key (after_x (after_id l)) ≡ true) × (eqb (length (after_x (after_id l))) 10 ≡ true)
  unfolding has_y
  y_tests = both _ _ a.y_field

  y_long : length (after_x (after_id l)) ≡ 10
  y_long = eqb-true (length (after_x (after_id l))) 10 y_tests.1

  d_decimal : decimal d ≡ id_digits l
  d_decimal = rw (sym a.d_is) (decimal_value (id_digits l) (is_d_lem (id_digits l) (id_front l a.id).1) (id_decimal l a.id))

  y_end : after_x (after_id l) ≡ from_y y
  y_end =
      h_shape 121 (after_x (after_id l)) y_tests.0
      ∙ rw (a.y_is, drop_of_length-le (after_x (after_id l)) (at_most y_long)) refl
    where
      at_most : {n : ℕ} → n ≡ 10 → n ≤ 10
      at_most e = omega arith

  x_end : after_id l ≡ from_x x y
  unfolding after_x
  x_end =
      h_shape 120 (after_id l) x_tests.0
      ∙ ap (λ (m : List ℕ). 120 ∷ 61 ∷ (hex (digits_value 16 (hex_digits x_key (after_id l))) ++ m)) (spaced (after_id l) 10 x_tests.1 ∙ ap (λ (m : List ℕ). space ∷ m) y_end)
      ∙ ap (λ (n : ℕ). 120 ∷ 61 ∷ (hex n ++ (space ∷ from_y y))) a.x_is

  line_is : l ≡ line_of d x y
  line_is = id_shape l a.id ∙ rw (sym d_decimal, x_end) (sym (line_parts d x y))

  in_range : InRange d x y
  in_range = record {
    id_range = rw a.d_is at (is_d_lem (id_digits l) (id_front l a.id).1).small;
    x_range = rw a.x_is at (h_range 120 (after_id l) x_tests.0);
    y_range = rw a.y_is at (h_range 121 (after_x (after_id l)) y_tests.0);
  }

-- both directions
pub both_ways : Format
both_ways = record {
  accepted = line_accepted;
  nothing_else = λ l d x y e. let a = accepted l d x y e in (line_is l d x y a, in_range l d x y a);
}
