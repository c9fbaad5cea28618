-- What the code tests at the front of a text, in the words of the definition. Assumes nothing.
use borrow.Author.Tests.{lt-ltb, le-ltb, ltb-true, ltb-false, eqb-true, eq-eqb, ne_eqb}
use mathlib.Core.Path.{◌≡◌, refl, sym, ap}
use mathlib.Core.Bool.{Bool, true, false, ◌&&◌, and-true, and-false}
use mathlib.Core.List.{List, [], ◌∷◌}
use Prim.Native.Nat.{ℕ, ◌+◌, ◌≤◌, ◌<◌}
use native.Mathlib.Omega.{arith}
use lib.Dec.{eqb, ltb, lit<}
use lib.ListN.{length, get_or, take, drop, drop_of_length-le, get_or-eq_default, length-take, length-drop}
use lib.Seq.{drop-cons, drop-drop}
use lib.Pointwise.{pointwise}
use Rattle.std.specs.List.{starts_with, take_while}
use Rattle.std.proofs.lemmas.Cmp.{nat_list_eq_equiv}
use Rattle.text.specs.Bytes.{all}
use Rattle.text.specs.Digits.{is_hex, is_decimal, digits_value}
use Rattle.std.specs.Prelude.{Ok, Err}
use Rattle.text.proofs.Numerals.{both}
use Rattle.lines.specs.declared.Refusal.TheVariants.{TooLong, NoId, NoX, NoY}
use Rattle.lines.specs.Format.{longest, pair, read_line, id_key, x_key, y_key, id_digits, is_d, has_id, after_id, hex_digits, has_hex, has_x, after_x, has_y}

-- a prefix is stripped where the list starts with it
pub starts : (front l : List ℕ) → starts_with eqb l front ≡ pointwise eqb (take (length front) l) front
starts front l = nat_list_eq_equiv.symm front (take (length front) l)

-- a byte that is not 0 is stripped where it stands at a place
pub byte_at : (l : List ℕ) (at b : ℕ) → 0 < b → eqb (get_or l at 0) b ≡ pointwise eqb (take 1 (drop at l)) (b ∷ [])
byte_at l at b h = go (ltb at (length l)) refl
  where
    go : (t : Bool) → ltb at (length l) ≡ t → eqb (get_or l at 0) b ≡ pointwise eqb (take 1 (drop at l)) (b ∷ [])
    go true k = rw (drop-cons l at 0 (ltb-true at (length l) k)) (sym (and-true (eqb (get_or l at 0) b)))
    go false k =
        let past : length l ≤ at = ltb-false at (length l) k in
        rw (drop_of_length-le l past, get_or-eq_default l 0 past, ne_eqb 0 b (λ z. omega arith)) refl

-- a key and H
module _ (key l : List ℕ) where
  pub no_key : pointwise eqb (take (length key) l) key ≡ false → has_hex key l ≡ false
  unfolding has_hex
  no_key h = rw (starts key l, h) refl

  module _ (rest : List ℕ) (e : rest ≡ drop (length key) l) where
    pub too_few : length rest < 8 → has_hex key l ≡ false
    unfolding has_hex hex_digits
    too_few h = rw (← e, ne_eqb (length (take 8 rest)) 8 (λ k. omega (arith, k, length-take 8 rest)), and-false (starts_with eqb l key)) refl

    module _ (digits : List ℕ) (d : digits ≡ take 8 rest) where
      pub no_h : all is_hex digits ≡ false → has_hex key l ≡ false
      unfolding has_hex hex_digits
      no_h h = rw (← e, ← d, h) (and-false _)

      pub h_found : pointwise eqb (take (length key) l) key ≡ true → 8 ≤ length rest → all is_hex digits ≡ true → has_hex key l ≡ true
      unfolding has_hex hex_digits
      h_found k n h =
          let t : length (take 8 rest) ≡ 8 = omega (arith, length-take 8 rest) in
          rw (starts key l, k, ← e, ← d, h, d, t) refl

      pub digits_are : digits ≡ hex_digits key l
      unfolding hex_digits
      digits_are = rw (d, e) refl

    pub after_h : (after : List ℕ) → after ≡ drop 8 rest → after ≡ drop (length key + 8) l
    after_h after a = rw (a, e) (drop-drop 8 (length key) l)

pub ruleset hex_steps = (no_key, too_few, no_h, h_found, digits_are, after_h)

-- a space that is stripped
module _ (l : List ℕ) (at : ℕ) (rest : List ℕ) (e : rest ≡ drop at l) where
  spaced : eqb (get_or l at 0) 32 ≡ pointwise eqb (take 1 rest) (32 ∷ [])
  spaced = rw e (byte_at l at 32 (lit< tt))

-- x
module _ (l : List ℕ) where
  pub no_x : has_hex x_key l ≡ false → has_x l ≡ false
  unfolding has_x
  no_x h = rw h refl

  module _ (rest : List ℕ) (e : rest ≡ drop 10 l) where
    pub no_space : pointwise eqb (take 1 rest) (32 ∷ []) ≡ false → has_x l ≡ false
    unfolding has_x
    no_space h = rw (spaced l 10 rest e, h) (and-false (has_hex x_key l))

    pub x_found : has_hex x_key l ≡ true → pointwise eqb (take 1 rest) (32 ∷ []) ≡ true → has_x l ≡ true
    unfolding has_x
    x_found f h = rw (spaced l 10 rest e, h, f) refl

    pub x_after : (after : List ℕ) → after ≡ drop 1 rest → after ≡ after_x l
    unfolding after_x
    x_after after a = rw (a, e) (drop-drop 1 10 l)

pub ruleset x_steps = (no_x, no_space, x_found, x_after)

-- a field of a key of two bytes has ten bytes
ten_bytes : (a b : ℕ) (l : List ℕ) → has_hex (a ∷ b ∷ []) l ≡ true → 10 ≤ length l
unfolding has_hex hex_digits
ten_bytes a b l h =
    let t = both (starts_with eqb l (a ∷ b ∷ []) && eqb (length (take 8 (drop 2 l))) 8) (all is_hex (take 8 (drop 2 l))) h in
    let u = both (starts_with eqb l (a ∷ b ∷ [])) (eqb (length (take 8 (drop 2 l))) 8) t.0 in
    omega (arith, eqb-true (length (take 8 (drop 2 l))) 8 u.1, length-take 8 (drop 2 l), length-drop 2 l)

-- y
module _ (l : List ℕ) where
  pub no_y : has_hex y_key l ≡ false → has_y l ≡ false
  unfolding has_y
  no_y h = rw h refl

  module _ (rest : List ℕ) (e : rest ≡ drop 10 l) where
    pub more_follows : 0 < length rest → has_y l ≡ false
    unfolding has_y
    more_follows h = rw (ne_eqb (length l) 10 (λ k. omega (arith, k, ap length e, length-drop 10 l))) (and-false (has_hex y_key l))

    pub y_found : has_hex y_key l ≡ true → length rest ≡ 0 → has_y l ≡ true
    unfolding has_y
    y_found f h = rw (f, eq-eqb (length l) 10 (omega (arith, ap length e, length-drop 10 l, ten_bytes 121 61 l f))) refl

pub ruleset y_steps = (no_y, more_follows, y_found)

-- the id
module _ (l rest : List ℕ) (e : rest ≡ drop 3 l) where
  pub no_id_key : pointwise eqb (take 3 l) id_key ≡ false → has_id l ≡ false
  unfolding has_id
  no_id_key h = rw (starts id_key l, h) refl

  pub ids_are : take_while is_decimal rest ≡ id_digits l
  unfolding id_digits
  ids_are = rw e refl

  pub no_d : is_d (take_while is_decimal rest) ≡ false → has_id l ≡ false
  unfolding has_id
  no_d h = rw (← ids_are, h, and-false (starts_with eqb l id_key)) refl

  module _ (end : List ℕ) (f : end ≡ drop (length (take_while is_decimal rest)) rest) where
    place : drop (3 + length (id_digits l)) l ≡ end
    unfolding id_digits
    place = rw (f, e) (sym (drop-drop (length (take_while is_decimal (drop 3 l))) 3 l))

    pub no_id_space : pointwise eqb (take 1 end) (32 ∷ []) ≡ false → has_id l ≡ false
    unfolding has_id
    no_id_space h = rw (spaced l (3 + length (id_digits l)) end (sym place), h) (and-false _)

    pub id_found : pointwise eqb (take 3 l) id_key ≡ true → is_d (take_while is_decimal rest) ≡ true → pointwise eqb (take 1 end) (32 ∷ []) ≡ true → has_id l ≡ true
    unfolding has_id
    id_found k h s = rw (spaced l (3 + length (id_digits l)) end (sym place), starts id_key l, k, ← ids_are, h, s) refl

    pub id_after : (after : List ℕ) → after ≡ drop 1 end → after ≡ after_id l
    unfolding after_id
    id_after after a = rw (a, ← place) (drop-drop 1 (3 + length (id_digits l)) l)

pub ruleset id_steps = (no_id_key, ids_are, no_d, no_id_space, id_found, id_after)

-- the line
module _ (l : List ℕ) where
  pub too_long : longest < length l → Err TooLong ≡ read_line l
  unfolding read_line
  too_long h = rw (lt-ltb longest (length l) h) refl

  module _ (short : length l ≤ longest) where
    pub without_id : has_id l ≡ false → Err NoId ≡ read_line l
    unfolding read_line
    without_id h = rw (le-ltb longest (length l) short, h) refl

    module _ (i : has_id l ≡ true) (from_x : List ℕ) (e : from_x ≡ after_id l) where
      pub without_x : has_x from_x ≡ false → Err NoX ≡ read_line l
      unfolding read_line
      without_x h = rw (le-ltb longest (length l) short, i, ← e, h) refl

      module _ (x : has_x from_x ≡ true) (from_y : List ℕ) (f : from_y ≡ after_x from_x) where
        pub without_y : has_y from_y ≡ false → Err NoY ≡ read_line l
        unfolding read_line
        without_y h = rw (le-ltb longest (length l) short, i, ← e, x, ← f, h) refl

        pub all_found : has_y from_y ≡ true → (d a b : ℕ) → d ≡ digits_value 10 (id_digits l) → a ≡ digits_value 16 (hex_digits x_key from_x) → b ≡ digits_value 16 (hex_digits y_key from_y)
            → Ok (pair d a b) ≡ read_line l
        unfolding read_line
        all_found y d a b p q r = rw (le-ltb longest (length l) short, i, ← e, x, ← f, y, p, q, r) refl

pub ruleset line_steps = (too_long, without_id, without_x, without_y, all_found)

-- a byte that is not 0 stands only inside a list
pub inside : (l : List ℕ) (at b : ℕ) → 0 < b → eqb (get_or l at 0) b ≡ true → at < length l
inside l at b h e = go (ltb at (length l)) refl
  where
    go : (t : Bool) → ltb at (length l) ≡ t → at < length l
    go true k = ltb-true at (length l) k
    go false k = absurd (never (eqb-true 0 b (rw (get_or-eq_default l 0 (ltb-false at (length l) k)) at e)))
      where
        never : 0 ≡ b → ⊥
        never z = omega arith
