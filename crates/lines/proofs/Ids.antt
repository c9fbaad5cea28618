-- The D of a line: digits that are one, and the digits of an id. Assumes nothing.
use borrow.Author.Tests.{leb-true, ltb-true, ltb-false, eqb-true, eqb-false, le-leb, lt-leb, le-ltb, lt-ltb, eq-eqb, ne_eqb, not-true}
use mathlib.Core.Path.{◌≡◌, refl, sym, ap, ◌∙◌}
use mathlib.Core.Bool.{Bool, true, false, not, cond, ◌&&◌, ◌||◌, or-true, and-false}
use mathlib.Core.Logic.{◌⊎◌, inl, inr, ⊎_elim}
use mathlib.Core.List.{List, [], ◌∷◌}
use Prim.Native.Nat.{ℕ, zero, suc, ◌+◌, ◌-◌, ◌*◌, ◌^◌, ◌≤◌, ◌<◌}
use native.Mathlib.Omega.{arith}
use native.Mathlib.Nat.{add_comm, le_trans, lt_of_not-le, pow-le-pow_right}
use lib.Dec.{eqb, ltb, leb, lit<}
use lib.ListN.{length, get_or, take, drop, length-drop}
use Rattle.std.specs.List.{prefix_len, take_while}
use Rattle.text.specs.Bytes.{all}
use Rattle.text.specs.Digits.{places, decimal, is_decimal, digits_value, value_from}
use native.Mathlib.Numerals.{add-one}
use lib.Seq.{drop-drop}
use Rattle.std.proofs.lemmas.List.Folds.{length-prefix_len}
use Rattle.text.proofs.Numerals.{both, ten, low_value, at_least, length_decimal, value_of_digits, digits_of_value, value_below, places_positive, below_places, one_place, places_of, no_zero_first, least}
use Rattle.lines.specs.Format.{largest_id, is_d}

-- digits that are a D, and what these are
pub record D (ds : List ℕ) : Type 0 where
  pub some : 0 < length ds
  pub lead : (length ds ≡ 1) ⊎ (get_or ds 0 0 ≡ 48 → ⊥)
  pub small : digits_value 10 ds ≤ largest_id

pub is_d_lem : (ds : List ℕ) → is_d ds ≡ true → D ds
unfolding is_d
is_d_lem ds h =
    let outer = both (ltb 0 (length ds) && (eqb (length ds) 1 || not (eqb (get_or ds 0 0) 48))) (leb (digits_value 10 ds) largest_id) h in
    let inner = both (ltb 0 (length ds)) (eqb (length ds) 1 || not (eqb (get_or ds 0 0) 48)) outer.0 in
    record { some = ltb-true 0 (length ds) inner.0; lead = go (eqb (length ds) 1) refl inner.1; small = leb-true (digits_value 10 ds) largest_id outer.1 }
  where
    go : (t : Bool) → eqb (length ds) 1 ≡ t → (t || not (eqb (get_or ds 0 0) 48)) ≡ true → (length ds ≡ 1) ⊎ (get_or ds 0 0 ≡ 48 → ⊥)
    go true e p = inl (eqb-true (length ds) 1 e)
    go false e p = inr (eqb-false (get_or ds 0 0) 48 (not-true (eqb (get_or ds 0 0) 48) p))

pub d_is : (ds : List ℕ) → D ds → is_d ds ≡ true
unfolding is_d
d_is ds d = rw (lt-ltb 0 (length ds) d.some, le-leb (digits_value 10 ds) largest_id d.small) (rw (go d.lead) refl)
  where
    go : (length ds ≡ 1) ⊎ (get_or ds 0 0 ≡ 48 → ⊥) → (eqb (length ds) 1 || not (eqb (get_or ds 0 0) 48)) ≡ true
    go (inl e) = rw (eq-eqb (length ds) 1 e) refl
    go (inr f) = rw (ne_eqb (get_or ds 0 0) 48 f) (or-true (eqb (length ds) 1))

-- the digits at the front of a list are digits
pub digits_tested : (l : List ℕ) → all is_decimal (take_while is_decimal l) ≡ true
unfolding all
digits_tested [] = refl
digits_tested (b ∷ l) = go (is_decimal b) refl (digits_tested l)
  where
    go : (t : Bool) → is_decimal b ≡ t → all is_decimal (take_while is_decimal l) ≡ true → all is_decimal (take (cond t (1 + prefix_len is_decimal l) 0) (b ∷ l)) ≡ true
    go true e a = rw (add_comm 1 (prefix_len is_decimal l), add-one (prefix_len is_decimal l), e, a) refl
    go false e a = refl

-- the code's tests of digits: there are none, or more than one with a zero first; else the number decides
module _ (ds : List ℕ) where
  pub no_digit : length ds ≡ 0 → is_d ds ≡ false
  unfolding is_d
  no_digit h = rw (le-ltb 0 (length ds) (omega arith)) refl

  pub zero_first : 2 ≤ length ds → get_or ds 0 0 ≡ 48 → is_d ds ≡ false
  unfolding is_d
  zero_first h k = rw (lt-ltb 0 (length ds) (omega arith), ne_eqb (length ds) 1 (λ e. omega arith), eq-eqb (get_or ds 0 0) 48 k) refl

  pub one_digit : length ds ≡ 1 → is_d ds ≡ leb (digits_value 10 ds) largest_id
  unfolding is_d
  one_digit h = rw (lt-ltb 0 (length ds) (omega arith), eq-eqb (length ds) 1 h) refl

  pub more_digits : 2 ≤ length ds → (get_or ds 0 0 ≡ 48 → ⊥) → is_d ds ≡ leb (digits_value 10 ds) largest_id
  unfolding is_d
  more_digits h k = rw (lt-ltb 0 (length ds) (omega arith), ne_eqb (get_or ds 0 0) 48 k, or-true (eqb (length ds) 1)) refl

pub ruleset d_steps = (no_digit, zero_first, one_digit, more_digits)

-- the digits at the front of a list
abbrev pub front : List ℕ → List ℕ
front l = take_while is_decimal l

-- a first byte that is a digit, and one that is none, or no byte
front_digit : (l : List ℕ) → 1 ≤ length l → 48 ≤ get_or l 0 0 → get_or l 0 0 ≤ 57 → front l ≡ get_or l 0 0 ∷ front (drop 1 l)
unfolding is_decimal
front_digit [] h lo hi = absurd (omega arith)
front_digit (b ∷ l) h lo hi = rw (le-leb 48 b lo, le-leb b 57 hi, add_comm 1 (prefix_len is_decimal l), add-one (prefix_len is_decimal l)) refl

front_none : (l : List ℕ) → (1 ≤ length l → 48 ≤ get_or l 0 0 → get_or l 0 0 ≤ 57 → ⊥) → front l ≡ []
unfolding is_decimal
front_none [] h = refl
front_none (b ∷ l) h = go (leb 48 b) (leb b 57) refl refl
  where
    go : (s t : Bool) → leb 48 b ≡ s → leb b 57 ≡ t → front (b ∷ l) ≡ []
    go true true e f = absurd (h (omega arith) (leb-true 48 b e) (leb-true b 57 f))
    go true false e f = rw (e, f) refl
    go false t e f = rw e refl

-- Some digits of l have been read, which say n, and `rest` follows them.
pub record Read (l : List ℕ) (n : ℕ) (rest : List ℕ) : Type 0 where
  pub says : value_from 10 n (front rest) ≡ digits_value 10 (front l)
  pub follows : drop (length (front rest)) rest ≡ drop (length (front l)) l
  pub many : length rest + length (front l) ≡ length l + length (front rest)
  pub within : length rest ≤ length l
  pub small : n ≤ largest_id

pub none_read : (l : List ℕ) → Read l 0 l
unfolding digits_value
none_read l = record { says = refl; follows = refl; many = refl; within = omega arith; small = omega arith }

module _ (l : List ℕ) (n : ℕ) (rest : List ℕ) (r : Read l n rest) where
  -- one more
  module _ (h : 1 ≤ length rest) (lo : 48 ≤ get_or rest 0 0) (hi : get_or rest 0 0 ≤ 57) where
    next_says : value_from 10 (n * 10 + (get_or rest 0 0 - 48)) (front (drop 1 rest)) ≡ digits_value 10 (front l)
    unfolding value_from
    next_says = rw (← low_value (get_or rest 0 0) hi) (sym (ap (value_from 10 n) (front_digit rest h lo hi)) ∙ r.says)

    pub next_read : n * 10 + (get_or rest 0 0 - 48) ≤ largest_id → Read l (n * 10 + (get_or rest 0 0 - 48)) (drop 1 rest)
    next_read k = record {
      says = next_says;
      follows = drop-drop (length (front (drop 1 rest))) 1 rest ∙ ap (λ (m : ℕ). drop m rest) (omega (arith, ap length (front_digit rest h lo hi))) ∙ r.follows;
      many = omega (arith, r.many, ap length (front_digit rest h lo hi), length-drop 1 rest);
      within = omega (arith, r.within, length-drop 1 rest);
      small = k;
    }

    pub too_large : largest_id < n * 10 + (get_or rest 0 0 - 48) → is_d (front l) ≡ false
    unfolding is_d
    too_large k =
        let v : largest_id < digits_value 10 (front l) = omega (arith, k, next_says, at_least (n * 10 + (get_or rest 0 0 - 48)) (front (drop 1 rest))) in
        rw (lt-leb (digits_value 10 (front l)) largest_id v) (and-false _)

  -- no more
  module _ (h : 1 ≤ length rest → 48 ≤ get_or rest 0 0 → get_or rest 0 0 ≤ 57 → ⊥) where
    pub all_says : digits_value 10 (front l) ≡ n
    unfolding value_from
    all_says = sym r.says ∙ ap (value_from 10 n) (front_none rest h)

    pub all_follows : rest ≡ drop (length (front l)) l
    all_follows = sym (ap (λ d. drop (length d) rest) (front_none rest h)) ∙ r.follows

    pub all_digits : take (length l - length rest) l ≡ front l
    all_digits = let e : length l - length rest ≡ length (front l) = omega (arith, r.many, ap length (front_none rest h)) in rw (e, length-prefix_len is_decimal l) refl

-- the decimal of an id is a D with its value
pub value_decimal : (d : ℕ) → d ≤ largest_id → digits_value 10 (decimal d) ≡ d
unfolding decimal
value_decimal d h = value_of_digits ten (places 9 d) d (below_places 9 d (omega arith))

pub decimal_is_d : (d : ℕ) → d ≤ largest_id → is_d (decimal d) ≡ true
unfolding decimal places
decimal_is_d d h =
    d_is (decimal d)
    (record { some = rw (length_decimal d) (places_positive 9 d); lead = go (ltb d 10) refl; small = rw (value_decimal d h) h })
  where
    go : (t : Bool) → ltb d 10 ≡ t → (length (decimal d) ≡ 1) ⊎ (get_or (decimal d) 0 0 ≡ 48 → ⊥)
    go true e = inl (length_decimal d ∙ rw e refl)
    go false e = inr (no_zero_first 9 d (omega (arith, ltb-false d 10 e)) (omega arith))

-- and a D is the decimal of its value
pub decimal_value : (ds : List ℕ) → D ds → all is_decimal ds ≡ true → decimal (digits_value 10 ds) ≡ ds
unfolding decimal
decimal_value ds d a = rw (many (length ds - 1) (omega (arith, d.some))) (digits_of_value ten (length ds) ds refl a)
  where
    -- an id has ten digits at most
    few : (k : ℕ) → 10 ^ k ≤ largest_id → k < 10
    few k h = lt_of_not-le (λ e. omega (arith, pow-le-pow_right {n = 10} (lit< tt) e))

    many : (k : ℕ) → length ds ≡ suc k → places 9 (digits_value 10 ds) ≡ length ds
    many zero h = one_place 9 (digits_value 10 ds) (value_below ten 1 ds h a) ∙ sym h
    many (suc k) h =
        let low = least (suc k) ds h a (⊎_elim (λ e. absurd (omega arith)) (λ f. f) d.lead) in
        places_of 9 k (digits_value 10 ds) (omega (arith, few (suc k) (le_trans low d.small))) low (value_below ten (suc (suc k)) ds h a) ∙ omega arith
