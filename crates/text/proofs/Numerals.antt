-- Numbers as text: the digits of a number, and the value of digits. Assumes nothing.
use Rattle.std.proofs.Common.{arith, rules, ap, refl, sym, ◌∙◌, ◌≡◌, ℕ, zero, suc, ◌+◌, ◌-◌, ◌≤◌, ◌<◌, ◌*◌, ◌/◌, ◌%◌, ◌^◌, true, false, cond, Bool, ◌&&◌, List, [], ◌∷◌, ◌++◌, length, get_or, take}
use native.Mathlib.Nat.{add-zero, add-mul, mul-le-mul_right, pow-suc, pow-zero, mod-lt, mod-eq_of_lt, div-eq_of_lt, div-lt_iff_lt-mul, div-add-mod', mul-add-div_right, mul-add-mod_self_right}
use native.Mathlib.Numerals.{add-one, add-one-le}
use lib.Dec.{ltb}
use lib.Seq.{take_all, take-suc, get_or-take}
use Rattle.std.proofs.lemmas.Bool.Decides.{nat_tests}
use Rattle.std.proofs.lemmas.Grind.{common_steps}
use Rattle.std.specs.Prelude.{Option, Some, None, IfNone, IfSome}
use Rattle.std.specs.Option.{unwrap_or}
use Rattle.text.specs.Bytes.{all}
use Rattle.text.specs.Digits.{glyph, digits, places, decimal, hex, is_decimal, is_hex, digit_value, digits_value, value_from}

-- both tests of a conjunction hold
pub both : (a b : Bool) → (a && b) ≡ true → (a ≡ true) × (b ≡ true)
both a b e = (grind (arith, nat_tests), grind (arith, nat_tests))

-- ---- digits one by one
-- what a base's digits are like: each is below the base, and each number below the base has one
pub record Base (base : ℕ) (test : ℕ → Bool) : Type 0 where
  pub above : 1 < base
  pub below : base ≤ 16
  pub bound : (b : ℕ) → test b ≡ true → digit_value b < base
  pub glyph_value : (b : ℕ) → test b ≡ true → glyph (digit_value b) ≡ b
  pub is_digit : (d : ℕ) → d < base → test (glyph d) ≡ true

pub ten : Base 10 is_decimal
unfolding digit_value glyph is_decimal
ten = record {
  above = omega arith;
  below = omega arith;
  bound = λ b e. grind (arith, nat_tests);
  glyph_value = λ b e. grind (arith, nat_tests);
  is_digit = λ d h. grind (arith, nat_tests);
}

pub sixteen : Base 16 is_hex
unfolding digit_value glyph is_decimal is_hex
sixteen = record {
  above = omega arith;
  below = omega arith;
  bound = λ b e. grind (arith, nat_tests);
  glyph_value = λ b e. grind (arith, nat_tests);
  is_digit = λ d h. grind (arith, nat_tests);
}

-- the value of a decimal digit, and of a digit's glyph
pub low_value : (b : ℕ) → b ≤ 57 → digit_value b ≡ b - 48
unfolding digit_value
low_value b h = grind (arith, nat_tests)

value_glyph : (d : ℕ) → d < 16 → digit_value (glyph d) ≡ d
unfolding digit_value glyph
value_glyph d h = grind (arith, nat_tests)

-- ---- several digits
-- the digits of a number are as many as are asked for
pub length_digits : (base k n : ℕ) → length (digits base k n) ≡ k
unfolding digits
length_digits base zero n = refl
length_digits base (suc k) n = let e = length_digits base k (n / base) in search (rules, common_steps)

-- a test over two lists joined
all_append : (test : ℕ → Bool) (xs ys : List ℕ) → all test (xs ++ ys) ≡ (all test xs && all test ys)
unfolding all
all_append test [] ys = refl
all_append test (b ∷ xs) ys = let e = all_append test xs ys in search (rules, common_steps)

-- the value of digits followed by one more
value_append : (base m : ℕ) (xs ys : List ℕ) → value_from base m (xs ++ ys) ≡ value_from base (value_from base m xs) ys
unfolding value_from
value_append base m [] ys = refl
value_append base m (b ∷ xs) ys = value_append base (m * base + digit_value b) xs ys

value_more : (base : ℕ) (xs : List ℕ) (b : ℕ) → digits_value base (xs ++ (b ∷ [])) ≡ digits_value base xs * base + digit_value b
unfolding digits_value value_from
value_more base xs b = value_append base 0 xs (b ∷ [])

-- a list of k + 1 digits: the first k and the last
record Ended (test : ℕ → Bool) (ds : List ℕ) (k : ℕ) : Type 0 where
  shape : ds ≡ take k ds ++ (get_or ds k 0 ∷ [])
  long : length (take k ds) ≡ k
  front : all test (take k ds) ≡ true
  last : test (get_or ds k 0) ≡ true

ended : (test : ℕ → Bool) (ds : List ℕ) (k : ℕ) → length ds ≡ suc k → all test ds ≡ true → Ended test ds k
unfolding all
ended test ds k h a =
    let shape : ds ≡ take k ds ++ (get_or ds k 0 ∷ []) = sym (take_all (suc k) ds (omega arith)) ∙ take-suc ds k 0 (omega arith) in
    let tested : (all test (take k ds) && all test (get_or ds k 0 ∷ [])) ≡ true = sym (all_append test (take k ds) (get_or ds k 0 ∷ [])) ∙ ap (all test) (sym shape) ∙ a in
    record { shape = shape; long = search (rules, common_steps); front = search (rules, nat_tests); last = search (rules, nat_tests) }

module _ {base : ℕ} {test : ℕ → Bool} (B : Base base test) where
  positive : 0 < base
  positive = omega (arith, B.above)

  -- a number of the base's multiples and a digit, divided by the base
  quotient : (v : ℕ) {d : ℕ} → d < base → (v * base + d) / base ≡ v
  quotient v {d} h = mul-add-div_right positive v d ∙ rw (div-eq_of_lt h) (add-zero v)

  remainder : (v : ℕ) {d : ℕ} → d < base → (v * base + d) % base ≡ d
  remainder v {d} h = mul-add-mod_self_right v base d ∙ mod-eq_of_lt h

  value_ended : {ds : List ℕ} {k : ℕ} → Ended test ds k → digits_value base ds ≡ digits_value base (take k ds) * base + digit_value (get_or ds k 0)
  value_ended {ds} {k} e = ap (digits_value base) e.shape ∙ value_more base (take k ds) (get_or ds k 0)

  -- the value of k digits is below the base's k-th power
  pub value_below : (k : ℕ) (ds : List ℕ) → length ds ≡ k → all test ds ≡ true → digits_value base ds < base ^ k
  unfolding digits_value value_from
  value_below zero [] h a = rw pow-zero (omega arith)
  value_below zero (b ∷ ds) h a = absurd (omega arith)
  value_below (suc k) ds h a =
      let e = ended test ds k h a in
      rw (value_ended e, pow-suc base k) (next (value_below k (take k ds) e.long e.front) (B.bound _ e.last))
    where
      next : {v d m : ℕ} → v < m → d < base → v * base + d < m * base
      next {v} {d} {m} p q = omega (arith, q, mul-le-mul_right base (add-one-le p), add-mul v 1 base)

  -- the digits of the value of digits are these
  pub digits_of_value : (k : ℕ) (ds : List ℕ) → length ds ≡ k → all test ds ≡ true → digits base k (digits_value base ds) ≡ ds
  unfolding digits
  digits_of_value zero ds h a = search (rules, common_steps)
  digits_of_value (suc k) ds h a =
      let e = ended test ds k h a in
      let d : digit_value (get_or ds k 0) < base = B.bound (get_or ds k 0) e.last in
      rw (
        value_ended e,
        quotient (digits_value base (take k ds)) d,
        remainder (digits_value base (take k ds)) d,
        digits_of_value k (take k ds) e.long e.front,
        B.glyph_value (get_or ds k 0) e.last,
      )
      (sym e.shape)

  -- each digit of a number is one
  all_digits : (k n : ℕ) → all test (digits base k n) ≡ true
  unfolding digits all
  all_digits zero n = refl
  all_digits (suc k) n =
      all_append test (digits base k (n / base)) (glyph (n % base) ∷ [])
      ∙ rw (all_digits k (n / base), B.is_digit (n % base) (mod-lt n positive)) refl

  -- and their value is the number, if they are enough
  pub value_of_digits : (k n : ℕ) → n < base ^ k → digits_value base (digits base k n) ≡ n
  unfolding digits digits_value value_from
  value_of_digits zero n h = omega (arith, pow-zero base)
  value_of_digits (suc k) n h =
      value_more base (digits base k (n / base)) (glyph (n % base))
      ∙ rw
      (value_of_digits k (n / base) ((div-lt_iff_lt-mul positive).1 (rw (pow-suc base k) at h)), value_glyph (n % base) (omega (arith, mod-lt n positive, B.below)))
      (div-add-mod' n base)

-- ---- places
-- how many decimal digits a number has: at least one, enough for it, and no more than were looked for
pub places_positive : (k n : ℕ) → 0 < places k n
unfolding places
places_positive zero n = omega arith
places_positive (suc k) n = let e = places_positive k (n / 10) in search (rules, nat_tests)

tenth : (k n : ℕ) → n < 10 ^ suc k → n / 10 < 10 ^ k
tenth k n h = grind (arith, common_steps, pow-suc)

pub below_places : (k n : ℕ) → n < 10 ^ suc k → n < 10 ^ places k n
unfolding places
below_places zero n h = h
below_places (suc k) n h =
    let e = below_places k (n / 10) (tenth (suc k) n h) in
    let s : 10 ^ (places k (n / 10) + 1) ≡ 10 ^ places k (n / 10) * 10 = rw add-one (pow-suc 10 (places k (n / 10))) in
    grind (arith, nat_tests)

pub places_most : (k n : ℕ) → places k n ≤ k + 1
unfolding places
places_most zero n = omega arith
places_most (suc k) n = let e = places_most k (n / 10) in search (rules, nat_tests)

-- a smaller number has no more of them
pub places_monotone : (k m n : ℕ) → m ≤ n → places k m ≤ places k n
unfolding places
places_monotone zero m n h = omega arith
places_monotone (suc k) m n h = let e = places_monotone k (m / 10) (n / 10) (omega arith) in let f = places_positive k (n / 10) in search (rules, nat_tests)

-- below ten there is one, from ten on one more than in a tenth, and j + 2 from 10^(j + 1) on and below 10^(j + 2)
pub one_place : (k n : ℕ) → n < 10 → places k n ≡ 1
unfolding places
one_place zero n h = refl
one_place (suc k) n h = search (rules, nat_tests)

more_places : (k n : ℕ) → 10 ≤ n → places (suc k) n ≡ places k (n / 10) + 1
unfolding places
more_places k n h = grind (arith, nat_tests)

pub places_of : (k j n : ℕ) → j < k → 10 ^ suc j ≤ n → n < 10 ^ suc (suc j) → places k n ≡ j + 2
places_of zero j n hj h g = absurd (omega arith)
places_of (suc k) zero n hj h g = more_places k n h ∙ ap (λ (m : ℕ). m + 1) (one_place k (n / 10) (omega arith))
places_of (suc k) (suc j) n hj h g =
    let low : 10 ^ suc j ≤ n / 10 = grind (arith, common_steps, pow-suc) in
    let high : n / 10 < 10 ^ suc (suc j) = grind (arith, common_steps, pow-suc) in
    let two : 10 ≤ n = grind (arith, common_steps, pow-suc) in
    let e = places_of k j (n / 10) (omega arith) low high in
    let f = more_places k n two in
    omega arith

-- by the number's logarithm
pub places_by_log : (n r : ℕ) (log : Option ℕ) → r ≡ unwrap_or log 0 → IfNone log (n ≡ 0) → IfSome log (λ k. 10 ^ k ≤ n) → IfSome log (λ k. n < 10 * 10 ^ k)
    → IfSome log (λ k. k < 10) → r + 1 ≡ places 9 n
places_by_log n r None e z low high most = rw e (sym (one_place 9 n (omega arith)))
places_by_log n r (Some zero) e z low high most = rw e (sym (one_place 9 n (omega arith)))
places_by_log n r (Some (suc j)) e z low high most = rw e (sym (places_of 9 j n (omega arith) low (rw pow-suc (omega (arith, high))) ∙ omega arith))

-- the first of them is no zero, unless the number is 0
pub no_zero_first : (k n : ℕ) → 0 < n → n < 10 ^ suc k → get_or (digits 10 (places k n) n) 0 0 ≡ 48 → ⊥
unfolding digits places glyph
no_zero_first zero n h p = grind (arith, nat_tests)
no_zero_first (suc k) n h p = go (ltb n 10) refl (λ q. no_zero_first k (n / 10) q (tenth (suc k) n p))
  where
    go : (t : Bool) → ltb n 10 ≡ t → (0 < n / 10 → get_or (digits 10 (places k (n / 10)) (n / 10)) 0 0 ≡ 48 → ⊥)
        → get_or (digits 10 (cond t 1 (places k (n / 10) + 1)) n) 0 0 ≡ 48 → ⊥
    go true e i z = grind (arith, nat_tests)
    go false e i z =
        let s : digits 10 (places k (n / 10) + 1) n ≡ digits 10 (places k (n / 10)) (n / 10) ++ (glyph (n % 10) ∷ []) = rw add-one refl in
        let l = length_digits 10 (places k (n / 10)) (n / 10) in
        let q = places_positive k (n / 10) in
        grind (arith, common_steps, nat_tests)

-- further digits make a number no smaller
pub at_least : (n : ℕ) (ds : List ℕ) → n ≤ value_from 10 n ds
unfolding value_from
at_least n [] = omega arith
at_least n (b ∷ ds) = omega (arith, at_least (n * 10 + digit_value b) ds)

-- so decimal digits without a zero first say a number above 0
above_zero : (ds : List ℕ) → 0 < length ds → all is_decimal ds ≡ true → (get_or ds 0 0 ≡ 48 → ⊥) → 0 < digits_value 10 ds
unfolding all digits_value value_from is_decimal digit_value
above_zero [] h a f = absurd (omega arith)
above_zero (b ∷ ds) h a f = let e = at_least (0 * 10 + digit_value b) ds in grind (arith, nat_tests)

-- and k + 1 of them a number from 10^k on
pub least : (k : ℕ) (ds : List ℕ) → length ds ≡ suc k → all is_decimal ds ≡ true → (get_or ds 0 0 ≡ 48 → ⊥) → 10 ^ k ≤ digits_value 10 ds
least zero ds h a f = above_zero ds (omega arith) a f
least (suc k) ds h a f =
    let e = ended is_decimal ds (suc k) h a in
    let i = least k (take (suc k) ds) e.long e.front (λ z. f (sym (get_or-take (suc k) ds 0 0 (omega arith)) ∙ z)) in
    omega (arith, value_ended ten e, pow-suc 10 k)

-- the digits of D and of H: as many as they are, and each is one
pub length_decimal : (d : ℕ) → length (decimal d) ≡ places 9 d
unfolding decimal
length_decimal d = length_digits 10 (places 9 d) d

pub length_hex : (n : ℕ) → length (hex n) ≡ 8
unfolding hex
length_hex n = length_digits 16 8 n

pub all_decimal : (d : ℕ) → all is_decimal (decimal d) ≡ true
unfolding decimal
all_decimal d = all_digits ten (places 9 d) d

pub all_hex : (n : ℕ) → all is_hex (hex n) ≡ true
unfolding hex
all_hex n = all_digits sixteen 8 n

-- a pattern is the value of its hexadecimal digits, and eight of these are a pattern's
pub value_hex : (n : ℕ) → n < 2 ^ 32 → digits_value 16 (hex n) ≡ n
unfolding hex
value_hex n h = value_of_digits sixteen 8 n h

pub hex_value : (hs : List ℕ) → length hs ≡ 8 → all is_hex hs ≡ true → hex (digits_value 16 hs) ≡ hs
unfolding hex
hex_value hs h a = digits_of_value sixteen 8 hs h a
