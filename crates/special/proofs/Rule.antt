-- The route `rule`: why the special table may be read by classes, and the route's test made on patterns. What the table says of x and y turns
-- on a few tests of each, and every class has a typical value that meets the same tests (`answer_x`, `answer_y`). A class is one or two ranges of patterns
-- (`x_positive` and so on), and so is the route (`rule_of_patterns`). A row of the table fits exactly where the route is `rule` (`a_row_fits`), and
-- on the other routes x and y are finite and not zero, and x is above -1 (`off_rule`). Assumes nothing.
use mathlib.Core.Path.{◌≡◌, refl, sym, ap, ap₂, ◌∙◌, subst}
use mathlib.Core.Bool.{Bool, true, false, cond, ◌&&◌, ◌||◌}
use mathlib.Core.List.{List, [], ◌∷◌}
use Prim.Native.Nat.{ℕ, zero, suc, ◌+◌, ◌-◌, ◌*◌, ◌%◌, ◌^◌, ◌≤◌, ◌<◌}
use native.Mathlib.Nat.{zero-mul}
use native.Mathlib.Omega.{arith}
use borrow.Author.Tests.{lt-ltb, le-ltb, le-leb, lt-leb, eq-eqb, ne_eqb}
use lib.Dec.{T, leb, ltb, eqb, lt→ltb}
use lib.IntN.{ℤ, pos, negsuc}
use Rattle.std.proofs.Math.Bool.{or_assoc}
use Rattle.std.proofs.lemmas.Bool.Decides.{nat_tests}
pub use Rattle.floats.proofs.Laws.Sums.{finite_number}
use lib.Ieee.{Float, nan, inf, fin, binary32, up, down, below, level, lt, le, eq, is_nan, fits, to_bits, of_bits}
use lib.Ieee.Bits.{is_false}
use lib.Ieee.Fits.{down_pos}
use lib.Ieee.Scale.{finite}
use Rattle.special.specs.Special as Special
use Rattle.special.specs.Special.{minus_one, +infinity, -infinity, is_zero, is_special, is_rule, from_minus_one_to_zero, special_table, first_that_fits, special}
use Rattle.special.proofs.Classes.{class_of_x, class_of_y}
use Rattle.floats.proofs.Laws.Nan.{nan_of_above}
use Rattle.floats.proofs.Laws.Compare.{Order, less, same, more, order, or_true, and_false, key, key_clear, key_set, number_of_bits, lt_of_bits, eq_of_bits}

-- ---- the tests of the two columns
abbrev TestsX : Type 0
TestsX = Bool × Bool × Bool × Bool × Bool × Bool × Bool × Bool

abbrev tests_x : Float → TestsX
tests_x x = (is_nan x, lt x minus_one, is_zero x, from_minus_one_to_zero x, lt Special.zero x, eq x +infinity, eq x minus_one, le x minus_one || is_special x)

abbrev TestsY : Type 0
TestsY = Bool × Bool × Bool × Bool × Bool × Bool

abbrev tests_y : Float → TestsY
tests_y y = (is_nan y, is_zero y, eq y +infinity, eq y -infinity, lt Special.zero y, lt y Special.zero)

-- the table, and whether the route is `rule`, turn on these tests alone
module _ (x x' y y' : Float) (e : tests_x x ≡ tests_x x') (d : tests_y y ≡ tests_y y') where
  same_table : special_table x y ≡ special_table x' y'
  unfolding special_table
  same_table =
      cc (ap (λ (t : TestsX). t.0) e, ap (λ (t : TestsX). t.1) e, ap (λ (t : TestsX). t.2) e, ap (λ (t : TestsX). t.3) e, ap (λ (t : TestsX). t.4) e, ap (λ (t : TestsX). t.5) e, ap (λ (t : TestsX). t.6) e, ap (λ (t : TestsY). t.0) d, ap (λ (t : TestsY). t.1) d, ap (λ (t : TestsY). t.2) d, ap (λ (t : TestsY). t.3) d, ap (λ (t : TestsY). t.4) d, ap (λ (t : TestsY). t.5) d)

  same_rule : is_rule x y ≡ is_rule x' y'
  unfolding is_rule is_special
  same_rule = ap₂ (λ (t : TestsX) (u : TestsY). t.7 || (u.1 || u.2 || u.3 || u.0)) e d

-- ---- a typical value of each class of x, and of each class of y
abbrev pub typical_x : ℕ → Float
typical_x zero = nan
typical_x (suc zero) = fin true 1 (pos 1)
typical_x (suc (suc zero)) = minus_one
typical_x (suc (suc (suc zero))) = fin true 1 (negsuc 0)
typical_x (suc (suc (suc (suc zero)))) = Special.zero
typical_x (suc (suc (suc (suc (suc zero))))) = Special.one
typical_x (suc (suc (suc (suc (suc (suc k)))))) = +infinity

abbrev pub typical_y : ℕ → Float
typical_y zero = nan
typical_y (suc zero) = -infinity
typical_y (suc (suc zero)) = minus_one
typical_y (suc (suc (suc zero))) = Special.zero
typical_y (suc (suc (suc (suc zero)))) = Special.one
typical_y (suc (suc (suc (suc (suc k))))) = +infinity

-- what holds of each of these holds of the typical value of every number
each_x : (P : Float → Type 0) → P nan → P (fin true 1 (pos 1)) → P minus_one → P (fin true 1 (negsuc 0)) → P Special.zero → P Special.one → P +infinity → (k : ℕ) → P (typical_x k)
each_x P a b c d e f g zero = a
each_x P a b c d e f g (suc zero) = b
each_x P a b c d e f g (suc (suc zero)) = c
each_x P a b c d e f g (suc (suc (suc zero))) = d
each_x P a b c d e f g (suc (suc (suc (suc zero)))) = e
each_x P a b c d e f g (suc (suc (suc (suc (suc zero))))) = f
each_x P a b c d e f g (suc (suc (suc (suc (suc (suc k)))))) = g

each_y : (P : Float → Type 0) → P nan → P -infinity → P minus_one → P Special.zero → P Special.one → P +infinity → (l : ℕ) → P (typical_y l)
each_y P a b c d e f zero = a
each_y P a b c d e f (suc zero) = b
each_y P a b c d e f (suc (suc zero)) = c
each_y P a b c d e f (suc (suc (suc zero))) = d
each_y P a b c d e f (suc (suc (suc (suc zero)))) = e
each_y P a b c d e f (suc (suc (suc (suc (suc l))))) = f

-- the tests and the class of ±a / b
abbrev fraction_x : Bool → ℕ → ℕ → TestsX
fraction_x s a b = (
  false,
  below s a true b,
  level s a false 0,
  (below true b s a || level true b s a) && below s a false 0,
  below false 0 s a,
  false,
  level s a true b,
  below s a true b || level s a true b || (level s a false 0 || false || false || false),
)

abbrev class_x : Bool → ℕ → ℕ → ℕ
class_x s a b = cond (below s a true b) 1 (cond (level s a true b) 2 (cond (below s a false 0) 3 (cond (level s a false 0) 4 5)))

like_fraction : (s : Bool) (a b : ℕ) → 0 < b → fraction_x s a b ≡ tests_x (typical_x (class_x s a b))
unfolding is_nan lt le eq is_zero from_minus_one_to_zero is_special
like_fraction s a zero h = absurd (omega (arith, h))
like_fraction false zero (suc b) h = simp (ne_eqb 0 (suc b) (omega arith), lt-ltb 0 (suc b + 0) (omega arith))
like_fraction false (suc a) (suc b) h = simp (ne_eqb (suc a) 0 (omega arith), lt-ltb 0 (suc a) (omega arith), le-ltb (suc a) 0 (omega arith), lt-ltb 0 (suc b + suc a) (omega arith), and_false)
like_fraction true zero (suc b) h = simp (ne_eqb 0 (suc b) (omega arith), le-ltb (suc b) 0 (omega arith), lt-ltb 0 (suc b) (omega arith))
like_fraction true (suc a) (suc b) h = go (order (suc a) (suc b))
  where
    go : Order (suc a) (suc b) → fraction_x true (suc a) (suc b) ≡ tests_x (typical_x (class_x true (suc a) (suc b)))
    go (less k) = simp (ne_eqb (suc a) (suc b) (omega (arith, k)), ne_eqb (suc b) (suc a) (omega (arith, k)), le-ltb (suc b) (suc a) (omega (arith, k)), lt-ltb (suc a) (suc b) k, lt-ltb 0 (suc a + 0) (omega arith), ne_eqb (suc a) 0 (omega arith))
    go (same k) = simp (eq-eqb (suc a) (suc b) k, eq-eqb (suc b) (suc a) (sym k), le-ltb (suc b) (suc a) (omega (arith, k)), le-ltb (suc a) (suc b) (omega (arith, k)), lt-ltb 0 (suc a + 0) (omega arith), ne_eqb (suc a) 0 (omega arith))
    go (more k) = simp (ne_eqb (suc a) (suc b) (omega (arith, k)), ne_eqb (suc b) (suc a) (omega (arith, k)), lt-ltb (suc b) (suc a) k, le-ltb (suc a) (suc b) (omega (arith, k)), lt-ltb 0 (suc a + 0) (omega arith), ne_eqb (suc a) 0 (omega arith))

no_down : (e : ℤ) → 0 * 1 * down e ≡ 0
no_down e = zero-mul (down e)

like_x : (x : Float) → tests_x x ≡ tests_x (typical_x (class_of_x x))
unfolding is_nan lt le eq is_zero from_minus_one_to_zero is_special class_of_x
like_x nan = refl
like_x (inf true) = refl
like_x (inf false) = refl
like_x (fin s m e) = rw (no_down e) (like_fraction s (m * up e * 1) (1 * 1 * down e) (one_down e))
  where
    one_down : (e : ℤ) → 0 < 1 * 1 * down e
    one_down e = omega (arith, down_pos e)

abbrev fraction_y : Bool → ℕ → TestsY
fraction_y s a = (false, level s a false 0, false, false, below false 0 s a, below s a false 0)

abbrev class_y : Bool → ℕ → ℕ
class_y s a = cond (below s a false 0) 2 (cond (level s a false 0) 3 4)

like_fraction_y : (s : Bool) (a : ℕ) → fraction_y s a ≡ tests_y (typical_y (class_y s a))
unfolding is_nan lt eq is_zero
like_fraction_y false zero = refl
like_fraction_y false (suc a) = simp (ne_eqb (suc a) 0 (omega arith), lt-ltb 0 (suc a) (omega arith), le-ltb (suc a) 0 (omega arith))
like_fraction_y true zero = refl
like_fraction_y true (suc a) = simp (ne_eqb (suc a) 0 (omega arith), lt-ltb 0 (suc a + 0) (omega arith))

like_y : (y : Float) → tests_y y ≡ tests_y (typical_y (class_of_y y))
unfolding is_nan lt eq is_zero class_of_y
like_y nan = refl
like_y (inf true) = refl
like_y (inf false) = refl
like_y (fin s m e) = rw (no_down e) (like_fraction_y s (m * up e * 1))

-- x of the class k is answered as its typical value is, and y of the class l
pub answer_x : (x y : Float) (k : ℕ) → k ≡ class_of_x x → special (typical_x k) y ≡ special x y
unfolding special
answer_x x y k p = ap (λ (i : ℕ). special (typical_x i) y) p ∙ sym (ap first_that_fits (same_table x (typical_x (class_of_x x)) y y (like_x x) refl))

pub answer_y : (x y : Float) (l : ℕ) → l ≡ class_of_y y → special x (typical_y l) ≡ special x y
unfolding special
answer_y x y l q = ap (λ (j : ℕ). special x (typical_y j)) q ∙ sym (ap first_that_fits (same_table x x y (typical_y (class_of_y y)) refl (like_y y)))

-- ---- classes of patterns: the tests by the key
abbrev class_of_key_x : ℕ → ℕ
class_of_key_x k =
    cond (ltb k 0x4080_0000) 1
    (cond (eqb k 0x4080_0000) 2
    (cond (ltb k 0x8000_0000) 3
    (cond (eqb k 0x8000_0000) 4
    (cond (eqb k 0xff80_0000) 6 5))))

abbrev class_of_key_y : ℕ → ℕ
class_of_key_y k =
    cond (eqb k 0x0080_0000) 1
    (cond (ltb k 0x8000_0000) 2
    (cond (eqb k 0x8000_0000) 3
    (cond (eqb k 0xff80_0000) 5 4)))

module _ (n : ℕ) (h : n < 2 ^ 32) (k : n % 2 ^ 31 ≤ 0x7f80_0000) where
  number : is_nan (of_bits binary32 n) ≡ false
  number = is_false (is_nan (of_bits binary32 n)) (number_of_bits binary32 n k)

  x_by_key : class_of_x (of_bits binary32 n) ≡ class_of_key_x (key binary32 n)
  unfolding class_of_x is_zero fits is_nan to_bits
  x_by_key =
      rw (
        number,
        lt_of_bits binary32 n minus_one h k tt tt,
        eq_of_bits binary32 n minus_one h k tt tt,
        lt_of_bits binary32 n Special.zero h k tt tt,
        eq_of_bits binary32 n Special.zero h k tt tt,
        eq_of_bits binary32 n +infinity h k tt tt,
      ) refl

  y_by_key : class_of_y (of_bits binary32 n) ≡ class_of_key_y (key binary32 n)
  unfolding class_of_y is_zero fits is_nan to_bits
  y_by_key =
      rw (
        number,
        eq_of_bits binary32 n -infinity h k tt tt,
        lt_of_bits binary32 n Special.zero h k tt tt,
        eq_of_bits binary32 n Special.zero h k tt tt,
        eq_of_bits binary32 n +infinity h k tt tt,
      ) refl

-- ---- the class of each range of patterns
-- above 0 and finite
pub x_positive : (n : ℕ) → 0 < n → n < 0x7f80_0000 → 5 ≡ class_of_x (of_bits binary32 n)
x_positive n h k =
    sym (x_by_key n (omega arith) (omega arith) ∙ ap class_of_key_x (key_clear binary32 n (omega arith)) ∙ go (2 ^ 31 + n) (omega arith) (omega arith))
  where
    go : (k : ℕ) → 0x8000_0000 < k → k < 0xff80_0000 → class_of_key_x k ≡ 5
    go k h g = grind (arith, nat_tests)

-- between -1 and 0
pub x_to_zero : (n : ℕ) → 0x8000_0000 < n → n < 0xbf80_0000 → 3 ≡ class_of_x (of_bits binary32 n)
x_to_zero n h k =
    sym (x_by_key n (omega arith) (omega arith) ∙ ap class_of_key_x (key_set binary32 n (omega arith)) ∙ go (2 ^ 32 - n) (omega arith) (omega arith))
  where
    go : (k : ℕ) → 0x4080_0000 < k → k < 0x8000_0000 → class_of_key_x k ≡ 3
    go k h g = grind (arith, nat_tests)

-- below -1 or -infinity
pub x_below : (n : ℕ) → 0xbf80_0000 < n → n ≤ 0xff80_0000 → 1 ≡ class_of_x (of_bits binary32 n)
x_below n h k =
    sym (x_by_key n (omega arith) (omega arith) ∙ ap class_of_key_x (key_set binary32 n (omega arith)) ∙ go (2 ^ 32 - n) (omega arith))
  where
    go : (k : ℕ) → k < 0x4080_0000 → class_of_key_x k ≡ 1
    go k h = grind (arith, nat_tests)

-- above 0 and finite
pub y_positive : (n : ℕ) → 0 < n → n < 0x7f80_0000 → 4 ≡ class_of_y (of_bits binary32 n)
y_positive n h k =
    sym (y_by_key n (omega arith) (omega arith) ∙ ap class_of_key_y (key_clear binary32 n (omega arith)) ∙ go (2 ^ 31 + n) (omega arith) (omega arith))
  where
    go : (k : ℕ) → 0x8000_0000 < k → k < 0xff80_0000 → class_of_key_y k ≡ 4
    go k h g = grind (arith, nat_tests)

-- below 0 and finite
pub y_negative : (n : ℕ) → 0x8000_0000 < n → n < 0xff80_0000 → 2 ≡ class_of_y (of_bits binary32 n)
y_negative n h k =
    sym (y_by_key n (omega arith) (omega arith) ∙ ap class_of_key_y (key_set binary32 n (omega arith)) ∙ go (2 ^ 32 - n) (omega arith) (omega arith))
  where
    go : (k : ℕ) → 0x0080_0000 < k → k < 0x8000_0000 → class_of_key_y k ≡ 2
    go k h g = grind (arith, nat_tests)

-- a NaN
pub x_nan : (n : ℕ) → 0x7f80_0000 < n % 2 ^ 31 → 0 ≡ class_of_x (of_bits binary32 n)
unfolding class_of_x is_nan
x_nan n h = sym (ap class_of_x (nan_of_above binary32 n h))

-- and for y
pub y_nan : (n : ℕ) → 0x7f80_0000 < n % 2 ^ 31 → 0 ≡ class_of_y (of_bits binary32 n)
unfolding class_of_y is_nan
y_nan n h = sym (ap class_of_y (nan_of_above binary32 n h))

-- the classes of single patterns: +0, +infinity, -0 and -1 for x
pub x_single : (4 ≡ class_of_x (of_bits binary32 0)) × (6 ≡ class_of_x (of_bits binary32 0x7f80_0000)) × (4 ≡ class_of_x (of_bits binary32 0x8000_0000)) × (2 ≡ class_of_x (of_bits binary32 0xbf80_0000))
unfolding class_of_x of_bits is_nan lt eq is_zero
x_single = (refl, refl, refl, refl)

-- +0, +infinity, -0 and -infinity for y
pub y_single : (3 ≡ class_of_y (of_bits binary32 0)) × (5 ≡ class_of_y (of_bits binary32 0x7f80_0000)) × (3 ≡ class_of_y (of_bits binary32 0x8000_0000)) × (1 ≡ class_of_y (of_bits binary32 0xff80_0000))
unfolding class_of_y of_bits is_nan lt eq is_zero
y_single = (refl, refl, refl, refl)

-- ---- which pairs take the route `rule`, by the classes and by the patterns
abbrev rule_x : Float → Bool
rule_x x = le x minus_one || is_special x

rule_of_x : (x : Float) (k : ℕ) → k ≡ class_of_x x → rule_x (typical_x k) ≡ rule_x x
rule_of_x x k e = ap (λ (i : ℕ). rule_x (typical_x i)) e ∙ sym (ap (λ (t : TestsX). t.7) (like_x x))

special_of_y : (y : Float) (l : ℕ) → l ≡ class_of_y y → is_special (typical_y l) ≡ is_special y
unfolding is_special
special_of_y y l e =
    ap (λ (j : ℕ). is_special (typical_y j)) e ∙ sym (ap (λ (t : TestsY). t.1 || t.2 || t.3 || t.0) (like_y y))

-- the test on a pattern for a zero, an infinity or a NaN
abbrev end_bits : ℕ → Bool
end_bits n = eqb (n % 2 ^ 31) 0 || leb 0x7f80_0000 (n % 2 ^ 31)

inner : (n : ℕ) → 0 < n % 2 ^ 31 → n % 2 ^ 31 < 0x7f80_0000 → end_bits n ≡ false
inner n h k = grind (arith, nat_tests)

over : (n : ℕ) → 0x7f80_0000 < n % 2 ^ 31 → end_bits n ≡ true
over n h = grind (arith, nat_tests)

-- the kinds of patterns: a zero's, an infinity's, a finite value's with either sign, a NaN's
pub data Kind (n : ℕ) : Type 0 where
  plus_zero_lem : n ≡ 0 → Kind n
  minus_zero : n ≡ 0x8000_0000 → Kind n
  plus_infinity : n ≡ 0x7f80_0000 → Kind n
  minus_infinity : n ≡ 0xff80_0000 → Kind n
  positive : 0 < n → n < 0x7f80_0000 → Kind n
  negative : 0x8000_0000 < n → n < 0xff80_0000 → Kind n
  no_number : 0x7f80_0000 < n % 2 ^ 31 → Kind n

pub kind : (n : ℕ) → n < 2 ^ 32 → Kind n
kind n h = go (order n 0) (order n 0x7f80_0000) (order n 0x8000_0000) (order n 0xff80_0000)
  where
    go : Order n 0 → Order n 0x7f80_0000 → Order n 0x8000_0000 → Order n 0xff80_0000 → Kind n
    go (less a) b c d = absurd (omega (arith, a))
    go (same a) b c d = plus_zero_lem a
    go (more a) (less b) c d = positive a b
    go (more a) (same b) c d = plus_infinity b
    go (more a) (more b) (less c) d = no_number (omega (arith, b, c))
    go (more a) (more b) (same c) d = minus_zero c
    go (more a) (more b) (more c) (less d) = negative c d
    go (more a) (more b) (more c) (same d) = minus_infinity d
    go (more a) (more b) (more c) (more d) = no_number (omega (arith, d, h))

special_bits : (n : ℕ) → n < 2 ^ 32 → end_bits n ≡ is_special (of_bits binary32 n)
unfolding is_special is_zero is_nan eq of_bits
special_bits n h = go (kind n h)
  where
    at : (k : ℕ) → n ≡ k → end_bits k ≡ is_special (of_bits binary32 k) → end_bits n ≡ is_special (of_bits binary32 n)
    at k e p = subst (λ (i : ℕ). end_bits i ≡ is_special (of_bits binary32 i)) (sym e) p

    go : Kind n → end_bits n ≡ is_special (of_bits binary32 n)
    go (plus_zero_lem e) = at 0 e refl
    go (minus_zero e) = at 0x8000_0000 e refl
    go (plus_infinity e) = at 0x7f80_0000 e refl
    go (minus_infinity e) = at 0xff80_0000 e refl
    go (positive a b) = inner n (omega (arith, a, b)) (omega (arith, a, b)) ∙ special_of_y (of_bits binary32 n) 4 (y_positive n a b)
    go (negative a b) = inner n (omega (arith, a, b)) (omega (arith, a, b)) ∙ special_of_y (of_bits binary32 n) 2 (y_negative n a b)
    go (no_number a) = over n a ∙ sym (ap is_special (nan_of_above binary32 n a))

rule_bits : (n : ℕ) → n < 2 ^ 32 → (leb 0xbf80_0000 n || end_bits n) ≡ rule_x (of_bits binary32 n)
unfolding is_special is_zero is_nan lt le eq of_bits
rule_bits n h = go (kind n h) (order n 0xbf80_0000)
  where
    at : (k : ℕ) → n ≡ k → (leb 0xbf80_0000 k || end_bits k) ≡ rule_x (of_bits binary32 k) → (leb 0xbf80_0000 n || end_bits n) ≡ rule_x (of_bits binary32 n)
    at k e p = subst (λ (i : ℕ). (leb 0xbf80_0000 i || end_bits i) ≡ rule_x (of_bits binary32 i)) (sym e) p

    go : Kind n → Order n 0xbf80_0000 → (leb 0xbf80_0000 n || end_bits n) ≡ rule_x (of_bits binary32 n)
    go (plus_zero_lem e) o = at 0 e refl
    go (minus_zero e) o = at 0x8000_0000 e refl
    go (plus_infinity e) o = at 0x7f80_0000 e refl
    go (minus_infinity e) o = at 0xff80_0000 e refl
    go (positive a b) o =
        ap₂ ◌||◌ (lt-leb 0xbf80_0000 n (omega (arith, b))) (inner n (omega (arith, a, b)) (omega (arith, a, b))) ∙ rule_of_x (of_bits binary32 n) 5 (x_positive n a b)
    go (negative a b) (less o) =
        ap₂ ◌||◌ (lt-leb 0xbf80_0000 n o) (inner n (omega (arith, a, b)) (omega (arith, a, b))) ∙ rule_of_x (of_bits binary32 n) 3 (x_to_zero n a o)
    go (negative a b) (same o) = at 0xbf80_0000 o refl
    go (negative a b) (more o) =
        ap (λ (z : Bool). z || end_bits n) (le-leb 0xbf80_0000 n (omega (arith, o))) ∙ rule_of_x (of_bits binary32 n) 1 (x_below n o (omega (arith, b)))
    go (no_number a) o =
        ap (λ (z : Bool). leb 0xbf80_0000 n || z) (over n a) ∙ or_true (leb 0xbf80_0000 n) ∙ sym (ap rule_x (nan_of_above binary32 n a))

-- the route's test, as the code has it
pub rule_of_patterns : (m n : ℕ) → m < 2 ^ 32 → n < 2 ^ 32
    → (leb 0xbf80_0000 m || eqb (m % 2 ^ 31) 0 || leb 0x7f80_0000 (m % 2 ^ 31) || eqb (n % 2 ^ 31) 0 || leb 0x7f80_0000 (n % 2 ^ 31)) ≡ is_rule (of_bits binary32 m) (of_bits binary32 n)
unfolding is_rule
rule_of_patterns m n h k =
    or_assoc (leb 0xbf80_0000 m || eqb (m % 2 ^ 31) 0 || leb 0x7f80_0000 (m % 2 ^ 31)) (eqb (n % 2 ^ 31) 0) (leb 0x7f80_0000 (n % 2 ^ 31))
    ∙ ap₂ ◌||◌ (or_assoc (leb 0xbf80_0000 m) (eqb (m % 2 ^ 31) 0) (leb 0x7f80_0000 (m % 2 ^ 31)) ∙ rule_bits m h) (special_bits n k)

-- ---- the rows that fit
-- whether some row does
unfoldable pub any_row_fits : List (Bool × Float) → Bool
any_row_fits [] = false
any_row_fits ((fits, r) ∷ rest) = fits || any_row_fits rest

abbrev Agrees : Float → Float → Type 0
Agrees x y = is_rule x y ≡ any_row_fits (special_table x y)

typical_agrees : (k l : ℕ) → Agrees (typical_x k) (typical_y l)
unfolding is_rule special_table is_nan lt le eq is_zero from_minus_one_to_zero is_special any_row_fits
typical_agrees k l =
    each_x (λ (x : Float). Agrees x (typical_y l))
    (each_y (Agrees nan) refl refl refl refl refl refl l)
    (each_y (Agrees (fin true 1 (pos 1))) refl refl refl refl refl refl l)
    (each_y (Agrees minus_one) refl refl refl refl refl refl l)
    (each_y (Agrees (fin true 1 (negsuc 0))) refl refl refl refl refl refl l)
    (each_y (Agrees Special.zero) refl refl refl refl refl refl l)
    (each_y (Agrees Special.one) refl refl refl refl refl refl l)
    (each_y (Agrees +infinity) refl refl refl refl refl refl l)
    k

-- one does exactly where the route is `rule`
pub a_row_fits : (x y : Float) → is_rule x y ≡ any_row_fits (special_table x y)
a_row_fits x y =
    let x' = typical_x (class_of_x x) in
    let y' = typical_y (class_of_y y) in
    same_rule x x' y y' (like_x x) (like_y y) ∙ typical_agrees (class_of_x x) (class_of_y y) ∙ ap any_row_fits (sym (same_table x x' y y' (like_x x) (like_y y)))

-- ---- a pair that takes another route
-- both are finite and not zero, and x is above -1
pub record OffRule (x y : Float) : Type 0 where
  pub x_finite : T (finite x)
  pub y_finite : T (finite y)
  pub x_not_zero : eq x Special.zero ≡ false
  pub y_not_zero : eq y Special.zero ≡ false
  pub x_above : T (lt minus_one x)

or_left : (a b : Bool) → (a || b) ≡ false → a ≡ false
or_left a b e = grind arith

or_right : (a b : Bool) → (a || b) ≡ false → b ≡ false
or_right a b e = grind arith

finite_of : (x : Float) → is_special x ≡ false → T (finite x)
unfolding is_special is_zero eq is_nan
finite_of nan e = absurd (subst T e tt)
finite_of (inf true) e = absurd (subst T e tt)
finite_of (inf false) e = absurd (subst T e tt)
finite_of (fin s m d) e = tt

not_zero_of : (x : Float) → is_special x ≡ false → eq x Special.zero ≡ false
unfolding is_special is_zero
not_zero_of x e =
    or_left (eq x Special.zero) (eq x +infinity)
    (or_left (eq x Special.zero || eq x +infinity) (eq x -infinity) (or_left (eq x Special.zero || eq x +infinity || eq x -infinity) (is_nan x) e))

over_one : (a b : ℕ) → (ltb b a || (eqb a b && true)) ≡ false → T (ltb a b)
over_one a b e = grind (arith, nat_tests)

above_of : (x : Float) → T (finite x) → le x minus_one ≡ false → T (lt minus_one x)
unfolding le lt eq
above_of nan t e = absurd t
above_of (inf s) t e = absurd t
above_of (fin true m d) t e = over_one (m * up d * 1) (1 * down d) e
above_of (fin false m d) t e = lt→ltb 0 (1 * down d + m * up d * 1) (omega (arith, down_pos d))

-- so it is wherever the test fails
pub off_rule : (x y : Float) → is_rule x y ≡ false → OffRule x y
unfolding is_rule
off_rule x y e =
    let a : rule_x x ≡ false = or_left (rule_x x) (is_special y) e in
    let p : is_special x ≡ false = or_right (le x minus_one) (is_special x) a in
    let q : is_special y ≡ false = or_right (rule_x x) (is_special y) e in
    record {
      x_finite = finite_of x p;
      y_finite = finite_of y q;
      x_not_zero = not_zero_of x p;
      y_not_zero = not_zero_of y q;
      x_above = above_of x (finite_of x p) (or_left (le x minus_one) (is_special x) a);
    }
