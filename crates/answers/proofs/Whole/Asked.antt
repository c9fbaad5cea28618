-- What the bound of demand 3 asks of x and y: a whole y with 1 <= |y| <= 16, and a nonzero x with -1 < x < 2^64. Such a pair is not of the route `rule`
-- (`not_rule`) but of the route `whole` (`takes_whole`, `on_route`); |y| is a number from 1 to 16, and what the route casts it to (`size_from_1`,
-- `size_to_16`, `cast_is`). Assumes nothing.
use mathlib.Core.Path.{◌≡◌, refl, sym, ap₂}
use mathlib.Core.Logic.{◌⊎◌, inl, inr}
use mathlib.Core.Bool.{Bool, true, false, not, cond, ◌&&◌}
use Prim.Native.Nat.{ℕ, ◌+◌, ◌-◌, ◌*◌, ◌/◌, ◌^◌, ◌≤◌, ◌<◌}
use native.Mathlib.Nat.{le_trans, le-div_iff_mul-le}
use native.Mathlib.Omega.{arith}
use borrow.Author.Tests.{le-ltb, lt-ltb}
use lib.Dec.{T, ltb, eqb, ltb→lt, lt→ltb, eqb→eq, T_not, lit≤}
use lib.IntN.{ℤ, pos}
use lib.Ieee.{Float, fin, up, down, lt, le, eq, is_nan, to_unsigned}
use lib.Ieee.Bits.{is_true}
use lib.Ieee.Fits.{and_l, and_r, and_i, down_pos}
use Rattle.floats.specs.OnBits.{absolute, is_integer}
use Rattle.floats.proofs.Laws.Cast.{part_at_most}
use Rattle.floats.proofs.Laws.Compare.{at_most}
use Rattle.floats.proofs.Laws.Order.{or_split}
use Rattle.floats.proofs.Laws.Place.{min_left}
use Rattle.special.specs.Special.{one, minus_one, is_zero, is_special, is_rule}
use Rattle.special.specs.Special as Special
use Rattle.whole.specs.Whole as Whole
use Rattle.whole.specs.Whole.{is_whole}
use Rattle.compound.specs.declared.Route.TheVariants.{Rule as rule, Whole as whole}
use Rattle.compound.specs.Answer.{Outcome}
use Rattle.compound.specs.Route.{compound, table_path}
use Rattle.answers.specs.Claims.{answer, whole_to16, x_in_range}

-- a test that fails
no : (b : Bool) → (T b → ⊥) → b ≡ false
no true f = absurd (f tt)
no false f = refl

-- ---- what is asked, part by part
pub record AskedX (x : Float) : Type 0 where
  pub nonzero : is_zero x ≡ false
  pub above : T (lt minus_one x)
  pub under : T (lt x (fin false 1 (pos 64)))

pub asked_x : (x : Float) → T (x_in_range x) → AskedX x
unfolding x_in_range
asked_x x h =
    let two = and_l (not (is_zero x) && lt minus_one x) (lt x (fin false 1 (pos 64))) h in
    record {
      nonzero = no (is_zero x) (T_not (is_zero x) (and_l (not (is_zero x)) (lt minus_one x) two));
      above = and_r (not (is_zero x)) (lt minus_one x) two;
      under = and_r (not (is_zero x) && lt minus_one x) (lt x (fin false 1 (pos 64))) h;
    }

pub record AskedY (y : Float) : Type 0 where
  pub integer : T (is_integer y)
  pub from_1 : T (le one (absolute y))
  pub to_16 : T (le (absolute y) (fin false 1 (pos 4)))

pub asked_y : (y : Float) → T (whole_to16 y) → AskedY y
unfolding whole_to16
asked_y y h =
    let two = and_l (is_integer y && le one (absolute y)) (le (absolute y) (fin false 1 (pos 4))) h in
    record {
      integer = and_l (is_integer y) (le one (absolute y)) two;
      from_1 = and_r (is_integer y) (le one (absolute y)) two;
      to_16 = and_r (is_integer y && le one (absolute y)) (le (absolute y) (fin false 1 (pos 4))) h;
    }

-- ---- the exponent
-- |y| as a number, for a finite y
abbrev pub size : ℕ → ℤ → ℕ
size n d = n * up d / down d

plain : (a d : ℕ) → 1 * d ≤ a * 1 → 1 * d ≤ a
plain a d h = omega arith

pub size_from_1 : (t : Bool) (n : ℕ) (d : ℤ) → T (le one (absolute (fin t n d))) → 0 < size n d
unfolding le absolute
size_from_1 t n d h = (le-div_iff_mul-le (down_pos d)).1 (plain (n * up d) (down d) (at_most (1 * 1 * down d) (n * up d * 1) h))

sixteen : (a d : ℕ) → a * 1 ≤ 1 * 16 * d → a ≤ 16 * d
sixteen a d h = omega arith

pub size_to_16 : (t : Bool) (n : ℕ) (d : ℤ) → T (le (absolute (fin t n d)) (fin false 1 (pos 4))) → size n d ≤ 16
unfolding le absolute
size_to_16 t n d h = part_at_most 16 (n * up d) (down d) (down_pos d) (sixteen (n * up d) (down d) (at_most (n * up d * 1) (1 * 2 ^ 4 * down d) h))

-- it is what the route casts |y| to
pub cast_is : (t : Bool) (n : ℕ) (d : ℤ) → size n d ≤ 16 → to_unsigned 32 (absolute (fin t n d)) ≡ size n d
unfolding to_unsigned absolute
cast_is t n d h = sym (min_left (size n d) (2 ^ 32 - 1) (le_trans h (lit≤ tt)))

-- and the route's test of its sign
pub sign_is : (t : Bool) (n : ℕ) (d : ℤ) → 0 < n * up d → lt (fin t n d) Special.zero ≡ t
unfolding lt
sign_is false n d h = le-ltb (n * up d * 1) (0 * 1 * down d) (omega arith)
sign_is true n d h = lt-ltb 0 (n * up d * 1 + 0 * 1 * down d) (omega arith)

-- ---- the route
not_below : (s : Bool) (m : ℕ) (e : ℤ) → T (lt minus_one (fin s m e)) → le (fin s m e) minus_one ≡ false
unfolding le lt eq
not_below false m e h = no (le (fin false m e) minus_one) (λ z. apart (m * up e * 1) (down e) (down_pos e) z)
  where
    apart : (a c : ℕ) → 0 < c → T (eqb a (1 * c) && eqb a 0) → ⊥
    apart a c h z = omega (arith, eqb→eq a (1 * c) (and_l (eqb a (1 * c)) (eqb a 0) z), eqb→eq a 0 (and_r (eqb a (1 * c)) (eqb a 0) z))
not_below true m e h = no (le (fin true m e) minus_one) (λ z. apart (m * up e * 1) (1 * down e) (ltb→lt (m * up e * 1) (1 * down e) h) (or_split (ltb (1 * down e) (m * up e * 1)) _ z))
  where
    apart : (a c : ℕ) → a < c → T (ltb c a) ⊎ T (eqb a c && true) → ⊥
    apart a c h (inl z) = omega (arith, ltb→lt c a z)
    apart a c h (inr z) = omega (arith, eqb→eq a c (and_l (eqb a c) true z))

not_zero : (t : Bool) (n : ℕ) (d : ℤ) → 0 < n * up d → is_zero (fin t n d) ≡ false
unfolding is_zero eq
not_zero t n d h = no (eq (fin t n d) Special.zero) (λ z. none (n * up d) (down d) h (eqb→eq (n * up d * 1) (0 * 1 * down d) (and_l (eqb (n * up d * 1) (0 * 1 * down d)) _ z)))
  where
    none : (a c : ℕ) → 0 < a → a * 1 ≡ 0 * c → ⊥
    none a c h e = omega arith

not_special : (s : Bool) (m : ℕ) (e : ℤ) → is_zero (fin s m e) ≡ false → is_special (fin s m e) ≡ false
unfolding is_special eq is_nan
not_special s m e h = rw h

pub not_rule : (s : Bool) (m : ℕ) (e : ℤ) (t : Bool) (n : ℕ) (d : ℤ) → T (lt minus_one (fin s m e)) → is_zero (fin s m e) ≡ false → 0 < n * up d → is_rule (fin s m e) (fin t n d) ≡ false
unfolding is_rule
not_rule s m e t n d h z p = rw (not_below s m e h, not_special s m e z, not_special t n d (not_zero t n d p))

below_2_64 : (s : Bool) (m : ℕ) (e : ℤ) → T (lt minus_one (fin s m e)) → T (lt (fin s m e) (fin false 1 (pos 64))) → T (lt (absolute (fin s m e)) (fin false 1 (pos 64)))
unfolding lt absolute
below_2_64 false m e h l = l
below_2_64 true m e h l = lt→ltb (m * up e * 1) (1 * 2 ^ 64 * down e) (wider (m * up e * 1) (down e) (ltb→lt (m * up e * 1) (1 * 1 * down e) h))
  where
    wider : (a c : ℕ) → a < 1 * c → a < 1 * 2 ^ 64 * c
    wider a c h = omega arith

pub takes_whole : (s : Bool) (m : ℕ) (e : ℤ) (y : Float) → AskedX (fin s m e) → AskedY y → is_whole (fin s m e) y ≡ true
unfolding is_whole
takes_whole s m e y a b =
    is_true (is_integer y && le (absolute y) (fin false 1 (pos 4)) && lt (absolute (fin s m e)) (fin false 1 (pos 64)))
    (and_i (is_integer y && le (absolute y) (fin false 1 (pos 4))) (lt (absolute (fin s m e)) (fin false 1 (pos 64)))
    (and_i (is_integer y) (le (absolute y) (fin false 1 (pos 4))) b.integer b.to_16)
    (below_2_64 s m e a.above a.under))

-- so the answer is that route's
pub on_route : (x y : Float) → is_rule x y ≡ false → is_whole x y ≡ true → Whole.whole x y ≡ answer x y
unfolding compound
on_route x y e d = ap₂ (λ (a b : Bool). (cond a by_rule (cond b by_powers (table_path x y))).value) (sym e) (sym d)
  where
    by_rule : Outcome
    by_rule = record { via = rule; value = Special.special x y }

    by_powers : Outcome
    by_powers = record { via = whole; value = Whole.whole x y }
