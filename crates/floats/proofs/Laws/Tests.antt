-- A choice by a test whose outcome is known. Assumes nothing.
use Rattle.std.proofs.Common.{◌≡◌, ℕ, Bool, true, false, cond, ◌&&◌, ltb, leb, sym, ap, arith}
use Rattle.std.proofs.lemmas.Bool.Decides.{nat_tests}
use borrow.Author.Tests.{not-true, not-false}
use lib.Ieee.{Float, eq, ne}

-- the first of two where the test is true, and the second where it is false
pub first {ℓ} : {A : Type ℓ} (b : Bool) (x y : A) → b ≡ true → x ≡ cond b x y
first b x y e = ap (λ (t : Bool). cond t x y) (sym e)

pub second {ℓ} : {A : Type ℓ} (b : Bool) (x y : A) → b ≡ false → y ≡ cond b x y
second b x y e = ap (λ (t : Bool). cond t x y) (sym e)

-- a choice by m ≥ n is the choice by m < n with its two sides the other way round
pub swapped {ℓ} : {A : Type ℓ} (m n : ℕ) (x y : A) → cond (ltb m n) y x ≡ cond (leb n m) x y
swapped m n x y = grind (arith, nat_tests)

-- of three tests, where the outcome of the first two is known
pub joined : (a b c x y : Bool) → a ≡ x → b ≡ y → (x && y && c) ≡ (a && b && c)
joined a b c x y e d = cc

-- of floats, that they differ is that they are not equal
pub differ_no : (x y : Float) → ne x y ≡ true → eq x y ≡ false
unfolding ne
differ_no x y e = not-true (eq x y) e

pub same_yes : (x y : Float) → ne x y ≡ false → eq x y ≡ true
unfolding ne
same_yes x y e = not-false (eq x y) e
