-- The order of any two f64s, the infinities among them: a finite term on both sides keeps it (`add_keeps`). Two numbers with the same parts, not both 0, are the same f64 (`same_float`). Assumes nothing.
use mathlib.Core.Path.{◌≡◌, refl, sym, ap, subst}
use mathlib.Core.Bool.{Bool, true, false, not}
use Prim.Native.Nat.{ℕ, ◌+◌, ◌*◌, ◌^◌, ◌<◌}
use native.Mathlib.Omega.{arith}
use lib.Dec.{T}
use lib.IntN.{ℤ}
use lib.Pow.{pow_pos}
use lib.Ieee.{Float, nan, inf, fin, binary64, add, le, fits, is_nan}
use lib.Ieee.Exact.{HasValue}
use lib.Ieee.Scale.{finite}
use Rattle.floats.specs.Operations.{◌⊕◌}
use Rattle.floats.proofs.Laws.Rounding.{same_value}
use Rattle.floats.proofs.Laws.Sums.{add_number, add_mono_left}
use Rattle.floats.proofs.Laws.Units.{exponent, in_units}
use Rattle.bounds.proofs.Values.{plus, less, mag, Number, of_numbers}

-- the infinities are the ends
under_all : (x : Float) → T (not (is_nan x)) → T (le (inf true) x)
unfolding le is_nan
under_all nan n = absurd n
under_all (inf true) n = tt
under_all (inf false) n = tt
under_all (fin t k d) n = tt

over_all : (x : Float) → T (not (is_nan x)) → T (le x (inf false))
unfolding le is_nan
over_all nan n = absurd n
over_all (inf true) n = tt
over_all (inf false) n = tt
over_all (fin t k d) n = tt

-- a finite c added on both sides
pub add_keeps : (c x y : Float) → T (finite c) → T (le x y) → T (le (x ⊕ c) (y ⊕ c))
unfolding le add is_nan
add_keeps nan x y p h = absurd p
add_keeps (inf u) x y p h = absurd p
add_keeps (fin u k i) nan y p h = absurd h
add_keeps (fin u k i) (inf s) nan p h = absurd h
add_keeps (fin u k i) (inf s) (inf t) p h = h
add_keeps (fin u k i) (inf false) (fin t n d) p h = absurd h
add_keeps (fin u k i) (inf true) (fin t n d) p h = under_all (fin t n d ⊕ fin u k i) (add_number binary64 (fin t n d) u k i tt)
add_keeps (fin u k i) (fin s m e) nan p h = absurd h
add_keeps (fin u k i) (fin s m e) (inf true) p h = absurd h
add_keeps (fin u k i) (fin s m e) (inf false) p h = over_all (fin s m e ⊕ fin u k i) (add_number binary64 (fin s m e) u k i tt)
add_keeps (fin u k i) (fin s m e) (fin t n d) p h = add_mono_left binary64 (fin u k i) (fin s m e) (fin t n d) tt tt tt h

-- what is between a finite value and itself is finite
pub finite_between : (x y : Float) → T (finite x) → T (le x y) → T (le y x) → T (finite y)
unfolding le
finite_between nan y p g h = absurd p
finite_between (inf s) y p g h = absurd p
finite_between (fin s m e) nan p g h = absurd g
finite_between (fin s m e) (inf true) p g h = absurd g
finite_between (fin s m e) (inf false) p g h = absurd h
finite_between (fin s m e) (fin t n d) p g h = tt

-- m × 2^e in units
value_in_units : (s : Bool) (m : ℕ) (e : ℤ) → T (fits binary64 (fin s m e)) → HasValue (fin s m e) s (m * 2 ^ exponent 1074 e) (2 ^ 1074)
value_in_units s m e t = (refl, in_units binary64 s m e t)

-- with the same sign and as many units
level : (s : Bool) (m : ℕ) (e : ℤ) (n : ℕ) (d : ℤ) → T (fits binary64 (fin s m e)) → T (fits binary64 (fin s n d)) → m * 2 ^ exponent 1074 e ≡ n * 2 ^ exponent 1074 d → fin s m e ≡ fin s n d
level s m e n d p q h =
    let X = m * 2 ^ exponent 1074 e in
    same_value binary64 (fin s m e) (fin s n d) s X (2 ^ 1074) X (pow_pos 1074) refl p q (value_in_units s m e p) (subst (λ (k : ℕ). HasValue (fin s n d) s k (2 ^ 1074)) (sym h) (value_in_units s n d q))

not_both : (a : ℕ) → a ≡ 0 → 0 < a → ⊥
not_both a e h = omega arith

pub same_float : (x y : Float) → Number x → Number y → plus x ≡ plus y → less x ≡ less y → 0 < mag x → x ≡ y
same_float = of_numbers (λ (x y : Float). plus x ≡ plus y → less x ≡ less y → 0 < mag x → x ≡ y) go
  where
    go : (s : Bool) (m : ℕ) (e : ℤ) (t : Bool) (n : ℕ) (d : ℤ) → T (fits binary64 (fin s m e)) → T (fits binary64 (fin t n d)) → plus (fin s m e) ≡ plus (fin t n d) → less (fin s m e) ≡ less (fin t n d)
        → 0 < mag (fin s m e) → fin s m e ≡ fin t n d
    go false m e false n d p q a b h = level false m e n d p q a
    go true m e true n d p q a b h = level true m e n d p q b
    go false m e true n d p q a b h = absurd (not_both (m * 2 ^ exponent 1074 e + 0) (ap (λ (k : ℕ). k + 0) a) h)
    go true m e false n d p q a b h = absurd (not_both (0 + m * 2 ^ exponent 1074 e) (ap (λ (k : ℕ). 0 + k) b) h)
