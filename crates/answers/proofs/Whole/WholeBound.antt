-- The bound of demand 3 (`whole_bound`): for a whole y with 1 <= |y| <= 16 and a nonzero x with -1 < x < 2^64 the answer lies between the nearest f32 to
-- E × (1 - 2^-47) and the nearest f32 to E × (1 + 2^-47). Assumes nothing.
use mathlib.Core.Path.{◌≡◌, refl, sym, ◌∙◌, subst}
use mathlib.Core.Bool.{Bool, true, false, cond}
use Prim.Native.Nat.{ℕ, zero, suc, ◌-◌, ◌*◌, ◌^◌, ◌≤◌, ◌<◌}
use native.Mathlib.Nat.{mul-one, pow-zero, pow-suc, pos_of_div-pos}
use native.Mathlib.Omega.{arith}
use lib.Dec.{T, lit≤}
use lib.IntN.{ℤ, pos}
use lib.Ieee.{Float, nan, inf, fin, binary32, down, lt, le, fits, to_unsigned}
use Rattle.floats.specs.Operations.{◌⊕◌, ◌⊘◌}
use Rattle.floats.specs.Narrowing.{narrowed}
use Rattle.floats.specs.OnBits.{absolute}
use Rattle.special.specs.Special.{one, minus_one}
use Rattle.special.specs.Special as Special
use Rattle.whole.specs.Whole as Whole
use Rattle.whole.specs.Whole.{is_whole, is_tiny}
use Rattle.whole.proofs.Tiny.{tiny_is_one}
use Rattle.answers.specs.Exact as Exact
use Rattle.answers.specs.Exact.{Fraction, exact_base, exact}
use Rattle.answers.specs.Claims.{Near, answer, WholeBound, ExactNumber}
use Rattle.answers.proofs.Whole.Factors.{WithinFactors, turned, looser, powers}
use Rattle.answers.proofs.Whole.Within.{Within, within_more, Reciprocal, normal, small, reciprocal}
use Rattle.answers.proofs.Whole.Squared.{Base, room, power_within}
use Rattle.answers.proofs.Whole.Ends.{SmallEnough, between, around_zero, around_one}
use Rattle.answers.proofs.Whole.OnePlus.{base, sum_within, tiny_close}
use Rattle.answers.proofs.Whole.Asked.{AskedX, asked_x, AskedY, asked_y, size, size_from_1, size_to_16, cast_is, sign_is, not_rule, takes_whole, on_route}

-- ---- the value of the route
one_power : (n : ℕ) → 1 ^ n ≡ 1
one_power zero = pow-zero 1
one_power (suc n) = pow-suc 1 n ∙ mul-one (1 ^ n) ∙ one_power n

powers_of_one : {P R : ℕ} (n : ℕ) → n ≤ 16 → WithinFactors (2 ^ 29 - 1) (2 ^ 29) 1 P R 1 1 → WithinFactors (2 ^ 29 - 1) (2 ^ 29) 16 (P ^ n) (R ^ n) 1 1
powers_of_one {P} {R} n l h =
    looser 16 (lit≤ tt) l (subst (λ (z : ℕ). WithinFactors (2 ^ 29 - 1) (2 ^ 29) n (P ^ n) (R ^ n) z z) (one_power n) (powers n h))

-- of y = ±n 2^d, with s for the f64 sum 1 + x
module _ {k : ℕ} (fine : SmallEnough k) (x : Float) (b : Base (exact_base x).top (exact_base x).bottom) where
  -- |x| above 2^-29: the power, or its reciprocal
  by_powers : (t : Bool) (n : ℕ) (d : ℤ) (s : Float) → size n d ≤ 16 → Within 1 (exact_base x).top (exact_base x).bottom s
      → Near k (exact x (fin t n d)) (narrowed (cond t (one ⊘ Whole.whole_power s (size n d)) (Whole.whole_power s (size n d))))
  unfolding exact Exact.raised Exact.raised_inverse
  by_powers false n d s l w = between fine (Exact.raised (exact_base x) i) (Whole.whole_power s i) (room b i l).bottom (within_more 33 (omega arith) (power_within b i s l w))
    where
      i : ℕ
      i = size n d
  by_powers true n d s l w = go (reciprocal (omega arith) (room b i l) (power_within b i s l w))
    where
      i : ℕ
      i = size n d

      go : Reciprocal (2 * i) ((exact_base x).top ^ i) ((exact_base x).bottom ^ i) (one ⊘ Whole.whole_power s i) → Near k (Exact.raised_inverse (exact_base x) i) (narrowed (one ⊘ Whole.whole_power s i))
      go (normal v) = between fine (Exact.raised_inverse (exact_base x) i) (one ⊘ Whole.whole_power s i) (room b i l).top (within_more 33 (omega arith) v)
      go (small a c A C v h e) = around_zero fine (Exact.raised_inverse (exact_base x) i) a c (one ⊘ Whole.whole_power s i) (room b i l).top A C (looser 33 (lit≤ tt) (omega arith) v) h e

  -- |x| at most 2^-29: 1
  by_one : (t : Bool) (n : ℕ) (d : ℤ) → size n d ≤ 16 → WithinFactors (2 ^ 29 - 1) (2 ^ 29) 1 (exact_base x).top (exact_base x).bottom 1 1 → Near k (exact x (fin t n d)) one
  unfolding exact Exact.raised Exact.raised_inverse
  by_one false n d l h = around_one fine (Exact.raised (exact_base x) (size n d)) (room b (size n d) l).bottom (powers_of_one (size n d) l h)
  by_one true n d l h = around_one fine (Exact.raised_inverse (exact_base x) (size n d)) (room b (size n d) l).top (turned (powers_of_one (size n d) l h))

-- ---- the answer
module _
    {k : ℕ}
    (fine : SmallEnough k)
    (s : Bool)
    (m : ℕ)
    (e : ℤ)
    (t : Bool)
    (n : ℕ)
    (d : ℤ)
    (fit : T (fits binary32 (fin s m e)))
    (above : T (lt minus_one (fin s m e)))
    (under : T (lt (fin s m e) (fin false 1 (pos 64))))
    (from_1 : 0 < size n d)
    (to_16 : size n d ≤ 16)
    (route : is_whole (fin s m e) (fin t n d) ≡ true)
  where
    value : Near k (exact (fin s m e) (fin t n d)) (Whole.whole (fin s m e) (fin t n d))
    unfolding Whole.whole
    value = go (is_tiny (fin s m e)) refl
      where
        E : Fraction
        E = exact (fin s m e) (fin t n d)

        b : Base (exact_base (fin s m e)).top (exact_base (fin s m e)).bottom
        b = base s m e fit above under

        sum : Float
        sum = fin s m e ⊕ one

        far : (i : ℕ) (u : Bool) → i ≡ size n d → u ≡ t → Near k E (narrowed (cond u (one ⊘ Whole.whole_power sum i) (Whole.whole_power sum i)))
        far i u p q =
            subst (λ (i : ℕ). Near k E (narrowed (cond u (one ⊘ Whole.whole_power sum i) (Whole.whole_power sum i)))) (sym p)
            (subst (λ (u : Bool). Near k E (narrowed (cond u (one ⊘ Whole.whole_power sum (size n d)) (Whole.whole_power sum (size n d))))) (sym q)
            (by_powers fine (fin s m e) b t n d sum to_16 (sum_within s m e above b)))

        go : (u : Bool) → is_tiny (fin s m e) ≡ u
            → Near k E (cond u (Whole.tiny (fin s m e) (fin t n d)) (let acc = Whole.whole_power sum (to_unsigned 32 (absolute (fin t n d))) in narrowed (cond (lt (fin t n d) Special.zero) (one ⊘ acc) acc)))
        go true h = subst (Near k E) (sym (tiny_is_one (fin s m e) (fin t n d) route h)) (by_one fine (fin s m e) b t n d to_16 (tiny_close s m e h))
        go false h = far (to_unsigned 32 (absolute (fin t n d))) (lt (fin t n d) Special.zero) (cast_is t n d to_16) (sign_is t n d (pos_of_div-pos (down d) from_1))

-- a NaN and an infinity are not asked for
bound : (k : ℕ) (x y : Float) → T (fits binary32 x) → AskedX x → AskedY y → SmallEnough k → Near k (exact x y) (answer x y)
unfolding lt le absolute
bound k nan y f a b fine = absurd a.above
bound k (inf true) y f a b fine = absurd a.above
bound k (inf false) y f a b fine = absurd a.under
bound k (fin s m e) nan f a b fine = absurd b.from_1
bound k (fin s m e) (inf t) f a b fine = absurd b.to_16
bound k (fin s m e) (fin t n d) f a b fine =
    let p = size_from_1 t n d b.from_1 in
    let w = takes_whole s m e (fin t n d) a b in
    subst (Near k (exact (fin s m e) (fin t n d)))
    (on_route (fin s m e) (fin t n d) (not_rule s m e t n d a.above a.nonzero (pos_of_div-pos (down d) p)) w)
    (value fine s m e t n d f a.above a.under p (size_to_16 t n d b.to_16) w)

-- the k of the claim is small enough
pub whole_bound : (x y : Float) → T (fits binary32 x) → T (fits binary32 y) → WholeBound x y
unfolding WholeBound
whole_bound x y f g h k =
    bound _ x y f (asked_x x k) (asked_y y h) (record {
      lower = lit≤ tt;
      upper = lit≤ tt;
      zero = lit≤ tt;
      lower_one = lit≤ tt;
      upper_one = lit≤ tt;
    })

-- ---- E is a number
number : (x y : Float) → T (fits binary32 x) → AskedX x → AskedY y → 0 < (exact x y).bottom
unfolding exact Exact.raised Exact.raised_inverse lt le absolute
number nan y f a b = absurd a.above
number (inf true) y f a b = absurd a.above
number (inf false) y f a b = absurd a.under
number (fin s m e) nan f a b = absurd b.from_1
number (fin s m e) (inf t) f a b = absurd b.to_16
number (fin s m e) (fin false n d) f a b = (room (base s m e f a.above a.under) (size n d) (size_to_16 false n d b.to_16)).bottom
number (fin s m e) (fin true n d) f a b = (room (base s m e f a.above a.under) (size n d) (size_to_16 true n d b.to_16)).top

pub exact_number : (x y : Float) → T (fits binary32 x) → ExactNumber x y
unfolding ExactNumber
exact_number x y f h k = number x y f (asked_x x k) (asked_y y h)
