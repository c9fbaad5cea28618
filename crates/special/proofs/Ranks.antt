-- The classes by which the code reads the special table: 4 for the sign's bit, and the rank of the magnitude. Of x the limit is infinity, or 1 where the
-- sign is set; of y it is infinity. x and y are answered as the typical values of their classes (`row`). Assumes nothing.
use mathlib.Core.Path.{◌≡◌, refl, sym, ap, ap₂, ◌∙◌, subst}
use mathlib.Core.Bool.{Bool, true, false, cond}
use Prim.Native.Nat.{ℕ, zero, suc, ◌+◌, ◌-◌, ◌*◌, ◌/◌, ◌%◌, ◌^◌, ◌≤◌, ◌<◌}
use native.Mathlib.Omega.{arith}
use Rattle.std.proofs.lemmas.Bool.Decides.{nat_tests}
use lib.Ieee.{Float, nan, binary32, is_nan, lt, le, eq, of_bits}
use Rattle.special.specs.Special.{is_zero, from_minus_one_to_zero, special_table, first_that_fits, special}
use Rattle.special.specs.Rank.{rank}
use Rattle.special.proofs.Classes.{class_of_x, class_of_y}
use Rattle.special.proofs.Rule.{typical_x, typical_y, answer_x, answer_y, Kind, plus_zero_lem, minus_zero, plus_infinity, minus_infinity, positive, negative, no_number, kind, x_single, x_positive, x_to_zero, x_below, x_nan, y_single, y_positive, y_negative, y_nan}
use Rattle.floats.proofs.Laws.Compare.{Order, less, same, more, order}

-- ---- the ranks
-- there are four
pub four_ranks : (m limit : ℕ) → rank m limit ≤ 3
unfolding rank
four_ranks m limit = grind (arith, nat_tests)

under : (m limit : ℕ) → 0 < m → m < limit → rank m limit ≡ 1
unfolding rank
under m limit h k = grind (arith, nat_tests)

over : (m limit : ℕ) → limit < m → rank m limit ≡ 3
unfolding rank
over m limit h = grind (arith, nat_tests)

-- ---- the classes, for the sign's bit s and the magnitude m
abbrev spot_x : ℕ → ℕ → ℕ
spot_x s m = s * 4 + rank m (0x7f80_0000 - s * 0x4000_0000)

abbrev spot_y : ℕ → ℕ → ℕ
spot_y s m = s * 4 + rank m 0x7f80_0000

-- the definition's class of each. The last of x has two, and the NaN stands for both.
abbrev pub row_x : ℕ → ℕ
row_x zero = 4
row_x (suc zero) = 5
row_x (suc (suc zero)) = 6
row_x (suc (suc (suc zero))) = 0
row_x (suc (suc (suc (suc zero)))) = 4
row_x (suc (suc (suc (suc (suc zero))))) = 3
row_x (suc (suc (suc (suc (suc (suc zero)))))) = 2
row_x (suc (suc (suc (suc (suc (suc (suc k))))))) = 0

abbrev pub row_y : ℕ → ℕ
row_y zero = 3
row_y (suc zero) = 4
row_y (suc (suc zero)) = 5
row_y (suc (suc (suc zero))) = 0
row_y (suc (suc (suc (suc zero)))) = 3
row_y (suc (suc (suc (suc (suc zero))))) = 2
row_y (suc (suc (suc (suc (suc (suc zero)))))) = 1
row_y (suc (suc (suc (suc (suc (suc (suc k))))))) = 0

-- below -1 the answer is that at the NaN
below_as_nan : (y : Float) → special nan y ≡ special (typical_x 1) y
unfolding special special_table first_that_fits is_nan is_zero from_minus_one_to_zero lt le eq
below_as_nan y = go (is_nan y)
  where
    go : (b : Bool) → nan ≡ cond b nan nan
    go true = refl
    go false = refl

-- the class from the sign's bit and the rank
spot : (limit : ℕ → ℕ) (s i m r : ℕ) → s ≡ i → rank m (limit i) ≡ r → s * 4 + rank m (limit s) ≡ i * 4 + r
spot limit s i m r e d = ap (λ (t : ℕ). t * 4 + rank m (limit t)) e ∙ ap (λ (t : ℕ). i * 4 + t) d

-- x is answered as the typical value of its class
module _ (n : ℕ) (h : n < 2 ^ 32) (y : Float) where
  abbrev Row : ℕ → Type 0
  Row i = special (typical_x (row_x (spot_x (i / 2 ^ 31) (i % 2 ^ 31)))) y ≡ special (of_bits binary32 i) y

  single : (k : ℕ) → n ≡ k → Row k → Row n
  single k e = subst Row (sym e)

  found : (i r c : ℕ) → n / 2 ^ 31 ≡ i → rank (n % 2 ^ 31) (0x7f80_0000 - i * 0x4000_0000) ≡ r → special (typical_x (row_x (i * 4 + r))) y ≡ special (typical_x c) y → c ≡ class_of_x (of_bits binary32 n) → Row n
  found i r c e d f g =
      ap (λ (k : ℕ). special (typical_x (row_x k)) y) (spot (λ (s : ℕ). 0x7f80_0000 - s * 0x4000_0000) (n / 2 ^ 31) i (n % 2 ^ 31) r e d) ∙ f ∙ answer_x (of_bits binary32 n) y c g

  pub x_row : Row n
  unfolding rank
  x_row = go (kind n h) (order n 0xbf80_0000) (order n 0x8000_0000)
    where
      beyond : 0xbf80_0000 < n → n ≤ 0xff80_0000 → Row n
      beyond o b = found 1 3 1 (omega (arith, o, h)) (over (n % 2 ^ 31) 0x3f80_0000 (omega (arith, o, b))) (below_as_nan y) (x_below n o b)

      go : Kind n → Order n 0xbf80_0000 → Order n 0x8000_0000 → Row n
      go (plus_zero_lem e) o q = single 0 e (answer_x (of_bits binary32 0) y 4 x_single.0)
      go (plus_infinity e) o q = single 0x7f80_0000 e (answer_x (of_bits binary32 0x7f80_0000) y 6 x_single.1)
      go (minus_zero e) o q = single 0x8000_0000 e (answer_x (of_bits binary32 0x8000_0000) y 4 x_single.2)
      go (positive a b) o q = found 0 1 5 (omega (arith, b)) (under (n % 2 ^ 31) 0x7f80_0000 (omega (arith, a, b)) (omega (arith, b))) refl (x_positive n a b)
      go (negative a b) (less o) q = found 1 1 3 (omega (arith, a, h)) (under (n % 2 ^ 31) 0x3f80_0000 (omega (arith, a, o)) (omega (arith, a, o))) refl (x_to_zero n a o)
      go (negative a b) (same o) q = single 0xbf80_0000 o (answer_x (of_bits binary32 0xbf80_0000) y 2 x_single.3)
      go (negative a b) (more o) q = beyond o (omega (arith, b))
      go (minus_infinity e) o q = beyond (omega (arith, e)) (omega (arith, e))
      go (no_number a) o (less q) = found 0 3 0 (omega (arith, q)) (over (n % 2 ^ 31) 0x7f80_0000 a) refl (x_nan n a)
      go (no_number a) o (same q) = absurd (omega (arith, a, q))
      go (no_number a) o (more q) = found 1 3 0 (omega (arith, q, h)) (over (n % 2 ^ 31) 0x3f80_0000 (omega (arith, a))) refl (x_nan n a)

-- and y
module _ (n : ℕ) (h : n < 2 ^ 32) where
  abbrev ClassY : ℕ → Type 0
  ClassY i = row_y (spot_y (i / 2 ^ 31) (i % 2 ^ 31)) ≡ class_of_y (of_bits binary32 i)

  single_y : (k : ℕ) → n ≡ k → ClassY k → ClassY n
  single_y k e = subst ClassY (sym e)

  found_y : (i r : ℕ) → n / 2 ^ 31 ≡ i → rank (n % 2 ^ 31) 0x7f80_0000 ≡ r → row_y (i * 4 + r) ≡ class_of_y (of_bits binary32 n) → ClassY n
  found_y i r e d g = ap row_y (spot (λ (s : ℕ). 0x7f80_0000) (n / 2 ^ 31) i (n % 2 ^ 31) r e d) ∙ g

  pub y_row : ClassY n
  unfolding rank
  y_row = go (kind n h) (order n 0x8000_0000)
    where
      go : Kind n → Order n 0x8000_0000 → ClassY n
      go (plus_zero_lem e) q = single_y 0 e y_single.0
      go (plus_infinity e) q = single_y 0x7f80_0000 e y_single.1
      go (minus_zero e) q = single_y 0x8000_0000 e y_single.2
      go (minus_infinity e) q = single_y 0xff80_0000 e y_single.3
      go (positive a b) q = found_y 0 1 (omega (arith, b)) (under (n % 2 ^ 31) 0x7f80_0000 (omega (arith, a, b)) (omega (arith, b))) (y_positive n a b)
      go (negative a b) q = found_y 1 1 (omega (arith, a, h)) (under (n % 2 ^ 31) 0x7f80_0000 (omega (arith, a, b)) (omega (arith, a, b))) (y_negative n a b)
      go (no_number a) (less q) = found_y 0 3 (omega (arith, q)) (over (n % 2 ^ 31) 0x7f80_0000 a) (y_nan n a)
      go (no_number a) (same q) = absurd (omega (arith, a, q))
      go (no_number a) (more q) = found_y 1 3 (omega (arith, q, h)) (over (n % 2 ^ 31) 0x7f80_0000 a) (y_nan n a)

-- ---- arm i of the code, where x is of the class a and y of the class b
pub row : (m n : ℕ) → m < 2 ^ 32 → n < 2 ^ 32 → (r q : ℕ) → r ≡ rank (m % 2 ^ 31) (0x7f80_0000 - m / 2 ^ 31 * 0x4000_0000) → q ≡ rank (n % 2 ^ 31) 0x7f80_0000
    → (i : ℕ) → (m / 2 ^ 31 * 4 + r) * 8 + (n / 2 ^ 31 * 4 + q) ≡ i → special (typical_x (row_x (i / 8))) (typical_y (row_y (i % 8))) ≡ special (of_bits binary32 m) (of_bits binary32 n)
row m n h k r q e d i f =
    ap₂ (λ (a b : ℕ). special (typical_x (row_x a)) (typical_y (row_y b))) (first r q small f ∙ ap (λ (z : ℕ). m / 2 ^ 31 * 4 + z) e) (second r q small f ∙ ap (λ (z : ℕ). n / 2 ^ 31 * 4 + z) d)
    ∙ x_row m h (typical_y (row_y (spot_y (n / 2 ^ 31) (n % 2 ^ 31))))
    ∙ answer_y (of_bits binary32 m) (of_bits binary32 n) (row_y (spot_y (n / 2 ^ 31) (n % 2 ^ 31))) (y_row n k)
  where
    small : q ≤ 3
    small = subst (λ (z : ℕ). z ≤ 3) (sym d) (four_ranks (n % 2 ^ 31) 0x7f80_0000)

    first : (r q : ℕ) → q ≤ 3 → (m / 2 ^ 31 * 4 + r) * 8 + (n / 2 ^ 31 * 4 + q) ≡ i → i / 8 ≡ m / 2 ^ 31 * 4 + r
    first r q l f = omega (arith, l, f, k)

    second : (r q : ℕ) → q ≤ 3 → (m / 2 ^ 31 * 4 + r) * 8 + (n / 2 ^ 31 * 4 + q) ≡ i → i % 8 ≡ n / 2 ^ 31 * 4 + q
    second r q l f = omega (arith, l, f, k)
