-- The route `whole` on patterns: a size is compared as the pattern without its sign is, so the route's test is one of patterns
-- (`whole_of_patterns`). And where it passes, |y| can be cast to a u32 (`castable_exponent`). Assumes nothing.
use Rattle.std.proofs.Common.{◌≡◌, ℕ, ◌+◌, ◌*◌, ◌%◌, ◌^◌, ◌<◌, ◌≤◌, Bool, true, false, not, ◌&&◌, T, ltb, leb, pos, negsuc, sym, refl, ap, ◌∙◌, subst, ap₂, arith, lit<, lit≤, le-ltb}
use borrow.Author.Tests.{lt-leb}
use Rattle.std.proofs.lemmas.Bool.Decides.{nat_tests}
use lib.Ieee.{Float, nan, inf, fin, binary32, up, down, lt, le, eq, in_unsigned, is_nan, fits, to_bits, of_bits}
use lib.Ieee.Bits.{of_bits-fits, of_bits-to_bits, to_bits-lt, to_bits-of_bits}
use lib.Ieee.Fits.{and_l, and_r}
use Rattle.floats.specs.OnBits.{absolute, is_integer}
use Rattle.floats.proofs.Laws.Nan.{nan_of_above}
use Rattle.floats.proofs.Laws.Magnitude.{absolute_of_bits}
use Rattle.floats.proofs.Laws.Sums.{SizeAtMost}
use Rattle.floats.proofs.Laws.Cast.{unsigned_cast}
use Rattle.whole.specs.Whole.{is_whole, is_tiny}
use lib.Ieee.Bits.{is_true}
use Rattle.floats.proofs.Laws.Compare.{Order, less, same, more, order, at_most, key, key_clear, number_of_bits, lt_of_bits, le_of_bits}

-- the size of a number is that of the pattern without its sign
size_of_bits : (n : ℕ) → n < 2 ^ 32 → n % 2 ^ 31 ≤ 0x7f80_0000 → absolute (of_bits binary32 n) ≡ of_bits binary32 (n % 2 ^ 31)
size_of_bits n h k = sym (absolute_of_bits binary32 (of_bits binary32 n) (of_bits-fits binary32 n)) ∙ ap (λ (z : ℕ). of_bits binary32 (z % 2 ^ 31)) (to_bits-of_bits binary32 n h (number_of_bits binary32 n k))

-- a size against a value c of the pattern b, at least 0: a test P on values is the test Q on patterns, if it is the test Q on keys
module _
    (P : Float → Float → Bool)
    (Q : ℕ → ℕ → Bool)
    (by_key : (n : ℕ) (c : Float) → n < 2 ^ 32 → n % 2 ^ 31 ≤ 0x7f80_0000 → T (fits binary32 c) → T (not (is_nan c)) → P (of_bits binary32 n) c ≡ Q (key binary32 n) (key binary32 (to_bits binary32 c)))
    (shift : (a b : ℕ) → Q a b ≡ Q (2 ^ 31 + a) (2 ^ 31 + b))
    (at_nan : (c : Float) → P nan c ≡ false)
    (over : (a b : ℕ) → b < a → Q a b ≡ false)
    (n : ℕ)
    (h : n < 2 ^ 32)
    (c : Float)
    (b : ℕ)
    (e : to_bits binary32 c ≡ b)
    (small : b ≤ 0x7f80_0000)
    (u : T (fits binary32 c))
    (q : T (not (is_nan c)))
  where
    compared : Q (n % 2 ^ 31) b ≡ P (absolute (of_bits binary32 n)) c
    unfolding absolute
    compared = go (order 0x7f80_0000 (n % 2 ^ 31))
      where
        number : n % 2 ^ 31 ≤ 0x7f80_0000 → Q (n % 2 ^ 31) b ≡ P (absolute (of_bits binary32 n)) c
        number k =
            shift (n % 2 ^ 31) b
            ∙ sym (ap (λ (x : Float). P x c) (size_of_bits n h k)
            ∙ by_key (n % 2 ^ 31) c (omega arith) (omega (arith, k)) u q
            ∙ ap₂ Q (key_clear binary32 (n % 2 ^ 31) (omega arith)) (ap (key binary32) e ∙ key_clear binary32 b (omega (arith, small))))

        go : Order 0x7f80_0000 (n % 2 ^ 31) → Q (n % 2 ^ 31) b ≡ P (absolute (of_bits binary32 n)) c
        go (less k) = over (n % 2 ^ 31) b (omega (arith, k, small)) ∙ sym (ap (λ (x : Float). P (absolute x) c) (nan_of_above binary32 n k) ∙ at_nan c)
        go (same k) = number (omega (arith, k))
        go (more k) = number (omega (arith, k))

shift_ltb : (a b : ℕ) → ltb a b ≡ ltb (2 ^ 31 + a) (2 ^ 31 + b)
shift_ltb a b = grind (arith, nat_tests)

shift_leb : (a b : ℕ) → leb a b ≡ leb (2 ^ 31 + a) (2 ^ 31 + b)
shift_leb a b = grind (arith, nat_tests)

-- |x| < c and |x| <= c, by the patterns
size_lt : (n : ℕ) → n < 2 ^ 32 → (c : Float) (b : ℕ) → to_bits binary32 c ≡ b → b ≤ 0x7f80_0000 → T (fits binary32 c) → T (not (is_nan c))
    → ltb (n % 2 ^ 31) b ≡ lt (absolute (of_bits binary32 n)) c
size_lt = compared lt ltb (λ n c. lt_of_bits binary32 n c) shift_ltb (λ c. unfold lt in refl) (λ a b k. le-ltb a b (omega (arith, k)))

pub size_le : (n : ℕ) → n < 2 ^ 32 → (c : Float) (b : ℕ) → to_bits binary32 c ≡ b → b ≤ 0x7f80_0000 → T (fits binary32 c) → T (not (is_nan c))
    → leb (n % 2 ^ 31) b ≡ le (absolute (of_bits binary32 n)) c
size_le = compared le leb (λ n c. le_of_bits binary32 n c) shift_leb (λ c. unfold le lt eq in refl) lt-leb

-- the route's test, as the code has it
pub whole_of_patterns : (m n : ℕ) → m < 2 ^ 32 → n < 2 ^ 32
    → (is_integer (of_bits binary32 n) && leb (n % 2 ^ 31) 0x4180_0000 && ltb (m % 2 ^ 31) 0x5f80_0000) ≡ is_whole (of_bits binary32 m) (of_bits binary32 n)
unfolding is_whole to_bits fits is_nan
whole_of_patterns m n h k =
    ap₂ (λ (a b : Bool). is_integer (of_bits binary32 n) && a && b)
    (size_le n k (fin false 1 (pos 4)) 0x4180_0000 refl (lit≤ tt) tt tt)
    (size_lt m h (fin false 1 (pos 64)) 0x5f80_0000 refl (lit≤ tt) tt tt)

-- |x| <= 2^-29, as the code has it
tiny_limit : (to_bits binary32 (fin false 1 (negsuc 28)) ≡ 0x3100_0000) × (T (fits binary32 (fin false 1 (negsuc 28))) × T (not (is_nan (fin false 1 (negsuc 28)))))
unfolding to_bits fits is_nan
tiny_limit = (refl, (tt, tt))

pub tiny_of_pattern : (x : Float) → T (fits binary32 x) → leb (to_bits binary32 x % 2 ^ 31) 0x3100_0000 ≡ is_tiny x
unfolding is_tiny
tiny_of_pattern x t =
    size_le (to_bits binary32 x) (to_bits-lt binary32 x t) (fin false 1 (negsuc 28)) 0x3100_0000 tiny_limit.0 (lit≤ tt) tiny_limit.1.0 tiny_limit.1.1
    ∙ ap (λ (z : Float). le (absolute z) (fin false 1 (negsuc 28))) (of_bits-to_bits binary32 x t)

-- ---- what the test says of y
size_at_most_16 : (y : Float) → T (le (absolute y) (fin false 1 (pos 4))) → SizeAtMost 16 y
unfolding absolute le
size_at_most_16 nan t = absurd t
size_at_most_16 (inf s) t = absurd t
size_at_most_16 (fin s m e) t = omega (arith, at_most (m * up e * 1) (1 * 2 ^ 4 * down e) t)

sized_number : (y : Float) → T (le (absolute y) (fin false 1 (pos 4))) → T (not (is_nan y))
unfolding absolute le lt eq is_nan
sized_number nan t = absurd t
sized_number (inf s) t = tt
sized_number (fin s m e) t = tt

smaller_number : (x : Float) → T (lt (absolute x) (fin false 1 (pos 64))) → T (not (is_nan x))
unfolding absolute lt is_nan
smaller_number nan t = absurd t
smaller_number (inf s) t = tt
smaller_number (fin s m e) t = tt

module _ (x y : Float) (e : is_whole x y ≡ true) where
  all : T (is_integer y && le (absolute y) (fin false 1 (pos 4)) && lt (absolute x) (fin false 1 (pos 64)))
  unfolding is_whole
  all = subst T (sym e) tt

  both : T (is_integer y && le (absolute y) (fin false 1 (pos 4)))
  both = and_l (is_integer y && le (absolute y) (fin false 1 (pos 4))) (lt (absolute x) (fin false 1 (pos 64))) all

  -- |y| is at most 16
  pub at_most_16 : T (le (absolute y) (fin false 1 (pos 4)))
  at_most_16 = and_r (is_integer y) (le (absolute y) (fin false 1 (pos 4))) both

  -- y is whole
  pub integer_y : is_integer y ≡ true
  integer_y = is_true (is_integer y) (and_l (is_integer y) (le (absolute y) (fin false 1 (pos 4))) both)

  -- it is no NaN
  pub number_y : T (not (is_nan y))
  number_y = sized_number y at_most_16

  -- nor is x
  pub number_x : T (not (is_nan x))
  number_x = smaller_number x (and_r (is_integer y && le (absolute y) (fin false 1 (pos 4))) (lt (absolute x) (fin false 1 (pos 64))) all)

  -- and |y| can be cast to a u32
  pub castable_exponent : T (in_unsigned binary32 32 (absolute y))
  castable_exponent =
      unsigned_cast binary32 32 16 y integer_y (size_at_most_16 y at_most_16) (lit≤ tt) (lit< tt)
