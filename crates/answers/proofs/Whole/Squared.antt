-- The squarings of the route `whole`: where s is one factor from P / R, its n-th power, worked out along the bits of n, is within 2n factors of
-- P^n / R^n, for n up to 16 (`power_within`). Assumes nothing.
use mathlib.Core.Path.{◌≡◌, refl, sym, ap, ◌∙◌, subst}
use mathlib.Core.Bool.{Bool, true, false, cond}
use Prim.Native.Nat.{ℕ, zero, suc, ◌+◌, ◌-◌, ◌*◌, ◌/◌, ◌%◌, ◌^◌, ◌≤◌, ◌<◌}
use native.Mathlib.Nat.{le_trans, le_of_eq, one-mul, mul-le-mul_right, le-mul_of_pos_right, pow-le-pow_left, pow-le-pow_right, one-le-pow, pow-zero, pow-suc, pow-succ'}
use native.Mathlib.Omega.{arith}
use borrow.Author.Tests.{leb-true, leb-false, eqb-true, eqb-false}
use lib.Dec.{eqb, leb, lit≤, lit<}
use lib.IntN.{pos}
use lib.Pow.{pow-add}
use lib.Ieee.{Float}
use Rattle.floats.specs.Operations.{◌⊗◌}
use Rattle.special.specs.Special.{one}
use Rattle.whole.specs.Whole.{squarings, whole_power}
use Rattle.answers.proofs.Whole.Factors.{equal, power_of_product}
use Rattle.answers.proofs.Whole.Within.{near, full, Within, InRange, within_more, times}

-- what is asked of P / R: from 2^-24 to 2^64 - 2^39
pub record Base (P R : ℕ) : Type 0 where
  pub bottom : 0 < R
  pub at_most : P ≤ (2 ^ 64 - 2 ^ 39) * R
  pub at_least : R ≤ P * 2 ^ 24

-- ---- the range of its powers
above_none : (P R M : ℕ) → 0 < R → R ≤ P * M → 0 < P
above_none zero R M h l = omega arith
above_none (suc P) R M h l = omega arith

top : {P R : ℕ} → Base P R → 0 < P
top {P} {R} b = above_none P R (2 ^ 24) b.bottom b.at_least

-- a ≤ K b gives a^n ≤ K^16 b^n
power_at_most : (a b K n : ℕ) → 0 < K → n ≤ 16 → a ≤ K * b → a ^ n ≤ K ^ 16 * b ^ n
power_at_most a b K n k l h =
    le_trans (pow-le-pow_left h n) (le_trans (le_of_eq (power_of_product K b n)) (mul-le-mul_right (b ^ n) (pow-le-pow_right k l)))

swapped : (a b c : ℕ) → a ≤ b * c → a ≤ c * b
swapped a b c h = omega arith

pub room : {P R : ℕ} → Base P R → (n : ℕ) → n ≤ 16 → InRange (P ^ n) (R ^ n)
room {P} {R} b n l = record {
  top = one-le-pow n P (top b);
  bottom = one-le-pow n R b.bottom;
  at_most = power_at_most P R (2 ^ 64 - 2 ^ 39) n (lit< tt) l b.at_most;
  at_least = swapped (R ^ n) (2 ^ 384) (P ^ n) (power_at_most R P (2 ^ 24) n (lit< tt) l (swapped R P (2 ^ 24) b.at_least));
}

-- ---- products of powers
-- x is within n factors of the i-th power of P / R
abbrev Power : ℕ → ℕ → ℕ → ℕ → Float → Type 0
Power P R n i x = Within n (P ^ i) (R ^ i) x

joined : {P R : ℕ} → Base P R → (n m i j : ℕ) (x y : Float) → n + m ≤ 33 → i + j ≤ 16 → Power P R n i x → Power P R m j y → Power P R (1 + (n + m)) (i + j) (x ⊗ y)
joined {P} {R} b n m i j x y l k v w =
    rw (pow-add P i j, pow-add R i j) (times l (rw (pow-add P i j, pow-add R i j) at (room b (i + j) k)) v w)

square : {P R : ℕ} → Base P R → (i : ℕ) (s : Float) → 0 < i → i + i ≤ 16 → Power P R (2 * i - 1) i s → Power P R (2 * (i + i) - 1) (i + i) (s ⊗ s)
square b i s h l w = within_more (2 * (i + i) - 1) (omega arith) (joined b (2 * i - 1) (2 * i - 1) i i s s (omega arith) l w w)

join : {P R : ℕ} → Base P R → (i j : ℕ) (acc s : Float) → 0 < i → j + i ≤ 16 → Power P R (2 * j) j acc → Power P R (2 * i - 1) i s → Power P R (2 * (j + i)) (j + i) (acc ⊗ s)
join b i j acc s h l v w = within_more (2 * (j + i)) (omega arith) (joined b (2 * j) (2 * i - 1) j i acc s (omega arith) l v w)

-- ---- the squarings
-- the exponent that is still to come, with h for n / 2
last : (i j t n : ℕ) → n ≤ 1 → j + i * (2 * (n / 2)) ≡ t → j ≡ t
last i j t n h e =
    let z : n / 2 ≡ 0 = omega arith in
    let y : i * (2 * (n / 2)) ≡ i * (2 * 0) = ap (λ (x : ℕ). i * (2 * x)) z in
    omega arith

with_bit : (i j t h : ℕ) → h % 2 ≡ 1 → j + i * (2 * h) ≡ t → j + (i + i) + (i + i) * (2 * (h / 2)) ≡ t
with_bit i j t h b e =
    let z : i * h ≡ i * (2 * (h / 2) + 1) = ap (λ (x : ℕ). i * x) (odd h b) in
    omega arith
  where
    odd : (h : ℕ) → h % 2 ≡ 1 → h ≡ 2 * (h / 2) + 1
    odd h b = omega arith

without_bit : (i j t h : ℕ) → h % 2 ≡ 0 → j + i * (2 * h) ≡ t → j + (i + i) * (2 * (h / 2)) ≡ t
without_bit i j t h b e =
    let z : i * h ≡ i * (2 * (h / 2)) = ap (λ (x : ℕ). i * x) (even h b) in
    omega arith
  where
    even : (h : ℕ) → h % 2 ≡ 0 → h ≡ 2 * (h / 2)
    even h b = omega arith

-- with a bit left, the next square and its product with acc are of exponents up to t
next_fits : (i j t h : ℕ) → 0 < h → t ≤ 16 → j + i * (2 * h) ≡ t → j + (i + i) ≤ 16
next_fits i j t h p l e =
    let z : i ≤ i * h = le-mul_of_pos_right i p in
    omega arith

halved : (n k : ℕ) → n < 2 * k → n / 2 < k
halved n k h = omega arith

not_one : (h : ℕ) → (h % 2 ≡ 1 → ⊥) → h % 2 ≡ 0
not_one h f = go (h % 2) refl
  where
    go : (r : ℕ) → h % 2 ≡ r → h % 2 ≡ 0
    go zero e = e
    go (suc zero) e = absurd (f e)
    go (suc (suc r)) e = omega arith

squared : {P R : ℕ} → Base P R → (turns n i j t : ℕ) (s acc : Float) → 0 < i → n < 2 ^ suc turns → t ≤ 16 → j + i * (2 * (n / 2)) ≡ t
    → Power P R (2 * i - 1) i s → Power P R (2 * j) j acc → Power P R (2 * t) t (squarings turns n s acc)
unfolding squarings
squared {P} {R} b zero n i j t s acc p l m e v w = subst (λ (k : ℕ). Power P R (2 * k) k acc) (last i j t n (omega arith) e) w
squared {P} {R} b (suc turns) n i j t s acc p l m e v w = go (leb n 1) refl (λ g k a d x. squared b turns (n / 2) (i + i) k t (s ⊗ s) a (omega arith) lower m d (next g) x)
  where
    lower : n / 2 < 2 ^ suc turns
    lower = halved n (2 ^ suc turns) (subst (λ (k : ℕ). n < k) (pow-succ' 2 (suc turns)) l)

    small : 1 < n → j + (i + i) ≤ 16
    small g = next_fits i j t (n / 2) (omega arith) m e

    next : 1 < n → Power P R (2 * (i + i) - 1) (i + i) (s ⊗ s)
    next g = square b i s p (omega (arith, small g)) v

    go : (c : Bool) → leb n 1 ≡ c
        → (1 < n → (k : ℕ) (a : Float) → k + (i + i) * (2 * (n / 2 / 2)) ≡ t → Power P R (2 * k) k a → Power P R (2 * t) t (squarings turns (n / 2) (s ⊗ s) a))
        → Power P R (2 * t) t (cond c acc (squarings turns (n / 2) (s ⊗ s) (cond (eqb (n / 2 % 2) 1) (acc ⊗ (s ⊗ s)) acc)))
    go true q rest = subst (λ (k : ℕ). Power P R (2 * k) k acc) (last i j t n (leb-true n 1 q) e) w
    go false q rest = by_bit (eqb (n / 2 % 2) 1) refl
      where
        by_bit : (d : Bool) → eqb (n / 2 % 2) 1 ≡ d → Power P R (2 * t) t (squarings turns (n / 2) (s ⊗ s) (cond d (acc ⊗ (s ⊗ s)) acc))
        by_bit true r =
            rest (leb-false n 1 q) (j + (i + i)) (acc ⊗ (s ⊗ s)) (with_bit i j t (n / 2) (eqb-true (n / 2 % 2) 1 r) e)
            (join b (i + i) j acc (s ⊗ s) (omega arith) (small (leb-false n 1 q)) w (next (leb-false n 1 q)))
        by_bit false r = rest (leb-false n 1 q) j acc (without_bit i j t (n / 2) (not_one (n / 2) (eqb-false (n / 2 % 2) 1 r)) e) w

-- ---- the power
to_one : (a : ℕ) → a ≡ a ^ 1
to_one a = sym (pow-suc a 0 ∙ ap (λ (x : ℕ). x * a) (pow-zero a) ∙ one-mul a)

one_within : (P R : ℕ) → Power P R 0 0 one
one_within P R = record { digits = 1; exponent = pos 0; is = refl; close = equal near full 1 1 (P ^ 0) (R ^ 0) (rw (pow-zero P, pow-zero R)) }

pub power_within : {P R : ℕ} → Base P R → (n : ℕ) (s : Float) → n ≤ 16 → Within 1 P R s → Within (2 * n) (P ^ n) (R ^ n) (whole_power s n)
unfolding whole_power
power_within {P} {R} b n s l w = by_bit (eqb (n % 2) 1) refl
  where
    first_power : Power P R 1 1 s
    first_power = rw (← (to_one P), ← (to_one R)) w

    by_bit : (d : Bool) → eqb (n % 2) 1 ≡ d → Power P R (2 * n) n (squarings 4 n s (cond d s one))
    by_bit true r = squared b 4 n 1 1 n s s (lit< tt) (omega arith) l (omega (arith, eqb-true (n % 2) 1 r)) first_power (within_more 2 (lit≤ tt) first_power)
    by_bit false r = squared b 4 n 1 0 n s one (lit< tt) (omega arith) l (omega (arith, not_one n (eqb-false (n % 2) 1 r))) first_power (one_within P R)
