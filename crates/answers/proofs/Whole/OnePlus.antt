-- 1 + x for a finite f32 x with -1 < x < 2^64: the f64 sum is the fraction of specs/Exact.antt, rounded (`sum_is`), and within one factor of it
-- (`sum_within`); the fraction is from 2^-24 to 2^64 - 2^39 (`base`), and for |x| <= 2^-29 near to 1 (`tiny_close`). Assumes nothing.
use mathlib.Core.Path.{◌≡◌, sym, ap, ap₂, ◌∙◌, subst}
use mathlib.Core.Bool.{Bool, true, false, not}
use Prim.Native.Nat.{ℕ, suc, ◌+◌, ◌-◌, ◌*◌, ◌^◌, ◌≤◌, ◌<◌}
use native.Mathlib.Nat.{le_trans, le_of_eq, lt_of_le_of_lt, mul-one, mul-le-mul_left, mul-lt-mul_of_pos_right}
use native.Mathlib.Omega.{arith}
use lib.Dec.{T, leb, ltb, leb→le, nleb→lt, ltb→lt, lit≤, lit<}
use lib.IntN.{ℤ, pos, negsuc}
use lib.Pow.{pow-add, pow_pos, pow_mono}
use lib.Ieee.{fin, binary32, binary64, up, down, round, sum, add, lt, le, fits}
use lib.Ieee.Bits.{is_true}
use lib.Ieee.Fits.{down_pos}
use Rattle.floats.specs.Operations.{◌⊕◌}
use Rattle.floats.specs.OnBits.{absolute}
use Rattle.floats.proofs.Laws.Compare.{at_most}
use Rattle.floats.proofs.Laws.Units.{fits_digits}
use Rattle.special.specs.Special.{one, minus_one}
use Rattle.whole.specs.Whole.{is_tiny}
use Rattle.fast_path.proofs.OnePlus.{digits_below}
use Rattle.floats.proofs.Laws.Tests.{first}
use Rattle.answers.specs.Exact.{exact_base}
use Rattle.answers.proofs.Whole.Factors.{WithinFactors}
use Rattle.answers.proofs.Whole.Within.{Within, rounded}
use Rattle.answers.proofs.Whole.Squared.{Base}

-- ---- the sum
sum_more : (a d : ℕ) → a * 1 + 1 * d ≡ d + a
sum_more a d = omega arith

sum_less : (a d : ℕ) → 1 * d - a * 1 ≡ d - a
sum_less a d = omega arith

sum_is : (s : Bool) (m : ℕ) (e : ℤ) → T (lt minus_one (fin s m e)) → fin s m e ⊕ one ≡ round binary64 false (exact_base (fin s m e)).top (exact_base (fin s m e)).bottom
unfolding add sum lt exact_base
sum_is false m e h = ap₂ (round binary64 false) (sum_more (m * up e) (down e)) (mul-one (down e))
sum_is true m e h =
    sym (first (ltb (m * up e * 1) (1 * 1 * down e)) (round binary64 false (1 * 1 * down e - m * up e * 1) (down e * 1)) _ (is_true (ltb (m * up e * 1) (1 * 1 * down e)) h))
    ∙ ap₂ (round binary64 false) (sum_less (m * up e) (down e)) (mul-one (down e))

-- ---- the range of the fraction
-- below 2^64 the largest is 2^64 - 2^40
largest_fraction : (m d : ℕ) → m < 2 ^ 24 → 0 < d → m * 1 ≤ (2 ^ 64 - 2 ^ 40) * d
largest_fraction m d g h = omega arith

largest_few : (m u : ℕ) → m < 2 ^ 24 → u ≤ 2 ^ 40 → m * u ≤ (2 ^ 64 - 2 ^ 40) * 1
largest_few m u g h = le_trans (mul-le-mul_left m h) (omega arith)

largest_many : (m u v : ℕ) → v ≡ 2 ^ 40 * u → m * v < 2 ^ 64 * 1 → m * v ≤ (2 ^ 64 - 2 ^ 40) * 1
largest_many m u v e h =
    let z : m * v ≡ m * (2 ^ 40 * u) = ap (λ (x : ℕ). m * x) e in
    omega arith

largest : (m : ℕ) (e : ℤ) → m < 2 ^ 24 → m * up e < 2 ^ 64 * down e → m * up e ≤ (2 ^ 64 - 2 ^ 40) * down e
largest m (negsuc k) g h = largest_fraction m (2 ^ suc k) g (pow_pos (suc k))
largest m (pos k) g h = go (leb k 40) (leb→le k 40) (nleb→lt k 40)
  where
    split : (k : ℕ) → 40 < k → k ≡ 40 + (k - 40)
    split k l = omega arith

    go : (b : Bool) → (T b → k ≤ 40) → (T (not b) → 40 < k) → m * 2 ^ k ≤ (2 ^ 64 - 2 ^ 40) * 1
    go true l r = largest_few m (2 ^ k) g (pow_mono (l tt))
    go false l r = largest_many m (2 ^ (k - 40)) (2 ^ k) (ap (λ (x : ℕ). 2 ^ x) (split k (r tt)) ∙ pow-add 2 40 (k - 40)) h

more_base : (a d : ℕ) → 0 < d → a ≤ (2 ^ 64 - 2 ^ 40) * d → Base (d + a) d
more_base a d D h = record { bottom = D; at_most = omega arith; at_least = omega arith }

less_base : (a d : ℕ) → a < d → a < 2 ^ 24 → Base (d - a) d
less_base a d h g = record { bottom = omega arith; at_most = omega arith; at_least = omega arith }

unit : (a d : ℕ) → a * 1 < 1 * d → a < d
unit a d h = omega arith

pub base : (s : Bool) (m : ℕ) (e : ℤ) → T (fits binary32 (fin s m e)) → T (lt minus_one (fin s m e)) → T (lt (fin s m e) (fin false 1 (pos 64)))
    → Base (exact_base (fin s m e)).top (exact_base (fin s m e)).bottom
unfolding lt exact_base
base false m e f g h =
    more_base (m * up e) (down e) (down_pos e)
    (largest m e (fits_digits binary32 false m e f) (lt_of_le_of_lt (le_of_eq (sym (mul-one (m * up e)))) (ltb→lt (m * up e * 1) (1 * 2 ^ 64 * down e) h)))
base true m e f g h =
    let below = unit (m * up e) (down e) (ltb→lt (m * up e * 1) (1 * 1 * down e) g) in
    less_base (m * up e) (down e) below (digits_below m e (fits_digits binary32 true m e f) below)

-- ---- the sum is one factor from the fraction
base_normal : (P R U L : ℕ) → U * 2 ^ 24 ≤ L → R ≤ P * 2 ^ 24 → U * R ≤ P * L
base_normal P R U L l h =
    let x : U * R ≤ U * (P * 2 ^ 24) = mul-le-mul_left U h in
    let y : P * (U * 2 ^ 24) ≤ P * L = mul-le-mul_left P l in
    omega arith

pub sum_within : (s : Bool) (m : ℕ) (e : ℤ) → T (lt minus_one (fin s m e)) → Base (exact_base (fin s m e)).top (exact_base (fin s m e)).bottom
    → Within 1 (exact_base (fin s m e)).top (exact_base (fin s m e)).bottom (fin s m e ⊕ one)
sum_within s m e h b =
    let P = (exact_base (fin s m e)).top in
    let R = (exact_base (fin s m e)).bottom in
    subst (Within 1 P R) (sym (sum_is s m e h)) (rounded P R b.bottom (base_normal P R (2 ^ 52) (2 ^ 1074) (lit≤ tt) b.at_least) (lt_of_le_of_lt b.at_most (mul-lt-mul_of_pos_right (lit< tt) b.bottom)))

-- ---- near to 1
more_close : (a d : ℕ) → a * 2 ^ 29 ≤ 1 * d → WithinFactors (2 ^ 29 - 1) (2 ^ 29) 1 (d + a) d 1 1
more_close a d h = record { above = omega arith; below = omega arith }

less_close : (a d : ℕ) → a * 2 ^ 29 ≤ 1 * d → WithinFactors (2 ^ 29 - 1) (2 ^ 29) 1 (d - a) d 1 1
less_close a d h = record { above = omega arith; below = omega arith }

tiny_size : (s : Bool) (m : ℕ) (e : ℤ) → is_tiny (fin s m e) ≡ true → m * up e * 2 ^ 29 ≤ 1 * down e
unfolding is_tiny absolute le
tiny_size s m e h = at_most (m * up e * 2 ^ 29) (1 * 1 * down e) (subst T (sym h) tt)

pub tiny_close : (s : Bool) (m : ℕ) (e : ℤ) → is_tiny (fin s m e) ≡ true → WithinFactors (2 ^ 29 - 1) (2 ^ 29) 1 (exact_base (fin s m e)).top (exact_base (fin s m e)).bottom 1 1
unfolding exact_base
tiny_close false m e h = more_close (m * up e) (down e) (tiny_size false m e h)
tiny_close true m e h = less_close (m * up e) (down e) (tiny_size true m e h)
