-- How near one fraction is to another, counted in factors: a / c is within n factors k / K of b / d where neither, times (k / K) ^ n, is more than the
-- other. That is symmetric, so it goes through a reciprocal (`turned`); of a chain and of a product the factors add up (`joined`, `product`).
-- Assumes nothing.
use mathlib.Core.Path.{◌≡◌, sym, ap, ◌∙◌, subst}
use Prim.Native.Nat.{ℕ, zero, suc, ◌+◌, ◌-◌, ◌*◌, ◌^◌, ◌≤◌, ◌<◌}
use native.Mathlib.Nat.{le_refl, mul_comm, mul-le-mul, mul-le-mul_right, le_of_mul-le-mul_right, pow-le-pow_left, pow-zero, pow-suc, mul-mul-mul_comm}
use native.Mathlib.Numerals.{add-one}
use native.Mathlib.Omega.{arith}
use lib.Pow.{pow-add}

-- a / c and b / d
pub record WithinFactors (k K n a c b d : ℕ) : Type 0 where
  pub above : a * d * k ^ n ≤ b * c * K ^ n
  pub below : b * c * k ^ n ≤ a * d * K ^ n

-- ---- the products of numbers under the laws
chain : (a c b d e f i I j J : ℕ) → 0 < d → a * d * i ≤ b * c * I → b * f * j ≤ e * d * J → a * f * (i * j) ≤ e * c * (I * J)
chain a c b d e f i I j J D g h =
    let x : a * d * i * (f * j) ≤ b * c * I * (f * j) = mul-le-mul_right (f * j) g in
    let y : b * f * j * (c * I) ≤ e * d * J * (c * I) = mul-le-mul_right (c * I) h in
    le_of_mul-le-mul_right {k = d} (omega arith) D

times : (a c b d e f g h i I j J : ℕ) → a * d * i ≤ b * c * I → e * h * j ≤ g * f * J → a * e * (d * h) * (i * j) ≤ b * g * (c * f) * (I * J)
times a c b d e f g h i I j J x y =
    let z : a * d * i * (e * h * j) ≤ b * c * I * (g * f * J) = mul-le-mul x y in
    omega arith

more : (x y i I j J : ℕ) → x * i ≤ y * I → j ≤ J → x * (i * j) ≤ y * (I * J)
more x y i I j J h l =
    let z : x * i * j ≤ y * I * J = mul-le-mul h l in
    omega arith

turn : (a b c d i j : ℕ) → a * b * i ≤ c * d * j → b * a * i ≤ d * c * j
turn a b c d i j h = omega arith

-- ---- the laws
-- of the reciprocals
pub turned : {k K n a c b d : ℕ} → WithinFactors k K n a c b d → WithinFactors k K n c a d b
turned {k} {K} {n} {a} {c} {b} {d} h = record { above = turn b c a d (k ^ n) (K ^ n) h.below; below = turn a d b c (k ^ n) (K ^ n) h.above }

-- over one in between
pub joined : {k K n m a c b d e f : ℕ} → 0 < d → WithinFactors k K n a c b d → WithinFactors k K m b d e f → WithinFactors k K (n + m) a c e f
joined {k} {K} {n} {m} {a} {c} {b} {d} {e} {f} D g h = record {
  above = rw (pow-add k n m, pow-add K n m) (chain a c b d e f (k ^ n) (K ^ n) (k ^ m) (K ^ m) D g.above h.above);
  below = rw (pow-add k n m, pow-add K n m, mul_comm (k ^ n) (k ^ m), mul_comm (K ^ n) (K ^ m)) (chain e f b d a c (k ^ m) (K ^ m) (k ^ n) (K ^ n) D h.below g.below);
}

-- of two products
pub product : {k K n m a c b d e f g h : ℕ} → WithinFactors k K n a c b d → WithinFactors k K m e f g h → WithinFactors k K (n + m) (a * e) (c * f) (b * g) (d * h)
product {k} {K} {n} {m} {a} {c} {b} {d} {e} {f} {g} {h} x y = record {
  above = rw (pow-add k n m, pow-add K n m) (times a c b d e f g h (k ^ n) (K ^ n) (k ^ m) (K ^ m) x.above y.above);
  below = rw (pow-add k n m, pow-add K n m) (times b d a c g h e f (k ^ n) (K ^ n) (k ^ m) (K ^ m) x.below y.below);
}

-- with more factors
pub looser : {k K n a c b d : ℕ} (m : ℕ) → k ≤ K → n ≤ m → WithinFactors k K n a c b d → WithinFactors k K m a c b d
looser {k} {K} {n} {a} {c} {b} {d} m l h x = subst (λ (j : ℕ). WithinFactors k K j a c b d) (rest n m h) longer
  where
    rest : (n m : ℕ) → n ≤ m → n + (m - n) ≡ m
    rest n m h = omega arith

    longer : WithinFactors k K (n + (m - n)) a c b d
    longer = record {
      above = rw (pow-add k n (m - n), pow-add K n (m - n)) (more (a * d) (b * c) (k ^ n) (K ^ n) (k ^ (m - n)) (K ^ (m - n)) x.above (pow-le-pow_left l (m - n)));
      below = rw (pow-add k n (m - n), pow-add K n (m - n)) (more (b * c) (a * d) (k ^ n) (K ^ n) (k ^ (m - n)) (K ^ (m - n)) x.below (pow-le-pow_left l (m - n)));
    }

-- none between equal fractions
pub equal : (k K a c b d : ℕ) → a * d ≡ b * c → WithinFactors k K 0 a c b d
equal k K a c b d e = record {
  above = rw (pow-zero k, pow-zero K, e) (le_refl (b * c * 1));
  below = rw (pow-zero k, pow-zero K, e) (le_refl (b * c * 1));
}

-- ---- powers
pub power_of_product : (a b n : ℕ) → (a * b) ^ n ≡ a ^ n * b ^ n
power_of_product a b zero = rw (pow-zero (a * b), pow-zero a, pow-zero b)
power_of_product a b (suc n) =
    pow-suc (a * b) n ∙ ap (λ (x : ℕ). x * (a * b)) (power_of_product a b n) ∙ mul-mul-mul_comm (a ^ n) (b ^ n) a b ∙ sym (rw (pow-suc a n, pow-suc b n))

-- n factors for the n-th powers of what is one factor apart
pub powers : {k K a c b d : ℕ} (n : ℕ) → WithinFactors k K 1 a c b d → WithinFactors k K n (a ^ n) (c ^ n) (b ^ n) (d ^ n)
powers {k} {K} {a} {c} {b} {d} zero h = equal k K (a ^ 0) (c ^ 0) (b ^ 0) (d ^ 0) (rw (pow-zero a, pow-zero b, pow-zero c, pow-zero d))
powers {k} {K} {a} {c} {b} {d} (suc n) h = rw (pow-suc a n, pow-suc b n, pow-suc c n, pow-suc d n, ← (add-one n)) (product (powers n h) h)
