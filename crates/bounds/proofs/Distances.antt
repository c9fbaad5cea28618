-- How far two values can be from each other, on a scale: a sum is a rounding from the exact one (`sum_off`), and as far from one of its terms as the other term
-- is large, and a rounding (`add_apart`), as the two terms of a difference are by the difference (`sub_apart`); `dd_fmla` is as far from c as the product is large, and its roundings (`fmla_apart`). From a distance to a known value a size follows, from
-- below and from above (`not_less`, `not_below`, `not_more`, `bound_near`). Assumes nothing.
use mathlib.Core.Path.{◌≡◌, sym, subst}
use mathlib.Core.Logic.{◌⊎◌, inl, inr}
use Prim.Native.Nat.{ℕ, ◌+◌, ◌*◌, ◌/◌, ◌^◌, ◌≤◌, ◌<◌}
use native.Mathlib.Nat.{le_trans, le_of_eq, mul-le-mul_right, mul_right_comm, add_comm, add-mul, add-le-add, le_refl}
use native.Mathlib.Omega.{arith}
use lib.Dec.{T, leb, leb→le}
use lib.Ieee.{Float, binary64, sub}
use Rattle.floats.specs.Operations.{◌⊕◌, ◌⊖◌}
use Rattle.floats.proofs.Laws.Sums.{add_turned}
use Rattle.double_double.specs.DoubleDouble.{from_full_exact_add, full_add_f64, dd_fmla}
use Rattle.bounds.proofs.Values.{plus, less, mag, one_side, Number, neg_plus, neg_less}
use Rattle.bounds.proofs.Operation.{limit, Small, add_near}
use Rattle.bounds.proofs.Sums.{past, rounded_part, sum_small}
use Rattle.bounds.proofs.Scales.{Bound, neg_bound, both_sizes, one_part, small_limit, ok, sum_k, product_k, ProductScale, add_bound, dekker_bounds, full_bounds, fmla_lo_k, fmla_ok, fmla_parts}

pub record Apart (μ K : ℕ) (x y : Float) : Type 0 where
  pub over : plus x + less y ≤ less x + plus y + K * μ
  pub under : plus y + less x ≤ less y + plus x + K * μ

pub apart_at : {μ K : ℕ} {x y : Float} (M : ℕ) → Apart μ K x y → T (leb K M) → Apart μ M x y
apart_at {μ} {K} {x} {y} M a t = record { over = go (plus x + less y) (less x + plus y) a.over; under = go (plus y + less x) (less y + plus x) a.under }
  where
    go : (p n : ℕ) → p ≤ n + K * μ → p ≤ n + M * μ
    go p n h = le_trans h (add-le-add (le_refl n) (mul-le-mul_right μ (leb→le K M t)))

pub apart_through : {μ K L : ℕ} {x y z : Float} → Apart μ K x y → Apart μ L y z → Apart μ (K + L) x z
apart_through {μ} {K} {L} {x} {y} {z} a b = record {
  over = omega (arith, add-mul K L μ);
  under = omega (arith, add-mul K L μ);
}

-- ---- a sum
abbrev pub apart_k : ℕ → ℕ → ℕ
apart_k K L = L + ((K + L) / 2 ^ 53 + 1)

-- k is at most 2^53 times (k / 2^53 + 1)
parts : (k μ : ℕ) → k * μ ≤ (k / 2 ^ 53 + 1) * μ * 2 ^ 53
parts k μ = le_trans (mul-le-mul_right μ (rounded_part k)) (le_of_eq (mul_right_comm (k / 2 ^ 53 + 1) (2 ^ 53) μ))

-- x + y is off the exact sum by a rounding
pub sum_off : {μ K L : ℕ} {x y : Float} → Bound μ K x → Bound μ L y → T (ok (K + L)) → Small (plus (x ⊕ y) + (less x + less y)) (less (x ⊕ y) + (plus x + plus y)) (((K + L) / 2 ^ 53 + 1) * μ)
sum_off {μ} {K} {L} {x} {y} p q t =
    let d = (K + L) * μ in
    let c = add_near d p.number q.number (sum_small x y d (both_sizes p q)) (one_part d limit (small_limit (K + L) μ t p.scale.bounded)).0 in
    let E = ((K + L) / 2 ^ 53 + 1) * μ in
    let z = x ⊕ y in
    record {
      upper = past (plus z + (less x + less y)) (less z + (plus x + plus y)) d E c.most (parts (K + L) μ);
      lower = past (less z + (plus x + plus y)) (plus z + (less x + less y)) d E c.least (parts (K + L) μ);
    }

-- x and y are as far from each other as x - y is large, and a rounding
pub sub_apart : {μ K L C : ℕ} {x y : Float} → Bound μ K x → Bound μ L y → Bound μ C (x ⊖ y) → T (ok (K + L)) → Apart μ (C + ((K + L) / 2 ^ 53 + 1)) x y
unfolding sub
sub_apart {μ} {K} {L} {C} {x} {y} p q r t =
    let E = ((K + L) / 2 ^ 53 + 1) * μ in
    let z = x ⊖ y in
    let o = sum_off p (neg_bound q) t in
    let e = add-mul C ((K + L) / 2 ^ 53 + 1) μ in
    record {
      over = omega (arith, neg_plus y, neg_less y);
      under = omega (arith, neg_plus y, neg_less y);
    }

-- so it is off x by y, and a rounding
pub add_apart : {μ K L : ℕ} {x y : Float} → Bound μ K x → Bound μ L y → T (ok (K + L)) → Apart μ (apart_k K L) (x ⊕ y) x
add_apart {μ} {K} {L} {x} {y} p q t =
    let E = ((K + L) / 2 ^ 53 + 1) * μ in
    let z = x ⊕ y in
    let o = sum_off p q t in
    record {
      over = omega (arith, add-mul L ((K + L) / 2 ^ 53 + 1) μ);
      under = omega (arith, add-mul L ((K + L) / 2 ^ 53 + 1) μ);
    }

-- and off y by x
pub add_apart_right : {μ K L : ℕ} {x y : Float} → Bound μ K x → Bound μ L y → T (ok (K + L)) → Apart μ (K + ((K + L) / 2 ^ 53 + 1)) (x ⊕ y) y
add_apart_right {μ} {K} {L} {x} {y} p q t =
    subst (λ (z : Float). Apart μ (K + ((K + L) / 2 ^ 53 + 1)) z y) (add_turned binary64 y x)
    (subst (λ (k : ℕ). Apart μ (K + (k / 2 ^ 53 + 1)) (y ⊕ x) y) (add_comm L K) (add_apart q p (subst (λ (k : ℕ). T (ok k)) (add_comm K L) t)))

-- ---- `dd_fmla`
abbrev pub fmla_apart_k : ℕ → ℕ → ℕ → ℕ
fmla_apart_k K L C = fmla_lo_k K L C + ((fmla_lo_k K L C + sum_k (product_k K L) C) / 2 ^ 53 + 1) + (product_k K L + ((product_k K L + C) / 2 ^ 53 + 1))

pub fmla_apart : {μ ν π K L C : ℕ} {x y c : Float} → ProductScale μ ν π → Bound μ K x → Bound ν L y → Bound π C c → T (fmla_ok K L C) → Apart π (fmla_apart_k K L C) (dd_fmla x y c) c
unfolding dd_fmla full_add_f64 from_full_exact_add
fmla_apart {μ} {ν} {π} {K} {L} {C} {x} {y} {c} t p q r g =
    let o = fmla_parts K L C g in
    let m = dekker_bounds t p q o.0 o.1 in
    let s = full_bounds m.hi r o.2 in
    apart_through (add_apart_right (add_bound m.lo s.lo o.3) s.hi o.4) (add_apart_right m.hi r o.2)

-- ---- from below
-- x is as large as y but for their distance
pub not_less : {μ K : ℕ} {x y : Float} → Apart μ K x y → mag y ≤ mag x + K * μ
not_less {μ} {K} {x} {y} a = go (plus x) (less x) (plus y) (less y) (K * μ) (one_side y) a.over a.under
  where
    go : (p n q m d : ℕ) → (q ≡ 0) ⊎ (m ≡ 0) → p + m ≤ n + q + d → q + n ≤ m + p + d → q + m ≤ p + n + d
    go p n q m d (inl e) g h = omega arith
    go p n q m d (inr e) g h = omega arith

-- and no larger but for it
pub not_more : {μ K : ℕ} {x y : Float} → Apart μ K x y → mag x ≤ mag y + K * μ
not_more {μ} {K} {x} {y} a =
    let turned : Apart μ K y x = record { over = a.under; under = a.over } in
    not_less turned

-- so it is bounded where y is
pub bound_near : {μ A K : ℕ} {x y : Float} → Number x → Apart μ A x y → Bound μ K y → Bound μ (K + A) x
bound_near {μ} {A} {K} n a b = record { scale = b.scale; number = n; size = le_trans (not_more a) (le_trans (add-le-add b.size (le_refl (A * μ))) (le_of_eq (sym (add-mul K A μ)))) }

-- and above 0 where y is further above it than that
pub not_below : {μ K : ℕ} {x y : Float} → Apart μ K x y → less y ≡ 0 → K * μ < plus y → less x ≡ 0
not_below {μ} {K} {x} {y} a e h = go (plus x) (less x) (plus y) (less y) (K * μ) (one_side x) e h a.under
  where
    go : (p n q m d : ℕ) → (p ≡ 0) ⊎ (n ≡ 0) → m ≡ 0 → d < q → q + n ≤ m + p + d → n ≡ 0
    go p n q m d (inl z) e h g = omega arith
    go p n q m d (inr z) e h g = z
