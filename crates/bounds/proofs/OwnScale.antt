-- Values whose scale is their own. One of size 0 is on any scale (`nil_bound`), and so are its sums and products (`nil_sum`, `nil_product`). One of a whole number of 2^-53, at most
-- 2^-5, is on the scale of its size, where 2^53 is it (`on_own`). Assumes nothing.
use mathlib.Core.Path.{◌≡◌, sym, ap, ap₂, ◌∙◌}
use Prim.Native.Nat.{ℕ, ◌+◌, ◌*◌, ◌^◌, ◌≤◌, ◌<◌, zero-le}
use native.Mathlib.Nat.{le_refl, le_trans, le_of_eq, le_of_mul-le-mul_right, mul-le-mul, mul-le-mul_right, mul-pos, zero-mul}
use native.Mathlib.Omega.{arith}
use lib.Dec.{lit≤}
use lib.Pow.{pow_pos}
use lib.Ieee.{Float}
use Rattle.floats.specs.Operations.{◌⊕◌, ◌⊗◌}
use Rattle.bounds.proofs.Values.{per_one, per_one_pos, mag, Number}
use Rattle.bounds.proofs.Operation.{add_near, mul_near, nothing}
use Rattle.bounds.proofs.Sums.{sum_small, add_mag}
use Rattle.bounds.proofs.Scales.{S, S_pos, Scale, Bound}

-- ---- size 0
pub record Nil (x : Float) : Type 0 where
  pub number : Number x
  pub is : mag x ≡ 0

pub nil_bound : {x : Float} (μ : ℕ) → Scale μ → Nil x → Bound μ 0 x
nil_bound μ s n = record { scale = s; number = n.number; size = le_trans (le_of_eq n.is) zero-le }

pub nil_sum : {x y : Float} → Nil x → Nil y → Nil (x ⊕ y)
nil_sum {x} {y} p q =
    let h = le_of_eq (ap₂ ◌+◌ p.is q.is) in
    record { number = (add_near 0 p.number q.number (sum_small x y 0 h) zero-le).number; is = omega (arith, add_mag 0 p.number q.number h zero-le) }

pub nil_product : {x y : Float} → Nil x → Number y → Nil (x ⊗ y)
nil_product {x} {y} p q =
    let e : mag x * mag y ≡ 0 = ap (λ (k : ℕ). k * mag y) p.is ∙ zero-mul (mag y) in
    let m = mul_near p.number q (le_trans (le_of_eq e) zero-le) in
    record { number = m.number; is = nothing (mag (x ⊗ y)) (mag x * mag y) per_one per_one_pos e m.most }

-- ---- a whole number of 2^-53
pub record Own (σ : ℕ) (z : Float) : Type 0 where
  pub bound : Bound σ (2 ^ 53) z
  pub is : mag z ≡ 2 ^ 53 * σ
  pub least : S ≤ 2 ^ 53 * σ
  pub most : σ ≤ S

pub on_own : {z : Float} (q : ℕ) → mag z ≡ q * S → 0 < q → Bound S (2 ^ 48) z → Own (q * 2 ^ 968) z
unfolding S
on_own {z} q size some b =
    let few : q ≤ 2 ^ 48 = le_of_mul-le-mul_right (le_trans (le_of_eq (sym size)) b.size) S_pos in
    let small : q * 2 ^ 968 ≤ 2 ^ 48 * 2 ^ 968 = mul-le-mul_right (2 ^ 968) few in
    let is : mag z ≡ 2 ^ 53 * (q * 2 ^ 968) = size ∙ (omega arith) in
    let one : 1 * 2 ^ 968 ≤ q * 2 ^ 968 = mul-le-mul_right (2 ^ 968) some in
    record {
      bound = record { scale = record { positive = mul-pos some (pow_pos 968); bounded = le_trans small (lit≤ tt) }; number = b.number; size = le_of_eq is };
      is = is;
      least = le_trans (lit≤ tt) (mul-le-mul (le_refl (2 ^ 53)) one);
      most = le_trans small (lit≤ tt);
    }
