-- The scale of 2^-16, on which 2^53 is 2^-16: 2^16 of its parts are one on the scale of 1, so that a rounding next to 1 is counted closely. Bounds and distances go from the one to the other
-- (`bound_fine`, `apart_fine`, `bound_one`, `apart_one`). Assumes nothing.
use Rattle.std.proofs.Common.{◌≡◌, ℕ, ◌+◌, ◌*◌, ◌/◌, ◌^◌, ◌≤◌, refl, sym, ap, ◌∙◌, le_refl, le_trans, le_of_eq, mul_assoc, mul-le-mul_right, add-le-add, arith, lit≤, pow_pos}
use lib.Ieee.{Float}
use Rattle.bounds.proofs.Scales.{S, unit, Scale, ProductScale, unit_left, Bound, onto}
use Rattle.bounds.proofs.Distances.{Apart}

unfoldable pub fine : ℕ
fine = 2 ^ 1005

pub fine_scale : Scale fine
unfolding fine
fine_scale = record { positive = pow_pos 1005; bounded = lit≤ tt }

-- what is on the scale of 1, times what is on this
pub times_fine : ProductScale S fine fine
times_fine = unit_left fine_scale

pub one_in_fine : S ≡ 2 ^ 16 * fine
unfolding S fine
one_in_fine = refl

to_fine : (K : ℕ) → K * S ≡ K * 2 ^ 16 * fine
to_fine K = ap (λ (s : ℕ). K * s) one_in_fine ∙ sym (mul_assoc K (2 ^ 16) fine)

to_one : (K : ℕ) → K * fine ≤ (K / 2 ^ 16 + 1) * S
to_one K = le_trans (mul-le-mul_right fine (above K)) (le_of_eq (sym (to_fine (K / 2 ^ 16 + 1))))
  where
    above : (K : ℕ) → K ≤ (K / 2 ^ 16 + 1) * 2 ^ 16
    above K = omega arith

pub bound_fine : {K : ℕ} {x : Float} → Bound S K x → Bound fine (K * 2 ^ 16) x
bound_fine {K} b = onto fine (K * 2 ^ 16) fine_scale b (le_of_eq (to_fine K))

pub bound_one : {K : ℕ} {x : Float} → Bound fine K x → Bound S (K / 2 ^ 16 + 1) x
bound_one {K} b = onto S (K / 2 ^ 16 + 1) unit b (to_one K)

-- a distance on another scale
pub onto_apart : {μ ν K M : ℕ} {x y : Float} → Apart μ K x y → K * μ ≤ M * ν → Apart ν M x y
onto_apart a h = record { over = le_trans a.over (add-le-add (le_refl _) h); under = le_trans a.under (add-le-add (le_refl _) h) }

pub apart_fine : {K : ℕ} {x y : Float} → Apart S K x y → Apart fine (K * 2 ^ 16) x y
apart_fine {K} a = onto_apart a (le_of_eq (to_fine K))

pub apart_one : {K : ℕ} {x y : Float} → Apart fine K x y → Apart S (K / 2 ^ 16 + 1) x y
apart_one {K} a = onto_apart a (to_one K)
