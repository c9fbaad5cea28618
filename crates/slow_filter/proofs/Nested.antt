-- (a×z + b)×z + c, nested, beside a×z² + (b×z + c): the same but for the roundings, by the laws on sums and products in another order (`regrouped`). Assumes nothing.
use Rattle.std.proofs.Common.{ℕ, ◌+◌, Bool, ◌&&◌, arith, T}
use lib.Ieee.{Float}
use Rattle.floats.specs.Operations.{◌⊕◌, ◌⊗◌}
use Rattle.bounds.proofs.Scales.{S, unit, unit_left, Bound, ok, sum_k, product_k, add_bound, mul_bound}
use Rattle.bounds.proofs.Distances.{Apart, apart_through}
use Rattle.bounds.proofs.Apart.{apart_same, sum_apart_k, sum_apart}
use Rattle.slow_filter.proofs.Regrouped.{sums_k, sums_apart, spread_k, spread_apart, products_k, products_apart}

-- with Q for the number of a×z, R and B for those of its and of b's product with z, and P for that of z²
abbrev pub regrouped_k : ℕ → ℕ → ℕ → ℕ → ℕ
regrouped_k K Z L C =
    let Q = product_k K Z in
    let R = product_k Q Z in
    let B = product_k L Z in
    let P = product_k K (product_k Z Z) in
    sum_apart_k (spread_k Q L Z) 0 (product_k (sum_k Q L) Z + C) (sum_k R B + C) + (sums_k R B C + sum_apart_k (products_k K Z Z) 0 (R + sum_k B C) (P + sum_k B C))

abbrev pub regrouped_ok : ℕ → ℕ → ℕ → ℕ → Bool
regrouped_ok K Z L C =
    let Q = product_k K Z in
    let R = product_k Q Z in
    let B = product_k L Z in
    let P = product_k K (product_k Z Z) in
    (ok K && ok Z && ok Q && ok (product_k Z Z)) && (ok L && ok (Q + L) && ok (sum_k Q L) && ok (R + B)) && (ok (product_k (sum_k Q L) Z + C) && ok (sum_k R B + C) && ok (B + C) && ok (R + sum_k B C)) && ok (P + sum_k B C)

pub regrouped : {K Z L C : ℕ} {a z b c : Float} → Bound S K a → Bound S Z z → Bound S L b → Bound S C c → T (regrouped_ok K Z L C) → Apart S (regrouped_k K Z L C) ((a ⊗ z ⊕ b) ⊗ z ⊕ c) (a ⊗ (z ⊗ z) ⊕ (b ⊗ z ⊕ c))
regrouped {K} {Z} {L} {C} {a} {z} {b} {c} p q r s g =
    let Q = product_k K Z in
    let R = product_k Q Z in
    let B = product_k L Z in
    let P = product_k K (product_k Z Z) in
    let o = split (ok K && ok Z && ok Q && ok (product_k Z Z)) (ok L && ok (Q + L) && ok (sum_k Q L) && ok (R + B)) (ok (product_k (sum_k Q L) Z + C) && ok (sum_k R B + C) && ok (B + C) && ok (R + sum_k B C)) (ok (P + sum_k B C)) g in
    let i = split (ok K) (ok Z) (ok Q) (ok (product_k Z Z)) o.0 in
    let j = split (ok L) (ok (Q + L)) (ok (sum_k Q L)) (ok (R + B)) o.1 in
    let k = split (ok (product_k (sum_k Q L) Z + C)) (ok (sum_k R B + C)) (ok (B + C)) (ok (R + sum_k B C)) o.2 in
    let one = unit_left unit in
    let az = mul_bound one p q i.0 i.1 in
    let azz = mul_bound one az q i.2 i.1 in
    let bz = mul_bound one r q j.0 i.1 in
    let zz = mul_bound one q q i.1 i.1 in
    let bzc = add_bound bz s k.2 in
    let first = spread_apart az r q i.2 j.0 i.1 j.1 j.2 j.3 in
    let last = products_apart p q q i.0 i.1 i.1 i.2 i.3 in
    apart_through (sum_apart first (apart_same c) (mul_bound one (add_bound az r j.1) q j.2 i.1) s (add_bound azz bz j.3) s k.0 k.1)
    (apart_through (sums_apart azz bz s j.3 k.1 k.2 k.3) (sum_apart last (apart_same (b ⊗ z ⊕ c)) azz bzc (mul_bound one p zz i.0 i.3) bzc k.3 o.3))
  where
    split : (a b c d : Bool) → T (a && b && c && d) → T a × T b × T c × T d
    split a b c d h = grind arith
