-- A logarithm l times y: with μ for a scale of l and ν for one of y, what is on μ times y is on a scale of the product's size and a little more (`through_sized`); of a product of at most 150 in
-- size, on that of 152 (`through`). Assumes nothing.
use Rattle.std.proofs.Common.{◌≡◌, ℕ, ◌+◌, ◌*◌, ◌/◌, ◌^◌, ◌<◌, ◌≤◌, sym, ap, ◌∙◌, le_trans, le_of_eq, le_refl, add-le-add, mul-le-mul_right, mul_assoc, mul-le-mul, one-mul, le_of_mul-le-mul_right, arith, lit<, lit≤}
use lib.Ieee.{Float}
use Rattle.floats.specs.Operations.{◌⊗◌}
use Rattle.bounds.proofs.Values.{per_one, mag, Number}
use Rattle.bounds.proofs.Operation.{mul_near}
use Rattle.bounds.proofs.Scales.{S, one_is, unit, unit_left, Scale, ProductScale, Bound, mul_limit}
use Rattle.slow_path.proofs.LowPart.{f32_bound}

-- ---- a scale for y
abbrev pub ν : Float → ℕ
ν y = mag y / 2 ^ 53 + 1

module _ (y : Float) (Y : Number y) (y_most : mag y ≤ 2 ^ 128 * per_one) where
  y_scale : Scale (ν y)
  unfolding per_one
  y_scale = record { positive = one_more (mag y / 2 ^ 53); bounded = le_trans (small (mag y) (2 ^ 1209) (le_trans y_most (lit≤ tt))) (lit≤ tt) }
    where
      one_more : (n : ℕ) → 0 < n + 1
      one_more n = omega arith

      small : (m b : ℕ) → m ≤ b → m / 2 ^ 53 + 1 ≤ b + 1
      small m b h = omega arith

  pub y_own : Bound (ν y) (2 ^ 53) y
  y_own = record { scale = y_scale; number = Y; size = over (mag y) }
    where
      over : (m : ℕ) → m ≤ 2 ^ 53 * (m / 2 ^ 53 + 1)
      over m = omega arith

-- ---- and for the product
-- M, rounded to T, is at most j and q
rounded_back : (M T w j q : ℕ) → T ≤ j → w ≤ q → j ≤ 2 ^ 10 * q → M * 2 ^ 53 ≤ T * 2 ^ 53 + M + w * 2 ^ 52 → M ≤ j + q
rounded_back M T w j q t v k h = omega arith

module _ (l y : Float) (μ : ℕ) (size : 2 ^ 53 * μ ≤ mag l) (above : Bound S (2 ^ 62) l) (Y : Number y) (y_most : mag y ≤ 2 ^ 128 * per_one) where
  -- of at most J × u × 2^53 in size, the scale of J + 2
  module _ (J u : ℕ) (few : J ≤ 2 ^ 10) (some : 512 ≤ u) (T_size : mag (l ⊗ y) ≤ J * (u * 2 ^ 53)) where
    -- |l| × |y| is at most that of J + 1
    sizes : mag l * mag y ≤ (J * (u * S) + u * S) * 2 ^ 106
    sizes =
        let m = mul_near above.number Y (mul_limit (unit_left unit) above (f32_bound y Y y_most) tt tt) in
        le_trans (rounded_back (mag l * mag y) (mag (l ⊗ y) * per_one) per_one (J * (u * 2 ^ 53 * per_one)) (u * 2 ^ 53 * per_one) (le_trans (mul-le-mul_right per_one T_size) (le_of_eq (mul_assoc J (u * 2 ^ 53) per_one))) (le_trans (le_of_eq (sym (one-mul per_one))) (mul-le-mul_right per_one (one_part u some))) (mul-le-mul_right (u * 2 ^ 53 * per_one) few) m.least)
        (le_of_eq (ap (λ (w : ℕ). J * (u * 2 ^ 53 * w) + u * 2 ^ 53 * w) one_is ∙ spread J u S))
      where
        one_part : (u : ℕ) → 512 ≤ u → 1 ≤ u * 2 ^ 53
        one_part u h = omega arith

        spread : (J u s : ℕ) → J * (u * 2 ^ 53 * (s * 2 ^ 53)) + u * 2 ^ 53 * (s * 2 ^ 53) ≡ (J * (u * s) + u * s) * 2 ^ 106
        spread J u s = omega arith

    pub through_sized : Scale ((J + 2) * u) → ProductScale μ (ν y) ((J + 2) * u)
    through_sized scale = record { scale = scale; le = le_trans (joined μ (mag y) (mag l) S (J * (u * S) + u * S) size sizes above.size) (le_trans (add-le-add (le_refl (J * (u * S) + u * S)) (mul-le-mul_right S some)) (le_of_eq (turn J u S))) }
      where
        turn : (J u s : ℕ) → J * (u * s) + u * s + u * s ≡ s * ((J + 2) * u)
        turn J u s = omega arith

        joined : (μ m l s q : ℕ) → 2 ^ 53 * μ ≤ l → l * m ≤ q * 2 ^ 106 → l ≤ 2 ^ 62 * s → μ * (m / 2 ^ 53 + 1) ≤ q + 512 * s
        joined μ m l s q g h k =
            let parts : μ * (m / 2 ^ 53) * 2 ^ 106 ≤ q * 2 ^ 106 = le_trans (le_of_eq (gather μ (m / 2 ^ 53))) (le_trans (mul-le-mul g (whole_part m)) h) in
            le_trans (le_of_eq (one_more μ (m / 2 ^ 53))) (add-le-add (le_of_mul-le-mul_right parts (lit< tt)) (small μ l s g k))
          where
            gather : (μ n : ℕ) → μ * n * 2 ^ 106 ≡ 2 ^ 53 * μ * (n * 2 ^ 53)
            gather μ n = omega arith

            whole_part : (m : ℕ) → m / 2 ^ 53 * 2 ^ 53 ≤ m
            whole_part m = omega arith

            small : (μ l s : ℕ) → 2 ^ 53 * μ ≤ l → l ≤ 2 ^ 62 * s → μ ≤ 512 * s
            small μ l s g k = omega arith

            one_more : (μ n : ℕ) → μ * (n + 1) ≡ μ * n + μ
            one_more μ n = omega arith

  pub through : mag (l ⊗ y) ≤ 150 * per_one → ProductScale μ (ν y) (152 * S)
  through T_size = through_sized 150 S (lit≤ tt) large_scale (le_trans T_size (le_of_eq (ap (λ (w : ℕ). 150 * w) one_is))) product_scale
    where
      product_scale : Scale (152 * S)
      product_scale = unfold S in record { positive = lit< tt; bounded = lit≤ tt }

      large_scale : 512 ≤ S
      large_scale = unfold S in lit≤ tt
