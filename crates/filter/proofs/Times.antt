-- Times y: the fast path's t = l×y and the plain one differ by 33 / 2^45 of its size at most, a little more than the logarithms do (`times_beside`). Both products are rounded once, and neither is
-- so small that the rounding counts for more. Assumes nothing.
use Rattle.std.proofs.Common.{◌≡◌, ℕ, zero, suc, ◌+◌, ◌*◌, ◌^◌, ◌<◌, ◌≤◌, T, ◌⊎◌, sym, ap, ◌∙◌, inl, inr, le_trans, le_of_eq, le_refl, le_of_lt, mul-le-mul_right, zero-lt-suc, mul_assoc, mul-le-mul, mul-pos, one-mul, mul-zero, zero-mul, mul_right_comm, le_of_mul-le-mul_right, arith, lit≤}
use lib.Ieee.{Float, nan, inf, fin, binary32, binary64, up, down, fits}
use lib.Ieee.Fits.{fits_widens, up_pos, down_pos}
use lib.Ieee.Scale.{finite}
use Rattle.floats.specs.Operations.{◌⊗◌}
use Rattle.floats.proofs.Laws.Units.{exponent, fits_low, fits_top, in_units}
use Rattle.bounds.proofs.Values.{per_one, per_one_pos, plus, less, mag, mag_of, one_side, Number}
use Rattle.bounds.proofs.Operation.{limit, Multiplied, mul_near, nothing}
use Rattle.bounds.proofs.Dekker.{plus_times, less_times, off_product}
use Rattle.bounds.proofs.Scales.{S, Bound}
use Rattle.filter.proofs.Logarithm.{LogBeside}

-- ---- an f32 in units: 0, or from 2^-149 to 2^128
pub record Single (y : Float) : Type 0 where
  pub number : Number y
  pub most : mag y ≤ 2 ^ 128 * per_one
  pub some : (mag y ≡ 0) ⊎ (2 ^ 925 ≤ mag y)

-- of a value m × 2^e, K units of it
at_top : (K a d w : ℕ) → 0 < d → a * w ≡ K * d → a < 2 ^ 128 * d → K ≤ 2 ^ 128 * w
at_top K a d w D e h = le_of_mul-le-mul_right (le_trans (le_of_eq (sym e)) (le_trans (mul-le-mul_right w (le_of_lt h)) (le_of_eq (mul_right_comm (2 ^ 128) d w)))) D

at_least : (K a d : ℕ) → 0 < d → a * 2 ^ 1074 ≡ K * d → 1 ≤ a → d ≤ 2 ^ 149 → 2 ^ 925 ≤ K
at_least K a d D e h g =
    le_of_mul-le-mul_right (le_trans (mul-le-mul (le_refl (2 ^ 925)) g) (le_trans (lit≤ tt) (le_trans (le_of_eq (sym (one-mul (2 ^ 1074)))) (le_trans (mul-le-mul_right (2 ^ 1074) h) (le_of_eq e))))) D

pub single : (y : Float) → T (fits binary32 y) → T (finite y) → Single y
unfolding per_one
single nan f p = absurd p
single (inf s) f p = absurd p
single (fin s m e) f p =
    let K = m * 2 ^ exponent 1074 e in
    let u = in_units binary64 s m e (fits_widens (fin s m e) f) in
    record {
      number = record { held = fits_widens (fin s m e) f; plain = tt };
      most = le_trans (le_of_eq (mag_of s K)) (at_top K (m * up e) (down e) (2 ^ 1074) (down_pos e) u (fits_top binary32 s m e f));
      some = go m (at_least K (m * up e) (down e) (down_pos e) u) (fits_low binary32 s m e f);
    }
  where
    go : (m : ℕ) → (1 ≤ m * up e → down e ≤ 2 ^ 149 → 2 ^ 925 ≤ m * 2 ^ exponent 1074 e) → down e ≤ 2 ^ 149 → (mag (fin s m e) ≡ 0) ⊎ (2 ^ 925 ≤ mag (fin s m e))
    go zero g h = inl (mag_of s (0 * 2 ^ exponent 1074 e) ∙ zero-mul (2 ^ exponent 1074 e))
    go (suc m) g h = inr (le_trans (g (mul-pos (zero-lt-suc m) (up_pos e)) h) (le_of_eq (sym (mag_of s (suc m * 2 ^ exponent 1074 e)))))

-- ---- the two products
pub record TimesBeside (t t' : Float) : Type 0 where
  pub number : Number t
  pub beside : Number t'
  pub over : (plus t + less t') * 2 ^ 45 ≤ (less t + plus t') * 2 ^ 45 + 33 * mag t'
  pub under : (less t + plus t') * 2 ^ 45 ≤ (plus t + less t') * 2 ^ 45 + 33 * mag t'

-- the exact products, from the logarithms' distance: with l and k for l and l'
exact_beside : (pl nl pk nk py ny : ℕ) → (pl + nk) * 2 ^ 40 ≤ (nl + pk) * 2 ^ 40 + (pk + nk) → (nl + pk) * 2 ^ 40 ≤ (pl + nk) * 2 ^ 40 + (pk + nk)
    → (pl * py + nl * ny + (pk * ny + nk * py)) * 2 ^ 40 ≤ (pl * ny + nl * py + (pk * py + nk * ny)) * 2 ^ 40 + (pk + nk) * (py + ny)
exact_beside pl nl pk nk py ny g h = omega (arith, mul-le-mul_right py g, mul-le-mul_right ny h)

-- |l| is at most twice |l'|
twice : (p n q m : ℕ) → (p ≡ 0) ⊎ (n ≡ 0) → (p + m) * 2 ^ 40 ≤ (n + q) * 2 ^ 40 + (q + m) → (n + q) * 2 ^ 40 ≤ (p + m) * 2 ^ 40 + (q + m) → p + n ≤ 2 * (q + m)
twice p n q m (inl e) g h = omega arith
twice p n q m (inr e) g h = omega arith

-- the exact product beside the rounded one, Z, where w units are 1
at_most_thrice : (M w Z : ℕ) → M * 2 ^ 53 ≤ Z * 2 ^ 53 + M + w * 2 ^ 52 → M ≤ 2 * Z + w
at_most_thrice M w Z h = omega arith

-- it is large beside a unit
large : (M w Z : ℕ) → w * 2 ^ 60 ≤ M → M * 2 ^ 53 ≤ Z * 2 ^ 53 + M + w * 2 ^ 52 → w * 2 ^ 50 ≤ Z
large M w Z g h = omega (arith, at_most_thrice M w Z h)

-- all roundings together
room : (K M w Z : ℕ) → K ≤ 2 * M → w * 2 ^ 50 ≤ Z → M * 2 ^ 53 ≤ Z * 2 ^ 53 + M + w * 2 ^ 52 → 32 * (M * 2 ^ 53 + (K + M) * 2 ^ 40 + w * 2 ^ 93) ≤ 33 * Z * 2 ^ 53
room K M w Z g h i =
    let m = at_most_thrice M w Z i in
    omega (arith, close (M * 2 ^ 53) M w Z h m i, both K M w Z g h m, le_trans (le_of_eq (apart w)) (mul-le-mul_right (2 ^ 43) h))
  where
    close : (X M w Z : ℕ) → w * 2 ^ 50 ≤ Z → M ≤ 2 * Z + w → X ≤ Z * 2 ^ 53 + M + w * 2 ^ 52 → X ≤ Z * 2 ^ 53 + 8 * Z
    close X M w Z g h i = over X (Z * 2 ^ 53) M (w * 2 ^ 52) Z (small w Z g) h i
      where
        small : (w Z : ℕ) → w * 2 ^ 50 ≤ Z → (w * 2 ^ 52 ≤ 4 * Z) × (w ≤ Z)
        small w Z h = (omega arith, omega arith)

        over : (X Y M W Z : ℕ) → (W ≤ 4 * Z) × (w ≤ Z) → M ≤ 2 * Z + w → X ≤ Y + M + W → X ≤ Y + 8 * Z
        over X Y M W Z g h i = omega arith

    both : (K M w Z : ℕ) → K ≤ 2 * M → w * 2 ^ 50 ≤ Z → M ≤ 2 * Z + w → (K + M) * 2 ^ 40 ≤ 9 * Z * 2 ^ 40
    both K M w Z g h i = mul-le-mul_right (2 ^ 40) (omega arith)

    apart : (w : ℕ) → w * 2 ^ 93 ≡ w * 2 ^ 50 * 2 ^ 43
    apart w = omega arith

-- from the two products, with A - B and C - D for them
joined : (A B C D P N Q O K M w Z : ℕ) → (A + N) * 2 ^ 53 ≤ (B + P) * 2 ^ 53 + (K + w * 2 ^ 52) → (D + Q) * 2 ^ 53 ≤ (C + O) * 2 ^ 53 + (M + w * 2 ^ 52) → (P + O) * 2 ^ 40 ≤ (N + Q) * 2 ^ 40 + M
    → 32 * (M * 2 ^ 53 + (K + M) * 2 ^ 40 + w * 2 ^ 93) ≤ 33 * Z * 2 ^ 53 → (A + D) * 2 ^ 45 ≤ (B + C) * 2 ^ 45 + 33 * Z
joined A B C D P N Q O K M w Z f g h i = omega (arith, first A B C D P N Q O K M w f g h)
  where
    first : (A B C D P N Q O K M w : ℕ) → (A + N) * 2 ^ 53 ≤ (B + P) * 2 ^ 53 + (K + w * 2 ^ 52) → (D + Q) * 2 ^ 53 ≤ (C + O) * 2 ^ 53 + (M + w * 2 ^ 52) → (P + O) * 2 ^ 40 ≤ (N + Q) * 2 ^ 40 + M
        → (A + D) * 2 ^ 93 ≤ (B + C) * 2 ^ 93 + (M * 2 ^ 53 + (K + M) * 2 ^ 40 + w * 2 ^ 93)
    first A B C D P N Q O K M w f g h = omega arith

-- in units of the product again
in_units_again : (p m n q z w : ℕ) → 0 < w → (p * w + m * w) * 2 ^ 45 ≤ (n * w + q * w) * 2 ^ 45 + 33 * (z * w) → (p + m) * 2 ^ 45 ≤ (n + q) * 2 ^ 45 + 33 * z
in_units_again p m n q z w W h = le_of_mul-le-mul_right (le_trans (le_of_eq (omega arith)) (le_trans h (le_of_eq (omega arith)))) W

module _ {l l' y : Float} (b : LogBeside l l') (s : Single y) where
  M : ℕ
  M = mag l' * mag y

  K : ℕ
  K = mag l * mag y

  under_limit : (x : Float) → Bound S (2 ^ 62) x → mag x * mag y ≤ limit * per_one
  unfolding S per_one limit
  under_limit x c = le_trans (mul-le-mul c.size s.most) (lit≤ tt)

  z : Multiplied l y (l ⊗ y)
  z = mul_near b.near.number s.number (under_limit l b.size)

  z' : Multiplied l' y (l' ⊗ y)
  z' = mul_near b.near.beside s.number (under_limit l' b.plain_size)

  sized : mag l ≤ 2 * mag l'
  sized = twice (plus l) (less l) (plus l') (less l') (one_side l) b.near.over b.near.under

  K_small : K ≤ 2 * M
  unfolding K M
  K_small = le_trans (mul-le-mul_right (mag y) sized) (le_of_eq (mul_assoc 2 (mag l') (mag y)))

  -- the exact products
  over : (plus_times l y + less_times l' y) * 2 ^ 40 ≤ (less_times l y + plus_times l' y) * 2 ^ 40 + M
  unfolding M
  over = exact_beside (plus l) (less l) (plus l') (less l') (plus y) (less y) b.near.over b.near.under

  under : (less_times l y + plus_times l' y) * 2 ^ 40 ≤ (plus_times l y + less_times l' y) * 2 ^ 40 + M
  unfolding M
  under = omega (arith, exact_beside (less l) (plus l) (less l') (plus l') (plus y) (less y) (swap (less l + plus l') (plus l + less l') (plus l') (less l') b.near.under) (swap (plus l + less l') (less l + plus l') (plus l') (less l') b.near.over))
    where
      swap : (a c q m : ℕ) → a * 2 ^ 40 ≤ c * 2 ^ 40 + (q + m) → a * 2 ^ 40 ≤ c * 2 ^ 40 + (m + q)
      swap a c q m h = omega arith

  -- where there is a product
  apart : 2 ^ 1000 ≤ mag l' → 2 ^ 925 ≤ mag y → TimesBeside (l ⊗ y) (l' ⊗ y)
  unfolding K M
  apart g h =
      let o = off_product l y (l ⊗ y) z in
      let o' = off_product l' y (l' ⊗ y) z' in
      let W = per_one in
      let Z = mag (l' ⊗ y) * W in
      let r = room (mag l * mag y) (mag l' * mag y) W Z K_small (large (mag l' * mag y) W Z (le_trans units (mul-le-mul g h)) z'.least) z'.least in
      record {
        number = z.number;
        beside = z'.number;
        over = in_units_again (plus (l ⊗ y)) (less (l' ⊗ y)) (less (l ⊗ y)) (plus (l' ⊗ y)) (mag (l' ⊗ y)) W per_one_pos
            (joined (plus (l ⊗ y) * W) (less (l ⊗ y) * W) (plus (l' ⊗ y) * W) (less (l' ⊗ y) * W) (plus_times l y) (less_times l y) (plus_times l' y) (less_times l' y) (mag l * mag y) (mag l' * mag y) W Z o.most o'.least over r);
        under = in_units_again (less (l ⊗ y)) (plus (l' ⊗ y)) (plus (l ⊗ y)) (less (l' ⊗ y)) (mag (l' ⊗ y)) W per_one_pos
            (joined (less (l ⊗ y) * W) (plus (l ⊗ y) * W) (less (l' ⊗ y) * W) (plus (l' ⊗ y) * W) (less_times l y) (plus_times l y) (less_times l' y) (plus_times l' y) (mag l * mag y) (mag l' * mag y) W Z o.least o'.most under r);
      }
    where
      units : per_one * 2 ^ 60 ≤ 2 ^ 1000 * 2 ^ 925
      units = unfold per_one in lit≤ tt

  -- where there is none
  nil : M ≡ 0 → TimesBeside (l ⊗ y) (l' ⊗ y)
  unfolding K M
  nil e =
      let k = none (mag l * mag y) (mag l' * mag y) K_small e in
      let p = nothing (mag (l ⊗ y)) (mag l * mag y) per_one per_one_pos k z.most in
      let q = nothing (mag (l' ⊗ y)) (mag l' * mag y) per_one per_one_pos e z'.most in
      record {
        number = z.number;
        beside = z'.number;
        over = (zeroes (plus (l ⊗ y)) (less (l ⊗ y)) (plus (l' ⊗ y)) (less (l' ⊗ y)) p q).0;
        under = (zeroes (plus (l ⊗ y)) (less (l ⊗ y)) (plus (l' ⊗ y)) (less (l' ⊗ y)) p q).1;
      }
    where
      none : (k m : ℕ) → k ≤ 2 * m → m ≡ 0 → k ≡ 0
      none k m g h = omega arith

      zeroes : (p n q m : ℕ) → p + n ≡ 0 → q + m ≡ 0 → ((p + m) * 2 ^ 45 ≤ (n + q) * 2 ^ 45 + 33 * (q + m)) × ((n + q) * 2 ^ 45 ≤ (p + m) * 2 ^ 45 + 33 * (q + m))
      zeroes p n q m g h = (omega arith, omega arith)

  pub times_beside : TimesBeside (l ⊗ y) (l' ⊗ y)
  unfolding M
  times_beside = go b.some s.some
    where
      go : (mag l' ≡ 0) ⊎ (2 ^ 1000 ≤ mag l') → (mag y ≡ 0) ⊎ (2 ^ 925 ≤ mag y) → TimesBeside (l ⊗ y) (l' ⊗ y)
      go (inl e) t = nil (ap (λ (k : ℕ). k * mag y) e ∙ zero-mul (mag y))
      go (inr g) (inl e) = nil (ap (λ (k : ℕ). mag l' * k) e ∙ mul-zero (mag l'))
      go (inr g) (inr h) = apart g h
