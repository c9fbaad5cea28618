-- 1 + x with its power of two taken out, and that power: t is from 1/2 to 3/2 (`reduced_positive`), the exponent e is 0 or a whole number of size 1 to 150
-- (`exponent_cases`), and of the entries of the two tables of inverses those of index 18 and 19 are 1 and 0, and the others are far from it
-- (`one_18`, `one_19`, `inverse_cases`). Assumes nothing.
use Rattle.std.proofs.Common.{◌≡◌, ℕ, zero, suc, ◌+◌, ◌-◌, ◌*◌, ◌/◌, ◌^◌, ◌<◌, ◌≤◌, Bool, true, false, cond, not, ◌||◌, T, eqb, leb, ◌⊎◌, ℤ, pos, negsuc, neg_ℤ, sym, refl, ap, ◌∙◌, subst, inl, inr, le_trans, lt_of_le_of_lt, mul-one, mul_right_comm, arith, lit<, lit≤, eqb→eq, leb→le}
use lib.Dec.{nleb→lt}
use lib.Ieee.{Float, nan, inf, fin, binary64, up, down, minus, round, fits, of_bits, of_int}
use lib.Ieee.Back.{round_whole}
use lib.Ieee.Bits.{of_bits-fits}
use lib.Ieee.Exact.{HasValue}
use lib.Ieee.Fits.{round-fits}
use lib.Ieee.Scale.{finite}
use Rattle.floats.specs.Operations.{f64}
use Rattle.floats.proofs.Laws.Magnitude.{below_infinity}
use Rattle.floats.proofs.Laws.Order.{values_of_patterns}
use Rattle.tables.specs.Tables.{entry, pair_entry, from_bit_pair, log2p1_compoundf_inv, log2p1_compoundf_log2_inv}
use Rattle.tables.proofs.Entries.{carried}
use Rattle.special.specs.Special.{one}
use Rattle.fast_path.specs.Scaling.{scaled, biased, exponent_of}
use Rattle.fast_path.proofs.Field.{biased_near}
use Rattle.fast_path.proofs.Index.{reduced_pattern}
use Rattle.bounds.proofs.Values.{per_one, plus, less, mag, Number, Units, by_value}
use Rattle.bounds.proofs.Operation.{units_mag}
use Rattle.bounds.proofs.Scales.{S, tested}
use Rattle.bounds.proofs.Compared.{Positive, tested_positive, le_units}
use Rattle.bounds.proofs.OwnScale.{Nil}

-- ---- a value by its pattern
pattern_positive : (n : ℕ) → 0x3fe0000000000000 ≤ n → n ≤ 0x3ff8000000000000 → Positive (2 ^ 52) (3 * 2 ^ 52) (f64 n)
pattern_positive n l h =
    let f = below_infinity binary64 n (lt_of_le_of_lt h (lit< tt)) in
    let num : Number (f64 n) = record { held = of_bits-fits binary64 n; plain = subst (λ (x : Float). T (finite x)) (sym f.is) tt } in
    let clear : less (f64 n) ≡ 0 = ap less f.is in
    let half = half_is in
    let most = more_is in
    record {
      number = num;
      clear = clear;
      least = from_half (plus (f64 0x3fe0000000000000)) (less (f64 0x3fe0000000000000)) (plus (f64 n)) (less (f64 n)) (2 ^ 52 * S) clear half.clear half.least (le_units (f64 0x3fe0000000000000) (f64 n) half.number num (values_of_patterns binary64 0x3fe0000000000000 n l (le_trans h (lit≤ tt))));
      most = to_more (plus (f64 n)) (less (f64 n)) (plus (f64 0x3ff8000000000000)) (less (f64 0x3ff8000000000000)) (3 * 2 ^ 52 * S) clear most.most (le_units (f64 n) (f64 0x3ff8000000000000) num most.number (values_of_patterns binary64 n 0x3ff8000000000000 h (lit≤ tt)));
    }
  where
    half_is : Positive (2 ^ 52) (2 ^ 52) (f64 0x3fe0000000000000)
    half_is = unfold of_bits fits in tested_positive (2 ^ 52) (2 ^ 52) (f64 0x3fe0000000000000) tt

    more_is : Positive (3 * 2 ^ 52) (3 * 2 ^ 52) (f64 0x3ff8000000000000)
    more_is = unfold of_bits fits in tested_positive (3 * 2 ^ 52) (3 * 2 ^ 52) (f64 0x3ff8000000000000) tt

    from_half : (p n q m a : ℕ) → m ≡ 0 → n ≡ 0 → a ≤ p → p + m ≤ q + n → a ≤ q
    from_half p n q m a e f h g = omega arith

    to_more : (p n q m b : ℕ) → n ≡ 0 → q ≤ b → p + m ≤ q + n → p ≤ b
    to_more p n q m b e h g = omega arith

pub reduced_positive : (v : ℕ) → v < 2 ^ 63 → Positive (2 ^ 52) (3 * 2 ^ 52) (f64 (scaled v (neg_ℤ (exponent_of v))))
reduced_positive v small =
    let r = reduced_pattern v small in
    pattern_positive (scaled v (neg_ℤ (exponent_of v))) (le_trans (lit≤ tt) r.1) (le_trans r.2 (lit≤ tt))

-- ---- the exponent
pub record Power (e : Float) : Type 0 where
  pub size : ℕ
  pub least : 1 ≤ size
  pub most : size ≤ 150
  pub number : Number e
  pub is : mag e ≡ size * per_one

-- a whole number as an f64
whole_units : (s : Bool) (n : ℕ) → n ≤ 2 ^ 53 → Units s (n * per_one) (round binary64 s n 1)
whole_units s n h = by_value (round binary64 s n 1) s (n * per_one) (round-fits binary64 s n 1) (rescaled (round binary64 s n 1) (round_whole binary64 s n h))
  where
    rescaled : (x : Float) → HasValue x s n 1 → HasValue x s (n * per_one) per_one
    rescaled nan v = v
    rescaled (inf t) v = v
    rescaled (fin t m e) v = (v.0, ap (λ (k : ℕ). k * per_one) (sym (mul-one (m * up e)) ∙ v.1) ∙ mul_right_comm n (down e) per_one)

power_of : (s : Bool) (n : ℕ) → 1 ≤ n → n ≤ 150 → Power (round binary64 s n 1)
power_of s n l h =
    let u = whole_units s n (le_trans h (lit≤ tt)) in
    record { size = n; least = l; most = h; number = u.number; is = units_mag u }

-- e is 0, or such a number
exponent_size : (b : ℕ) → 999 ≤ b → b ≤ 1152 → (b ≡ 1023) ⊎ Power (of_int binary64 (minus b 0x3ff))
unfolding of_int
exponent_size b l h = go (leb 0x3ff b) (leb→le 0x3ff b) (nleb→lt 0x3ff b)
  where
    above : (k : ℕ) → b ≡ 1023 + k → (b ≡ 1023) ⊎ Power (of_int binary64 (pos k))
    above zero e = inl (e ∙ refl)
    above (suc k) e = inr (power_of false (suc k) (omega arith) (omega (arith, e)))

    up_from : 1023 ≤ b → b ≡ 1023 + (b - 1023)
    up_from g = omega (arith, g)

    go : (u : Bool) → (T u → 1023 ≤ b) → (T (not u) → b < 1023) → (b ≡ 1023) ⊎ Power (of_int binary64 (cond u (pos (b - 0x3ff)) (negsuc (0x3ff - suc b))))
    go true g k = above (b - 1023) (up_from (g tt))
    go false g k = inr (power_of true (suc (0x3ff - suc b)) (omega arith) (omega (arith, k tt)))

-- 0 as an f64
pub no_power : Nil (of_int binary64 (pos 0))
unfolding of_int round fits
no_power = record { number = (tested 0 (of_int binary64 (pos 0)) tt).number; is = refl }

-- no power of two is taken out of the pattern v
pub record Alone (v : ℕ) : Type 0 where
  pub none : exponent_of v ≡ pos 0
  pub field : biased v ≡ 1023
  pub nil : Nil (of_int binary64 (exponent_of v))

pub exponent_cases : (v : ℕ) → 999 * 2 ^ 52 ≤ v → v < 1151 * 2 ^ 52 → Alone v ⊎ Power (of_int binary64 (exponent_of v))
unfolding exponent_of
exponent_cases v low high = go (exponent_size (biased v) (from_field v (biased v) low (biased_near v).0) (to_field v (biased v) high (biased_near v).1))
  where
    from_field : (v b : ℕ) → 999 * 4503599627370496 ≤ v → v / 4503599627370496 ≤ b → 999 ≤ b
    from_field v b l h = omega arith

    to_field : (v b : ℕ) → v < 1151 * 4503599627370496 → b ≤ v / 4503599627370496 + 1 → b ≤ 1152
    to_field v b l h = omega arith

    go : (biased v ≡ 1023) ⊎ Power (of_int binary64 (minus (biased v) 0x3ff)) → Alone v ⊎ Power (of_int binary64 (minus (biased v) 0x3ff))
    go (inl h) =
        let none = ap (λ (b : ℕ). minus b 0x3ff) h in
        inl (record { none = none; field = h; nil = subst (λ (k : ℤ). Nil (of_int binary64 k)) (sym none) no_power })
    go (inr p) = inr p

-- ---- the two tables of inverses
-- at 18 and 19 the inverse is 1, and its logarithm 0
pub record One (i : ℕ) : Type 0 where
  pub inverse : entry log2p1_compoundf_inv i ≡ one
  pub hi : Nil (pair_entry log2p1_compoundf_log2_inv i).hi
  pub lo : Nil (pair_entry log2p1_compoundf_log2_inv i).lo

pub one_18 : One 18
unfolding entry pair_entry from_bit_pair log2p1_compoundf_inv log2p1_compoundf_log2_inv of_bits fits
one_18 = record { inverse = refl; hi = record { number = record { held = tt; plain = tt }; is = refl }; lo = record { number = record { held = tt; plain = tt }; is = refl } }

pub one_19 : One 19
unfolding entry pair_entry from_bit_pair log2p1_compoundf_inv log2p1_compoundf_log2_inv of_bits fits
one_19 = record { inverse = refl; hi = record { number = record { held = tt; plain = tt }; is = refl }; lo = record { number = record { held = tt; plain = tt }; is = refl } }

-- elsewhere the logarithm is 35/1024 at least
pub inverse_cases : (i : ℕ) → i < 46 → One i ⊎ (35 * 2 ^ 43 * S ≤ mag (pair_entry log2p1_compoundf_log2_inv i).hi)
unfolding pair_entry from_bit_pair log2p1_compoundf_log2_inv of_bits S
inverse_cases i h = go (eqb i 18) (eqb→eq i 18) (eqb i 19) (eqb→eq i 19) (carried 46 (λ (k : ℕ). eqb k 18 || (eqb k 19 || leb (35 * 2 ^ 43 * 2 ^ 1021) (mag (pair_entry log2p1_compoundf_log2_inv k).hi))) tt i h)
  where
    go : (a : Bool) → (T a → i ≡ 18) → (b : Bool) → (T b → i ≡ 19) → T (a || (b || leb (35 * 2 ^ 43 * 2 ^ 1021) (mag (pair_entry log2p1_compoundf_log2_inv i).hi))) → One i ⊎ (35 * 2 ^ 43 * 2 ^ 1021 ≤ mag (pair_entry log2p1_compoundf_log2_inv i).hi)
    go true p b q t = inl (subst One (sym (p tt)) one_18)
    go false p true q t = inl (subst One (sym (q tt)) one_19)
    go false p false q t = inr (leb→le (35 * 2 ^ 43 * 2 ^ 1021) (mag (pair_entry log2p1_compoundf_log2_inv i).hi) t)
