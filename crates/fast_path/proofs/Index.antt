-- Where the fast path reads its tables, and the power of two that is taken out or put in: each index is inside its table, and each power is one
-- that an i64 holds, and its cast is defined. Assumes nothing.
use Rattle.std.proofs.Common.{◌≡◌, ℕ, zero, suc, ◌+◌, ◌-◌, ◌*◌, ◌/◌, ◌%◌, ◌^◌, ◌<◌, ◌≤◌, min, Bool, true, false, cond, not, T, eqb, leb, ℤ, pos, negsuc, neg_ℤ, sym, refl, subst, ap, ◌∙◌, le_trans, le_of_eq, le_of_lt, mul-le-mul_right, zero-lt-suc, mul-pos, mul-one, not-le_of_lt, arith, lit<, lit≤, eqb→eq, ltb→lt, leb→le, w64, to_z, of_z}
use native.Mathlib.Nat.{min-le_left}
use lib.Dec.{nleb→lt}
use lib.Ieee.{Float, nan, inf, fin, binary64, up, down, add, sub, le, lt, to_signed, in_signed, is_nan, fits, minus, nan_bits, to_bits, of_bits}
use lib.Ieee.Bits.{of_bits-fits}
use lib.Ieee.Fits.{and_r, add-fits, sub-fits, up_pos, down_pos}
use lib.Ieee.Scale.{finite}
use Rattle.floats.specs.Operations.{◌⊕◌}
use Rattle.floats.specs.Narrowing.{nearest_whole}
use Rattle.floats.proofs.Laws.Nan.{number_of_below}
use Rattle.floats.proofs.Laws.Order.{clear, pattern_mono, values_of_patterns}
use Rattle.floats.proofs.Laws.Sums.{add_mono, add_mono_left, whole_distance, SizeAtMost, size_finite, whole_at_most}
use Rattle.floats.proofs.Laws.Cast.{part_at_most, signed_cast, whole_twice, whole_fits}
use Rattle.fast_path.specs.Scaling.{scaled, biased, exponent_of}
use Rattle.fast_path.specs.Edges.{lower_edge, upper_edge}
use Rattle.fast_path.specs.Fast.{inverse_index, HasInverse, power_index, HasPower}
pub use Rattle.fast_path.proofs.Field.{biased_below, biased_away}
use Rattle.fast_path.proofs.Lifted.{within_read, Within}

-- ---- a value between two others
pub between_finite : (lo x hi : Float) → T (finite lo) → T (finite hi) → T (le lo x) → T (le x hi) → T (finite x)
unfolding le
between_finite nan x hi p q g h = absurd p
between_finite (inf s) x hi p q g h = absurd p
between_finite (fin s m e) nan hi p q g h = absurd g
between_finite (fin s m e) (inf true) hi p q g h = absurd g
between_finite (fin s m e) (inf false) nan p q g h = absurd q
between_finite (fin s m e) (inf false) (inf t) p q g h = absurd q
between_finite (fin s m e) (inf false) (fin t n d) p q g h = absurd h
between_finite (fin s m e) (fin t n d) hi p q g h = tt

-- from a value above zero up the sign is clear
pub above_clear : (m : ℕ) (e : ℤ) (x : Float) → T (le (fin false (suc m) e) x) → T (clear x)
unfolding le
above_clear m e nan h = absurd h
above_clear m e (inf true) h = absurd h
above_clear m e (inf false) h = tt
above_clear m e (fin false n d) h = tt
above_clear m e (fin true n d) h =
    let a = suc m * up e * down d in
    not-le_of_lt (mul-pos (mul-pos (zero-lt-suc m) (up_pos e)) (down_pos d)) (le_of_eq (eqb→eq a 0 (and_r (eqb a (n * up d * down e)) (eqb a 0) h)))

-- and then the order is that of the patterns
pub pattern_between : (m : ℕ) (e : ℤ) (x : Float) (n : ℕ) (d : ℤ)
    → T (fits binary64 (fin false (suc m) e)) → T (fits binary64 x) → T (fits binary64 (fin false n d)) → T (le (fin false (suc m) e) x) → T (le x (fin false n d))
    → (to_bits binary64 (fin false (suc m) e) ≤ to_bits binary64 x) × (to_bits binary64 x ≤ to_bits binary64 (fin false n d))
pattern_between m e x n d p q r g h =
    let c = above_clear m e x g in
    (pattern_mono binary64 (fin false (suc m) e) x tt c p q g, pattern_mono binary64 x (fin false n d) c tt q r h)

-- ---- the index of the inverse, from the pattern of t + 2
inverse_place_lem : (v : ℕ) → 0x4005a00000000000 ≤ v → v ≤ 0x400b5e0000000000 → (0x2002d ≤ v / 2 ^ 45) × (v / 2 ^ 45 - 0x2002d < 46)
inverse_place_lem v g h = (omega arith, omega arith)

-- 45/64 <= t <= 1455/1024
pub inverse_index_lem : (t : Float) → T (fits binary64 t) → T (le (of_bits binary64 0x3fe6800000000000) t) → T (le t (of_bits binary64 0x3ff6bc0000000000))
    → HasInverse t
unfolding inverse_index of_bits add fits to_bits
inverse_index_lem t f g h =
    let lo = of_bits binary64 0x3fe6800000000000 in
    let hi = of_bits binary64 0x3ff6bc0000000000 in
    let two = of_bits binary64 0x4000000000000000 in
    let p = between_finite lo t hi tt tt g h in
    let b = pattern_between 172 (negsuc 5) (add binary64 t two) 3503 (negsuc 9) tt (add-fits binary64 t two) tt (add_mono_left binary64 two lo t tt tt p g) (add_mono_left binary64 two t hi tt p tt h) in
    inverse_place_lem (to_bits binary64 (add binary64 t two)) b.0 b.1

-- ---- the index of the power, from the pattern of r + 3 + 1/64
power_place_lem : (v : ℕ) → 0x4004200000000000 ≤ v → v ≤ 0x400c200000000000 → (0x10010 ≤ v / 2 ^ 46) × (v / 2 ^ 46 - 0x10010 < 33)
power_place_lem v g h = (omega arith, omega arith)

-- -1/2 <= r <= 1/2
pub power_index_lem : (r : Float) → T (fits binary64 r) → T (le (fin true 1 (negsuc 0)) r) → T (le r (fin false 1 (negsuc 0)))
    → HasPower r
unfolding power_index of_bits add fits to_bits
power_index_lem r f g h =
    let lo = fin true 1 (negsuc 0) in
    let hi = fin false 1 (negsuc 0) in
    let three = of_bits binary64 0x4008200000000000 in
    let p = between_finite lo r hi tt tt g h in
    let b = pattern_between 160 (negsuc 5) (add binary64 three r) 225 (negsuc 5) tt (add-fits binary64 three r) tt (add_mono binary64 three lo r tt tt p g) (add_mono binary64 three r hi tt p tt h) in
    power_place_lem (to_bits binary64 (add binary64 three r)) b.0 b.1

-- ---- the pattern with its power of two taken out
wraps_once : (v b k : ℕ) → v < 2 ^ 63 → b * 2 ^ 52 ≤ v + 1023 * 2 ^ 52 → b ≡ 1023 + suc k → (v + suc k * (2 ^ 64 - 2 ^ 52)) % 2 ^ 64 ≡ v + 1023 * 2 ^ 52 - b * 2 ^ 52
wraps_once v b k small h e = omega arith

no_power : (v b : ℕ) → v < 2 ^ 63 → b ≡ 1023 → (v + 0 * 2 ^ 52) % 2 ^ 64 ≡ v + 1023 * 2 ^ 52 - b * 2 ^ 52
no_power v b small e = omega arith

no_wrap : (v b : ℕ) → v < 2 ^ 63 → b < 1023 → (v + suc (1023 - suc b) * 2 ^ 52) % 2 ^ 64 ≡ v + 1023 * 2 ^ 52 - b * 2 ^ 52
no_wrap v b small h = omega arith

taken_out : (v b : ℕ) → v < 2 ^ 63 → b * 2 ^ 52 ≤ v + 1023 * 2 ^ 52 → scaled v (neg_ℤ (minus b 0x3ff)) ≡ v + 1023 * 2 ^ 52 - b * 2 ^ 52
unfolding scaled
taken_out v b small h = go (leb 0x3ff b) (leb→le 0x3ff b) (nleb→lt 0x3ff b)
  where
    over : (k : ℕ) → b ≡ 1023 + k → scaled v (neg_ℤ (pos k)) ≡ v + 1023 * 2 ^ 52 - b * 2 ^ 52
    over zero e = no_power v b small e
    over (suc k) e = wraps_once v b k small h e

    split : 1023 ≤ b → b ≡ 1023 + (b - 1023)
    split g = omega arith

    go : (u : Bool) → (T u → 1023 ≤ b) → (T (not u) → b < 1023) → scaled v (neg_ℤ (cond u (pos (b - 0x3ff)) (negsuc (0x3ff - suc b)))) ≡ v + 1023 * 2 ^ 52 - b * 2 ^ 52
    go true g k = over (b - 1023) (split (g tt))
    go false g k = no_wrap v b small (k tt)

-- what is left of the pattern v with b taken out
record Left (v b : ℕ) : Type 0 where
  enough : b * 2 ^ 52 ≤ v + 1023 * 2 ^ 52
  from : 0x3fe6a09e667f3bcd ≤ v + 1023 * 2 ^ 52 - b * 2 ^ 52
  to : v + 1023 * 2 ^ 52 - b * 2 ^ 52 ≤ 0x3ff6a09e667f3bcc

left : (v : ℕ) → Left v (biased v)
unfolding biased
left v = go (leb 0x6a09e667f3bcd (v % 2 ^ 52)) (leb→le 0x6a09e667f3bcd (v % 2 ^ 52)) (nleb→lt 0x6a09e667f3bcd (v % 2 ^ 52))
  where
    more : 0x6a09e667f3bcd ≤ v % 2 ^ 52 → Left v (v / 2 ^ 52 + 1)
    more h = record { enough = omega arith; from = omega arith; to = omega arith }

    less : v % 2 ^ 52 < 0x6a09e667f3bcd → Left v (v / 2 ^ 52 + 0)
    less h = record { enough = omega arith; from = omega arith; to = omega arith }

    go : (u : Bool) → (T u → 0x6a09e667f3bcd ≤ v % 2 ^ 52) → (T (not u) → v % 2 ^ 52 < 0x6a09e667f3bcd) → Left v (v / 2 ^ 52 + cond u 1 0)
    go true g k = more (g tt)
    go false g k = less (k tt)

-- the exponent's field is 1023 or 1022, and the pattern one from sqrt(1/2) to sqrt(2)
pub reduced_pattern : (v : ℕ) → v < 2 ^ 63
    → (scaled v (neg_ℤ (exponent_of v)) ≡ v + 1023 * 2 ^ 52 - biased v * 2 ^ 52) × (0x3fe6a09e667f3bcd ≤ scaled v (neg_ℤ (exponent_of v))) × (scaled v (neg_ℤ (exponent_of v)) ≤ 0x3ff6a09e667f3bcc)
unfolding exponent_of
reduced_pattern v small =
    let l = left v in
    let e = taken_out v (biased v) small l.enough in
    (e, le_trans l.from (le_of_eq (sym e)), le_trans (le_of_eq e) l.to)

-- what proves `reduced`
pub ruleset reduced = (biased_below, biased_away, reduced_pattern)

-- so it is no NaN's
pub reduced_number : (v : ℕ) → v < 2 ^ 63 → T (not (nan_bits binary64 (scaled v (neg_ℤ (exponent_of v)))))
reduced_number v small = number_of_below binary64 (scaled v (neg_ℤ (exponent_of v))) (within (scaled v (neg_ℤ (exponent_of v))) (reduced_pattern v small).2)
  where
    within : (n : ℕ) → n ≤ 0x3ff6a09e667f3bcc → n % 2 ^ 63 ≤ 0x7ff0000000000000
    within n h = omega arith

-- and its value has an inverse
pub reduced_index : (v : ℕ) → v < 2 ^ 63 → HasInverse (of_bits binary64 (scaled v (neg_ℤ (exponent_of v))))
reduced_index v small =
    let n = scaled v (neg_ℤ (exponent_of v)) in
    let r = reduced_pattern v small in
    inverse_index_lem (of_bits binary64 n) (of_bits-fits binary64 n)
    (values_of_patterns binary64 0x3fe6800000000000 n (le_trans (lit≤ tt) r.1) (le_trans r.2 (lit≤ tt)))
    (values_of_patterns binary64 n 0x3ff6bc0000000000 (le_trans r.2 (lit≤ tt)) (lit≤ tt))

pub reduced_below : (v : ℕ) → v < 2 ^ 63 → inverse_index (of_bits binary64 (scaled v (neg_ℤ (exponent_of v)))) < 46
reduced_below v small = (reduced_index v small).1

-- ---- a power of two that is put in: a value of size b at most, as an i64
within_below : (b n : ℕ) → n ≤ b → Within b (neg_ℤ (pos n))
within_below b zero h = h
within_below b (suc n) h = h

pub within_of_size : (b : ℕ) (k : Float) → SizeAtMost b k → Within b (to_signed 63 k)
unfolding to_signed
within_of_size b nan h = absurd h
within_of_size b (inf s) h = absurd h
within_of_size b (fin true m e) h = within_below b (min (m * up e / down e) (2 ^ 63)) (le_trans (min-le_left (m * up e / down e) (2 ^ 63)) (part_at_most b (m * up e) (down e) (down_pos e) h))
within_of_size b (fin false m e) h = le_trans (min-le_left (m * up e / down e) (2 ^ 63 - 1)) (part_at_most b (m * up e) (down e) (down_pos e) h)

-- k + 0 as an i64, as the machine reads it back
abbrev pub cast : Float → ℤ
cast k = to_z w64 (of_z w64 (to_signed 63 (k ⊕ fin false 0 (pos 0))))

-- it is defined, and the number of k, and from -1000 to 1000
pub record Castable (k : Float) : Type 0 where
  pub defined : T (in_signed binary64 63 (k ⊕ fin false 0 (pos 0)))
  pub read : cast k ≡ to_signed 63 k
  pub within : Within 1000 (cast k)

pub castable : (k : Float) → T (fits binary64 k) → nearest_whole k ≡ k → SizeAtMost 1000 k → Castable k
castable k t w h =
    let c = signed_cast 63 1000 k t w h (lit≤ tt) (lit< tt) in
    let r : cast k ≡ to_signed 63 k = ap (λ (z : ℤ). to_z w64 (of_z w64 z)) c.1 ∙ within_read (to_signed 63 k) (within_of_size 1000 k h) in
    record { defined = c.0; read = r; within = subst (Within 1000) (sym r) (within_of_size 1000 k h) }

pub size_under : (a c d : ℕ) → c ≤ 1000 → a * 1 ≤ c * d → a ≤ 1000 * d
size_under a c d g h = le_trans (le_of_eq (sym (mul-one a))) (le_trans h (mul-le-mul_right d g))

-- -150 < t < 128
pub exponent_small : (t : Float) → T (lt lower_edge t) → T (lt t upper_edge) → SizeAtMost 1000 t
unfolding lt
exponent_small nan g h = absurd g
exponent_small (inf true) g h = absurd g
exponent_small (inf false) g h = absurd h
exponent_small (fin true m e) g h = size_under (m * up e) 150 (down e) (lit≤ tt) (le_of_lt (ltb→lt (m * up e * 1) (150 * down e) g))
exponent_small (fin false m e) g h = size_under (m * up e) 128 (down e) (lit≤ tt) (le_of_lt (ltb→lt (m * up e * 1) (128 * down e) h))

-- the nearest whole number to such a t
pub whole_k : (t : Float) → T (fits binary64 t) → T (lt lower_edge t) → T (lt t upper_edge) → Castable (nearest_whole t)
whole_k t f g h = castable (nearest_whole t) (whole_fits t) (whole_twice t f) (whole_at_most t f 1000 (exponent_small t g h))

-- and what is left of t over it has a power
pub distance_index : (t : Float) → T (fits binary64 t) → T (lt lower_edge t) → T (lt t upper_edge)
    → HasPower (sub binary64 t (nearest_whole t))
distance_index t f g h =
    let r = sub binary64 t (nearest_whole t) in
    let w = whole_distance t f (size_finite 1000 t (exponent_small t g h)) in
    power_index_lem r (sub-fits binary64 t (nearest_whole t)) w.0 w.1

-- ---- what proves `exp2_fast`
pub cast_defined : (t : Float) → T (fits binary64 t) → T (lt lower_edge t) → T (lt t upper_edge) → T (in_signed binary64 63 (nearest_whole t ⊕ fin false 0 (pos 0)))
cast_defined t f g h = (whole_k t f g h).defined

pub cast_read : (t : Float) → T (fits binary64 t) → T (lt lower_edge t) → T (lt t upper_edge) → cast (nearest_whole t) ≡ to_signed 63 (nearest_whole t)
cast_read t f g h = (whole_k t f g h).read

pub distance_below : (t : Float) → T (fits binary64 t) → T (lt lower_edge t) → T (lt t upper_edge) → power_index (sub binary64 t (nearest_whole t)) < 33
distance_below t f g h = (distance_index t f g h).1

pub is_0 : of_bits binary64 0 ≡ fin false 0 (pos 0)
unfolding of_bits
is_0 = refl

pub ruleset two_to_t = (is_0, cast_defined, cast_read, distance_index, distance_below)

-- what has an index in its table is no NaN: a NaN's pattern lies far above
numbered : (y : Float) (w d n : ℕ) → n ≤ 0x7ff8000000000000 / w - d → to_bits binary64 y / w - d < n → T (not (is_nan y))
unfolding to_bits is_nan
numbered nan w d n g h = absurd (not-le_of_lt h g)
numbered (inf s) w d n g h = tt
numbered (fin s m e) w d n g h = tt

pub inverse_number : (t : Float) → inverse_index t < 46 → T (not (is_nan (add binary64 t (of_bits binary64 0x4000000000000000))))
unfolding inverse_index
inverse_number t h = numbered (add binary64 t (of_bits binary64 0x4000000000000000)) (2 ^ 45) 0x2002d 46 (lit≤ tt) h

pub power_number : (r : Float) → power_index r < 33 → T (not (is_nan (add binary64 (of_bits binary64 0x4008200000000000) r)))
unfolding power_index
power_number r h = numbered (add binary64 (of_bits binary64 0x4008200000000000) r) (2 ^ 46) 0x10010 33 (lit≤ tt) h
