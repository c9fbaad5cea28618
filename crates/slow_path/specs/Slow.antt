-- Document 01, "Table path" and "Traps for the translator": `compoundf_log2p1_accurate` and
-- `compoundf_exp2_accurate`, line by line with the source, at every double-double. One sum stands the other way
-- round, which changes nothing: the source's `2.0 + v_dd.hi` is `inverse_index`'s t + 2, as the fast path has it.
use Rattle.std.specs.Prelude.{ℕ, ◌+◌, ◌-◌, ◌%◌, ◌^◌, min, Bool, true, false, cond, ◌&&◌, [], ◌∷◌, ℤ, pos, negsuc}
use Rattle.std.specs.Prelude.{◌==◌, nat_le, to_bits, fold, Float}
use Rattle.std.specs.Float.{fin, binary32, binary64}
use Rattle.std.specs.Float.Ieee.{add, lt, le, eq, ne, of_int, to_signed}
use Rattle.floats.specs.Operations.{◌⊕◌, ◌⊖◌, ◌⊗◌, f64}
use Rattle.floats.specs.Narrowing.{narrowed, nearest_whole}
use Rattle.floats.specs.OnBits.{absolute}
use Rattle.double_double.specs.declared.DoubleDouble.{DoubleDouble}
use Rattle.double_double.specs.DoubleDouble.{from_exact_add, quick_mult, quick_mult_f64, dd_fmla}
use Rattle.tables.specs.Tables.{entry, pair_entry, log2p1_compoundf_inv, log2p1_compoundf_log2_inv, compoundf_exp2_t}
use Rattle.tables.specs.Tables.{compoundf_exp2_u, log2p1_scale, log2p1_log2_poly, exp2_poly_q2}
use Rattle.special.specs.Special.{zero, one, minus_one}
use Rattle.fast_path.specs.Scaling.{scaled, biased, exponent_of}
use Rattle.fast_path.specs.Fast.{inverse_index, power_index}

-- entry i of LOG2P1_LOG2_POLY, and of Q2
abbrev pub p : ℕ → Float
p i = entry log2p1_log2_poly i

abbrev pub q2 : ℕ → Float
q2 i = entry exp2_poly_q2 i

-- What both polynomials do with the coefficient of a degree, for the sum t of its hi and v's: v.hi = t.hi and v.lo +=
-- t.lo + lo.
unfoldable pub with_term : DoubleDouble → DoubleDouble → Float → DoubleDouble
with_term v t lo = record { lo = v.lo ⊕ (t.lo ⊕ lo); hi = t.hi }

-- One step of `log2_poly2`: the coefficient in entries i and i + 1 is added to v, and the sum is multiplied by z.
unfoldable pub next_log2 : DoubleDouble → DoubleDouble → ℕ → DoubleDouble
next_log2 v z i = quick_mult (with_term v (from_exact_add v.hi (p i)) (p (i + 1))) z

-- "In `log2_poly2` the loop over the higher coefficients drops h at each turn": the loop runs over entries 11 to 16,
-- and starts with entry 17. So only entry 16 counts (`higher_is` in proofs/LogSize.antt).
unfoldable pub higher : Float → Float
higher z = fold (λ h i. dd_fmla z z (p i)) (p 17) (11 ∷ 12 ∷ 13 ∷ 14 ∷ 15 ∷ 16 ∷ [])

-- `log2_poly2`: near log2(1 + z)
unfoldable pub log2_poly2 : DoubleDouble → DoubleDouble
log2_poly2 z =
    let h = higher z.hi in
    let v = quick_mult_f64 z h in
    let t = from_exact_add v.hi (p 10) in
    let v10 = quick_mult (record { lo = v.lo ⊕ t.lo; hi = t.hi }) z in
    fold (λ v i. next_log2 v z i) v10 (8 ∷ 6 ∷ 4 ∷ 2 ∷ 0 ∷ [])

-- 1 + x as a double-double, at the start of `compoundf_log2p1_accurate`
unfoldable pub one_plus : Float → DoubleDouble
one_plus x =
    cond (le x one)
    (cond (le (fin false 1 (negsuc 52)) (absolute (narrowed x))) (from_exact_add one x) (record { lo = x; hi = one }))
    (from_exact_add x one)

-- z = r×(v.hi + v.lo) - 1
unfoldable pub times_inverse : Float → DoubleDouble → DoubleDouble
times_inverse r v = from_exact_add (dd_fmla r v.hi minus_one) (r ⊗ v.lo)

-- e + a + b, as the source adds e, log2_inv and log_p
unfoldable pub sum_of_logs : Float → DoubleDouble → DoubleDouble → DoubleDouble
sum_of_logs e a b =
    let s = from_exact_add e a.hi in
    let sLo = s.lo ⊕ a.lo in
    let sum = from_exact_add s.hi b.hi in
    record { lo = sum.lo ⊕ (sLo ⊕ b.lo); hi = sum.hi }

-- e + log2(v.hi + v.lo), for a v.hi that has an inverse: of index i
unfoldable pub log2_reduced : Float → DoubleDouble → DoubleDouble
log2_reduced e v =
    let i = inverse_index v.hi in
    let z = times_inverse (entry log2p1_compoundf_inv i) v in
    sum_of_logs e (pair_entry log2p1_compoundf_log2_inv i) (log2_poly2 z)

-- `compoundf_log2p1_accurate`: near log2(1 + x). The scale is entry e + 29 of LOG2P1_SCALE, and e is `biased` less
-- 1023. Every pair has the entry, and it takes the exponent away (`times_scale` in proofs/Scaled.antt).
unfoldable pub compoundf_log2p1_accurate : Float → DoubleDouble
compoundf_log2p1_accurate x =
    let v = one_plus x in
    let bits = to_bits binary64 v.hi in
    let scale = entry log2p1_scale (biased bits + 29 - 1023) in
    log2_reduced (of_int binary64 (exponent_of bits)) (record { lo = v.lo ⊗ scale; hi = v.hi ⊗ scale })

-- One step of `compoundf_exp2_poly2`: q is multiplied by z, and added to the coefficient in entries i and i + 1.
unfoldable pub next_exp2 : DoubleDouble → DoubleDouble → ℕ → DoubleDouble
next_exp2 q z i =
    let q' = quick_mult q z in
    with_term q' (from_exact_add (q2 i) q'.hi) (q2 (i + 1))

-- the terms of degree 4 and above, divided by z^4, in f64: z is the source's z.hi
unfoldable pub highest_exp2 : Float → DoubleDouble
highest_exp2 z =
    let h2 = z ⊗ z in
    let c7 = dd_fmla (q2 11) z (q2 10) in
    let c5 = dd_fmla (q2 9) z (q2 8) in
    let c5' = dd_fmla c7 h2 c5 in
    let zVqh = c5' ⊗ z in
    from_exact_add (q2 7) zVqh

-- `compoundf_exp2_poly2`: near 2^z
unfoldable pub compoundf_exp2_poly2 : DoubleDouble → DoubleDouble
compoundf_exp2_poly2 z =
    let q1 = fold (λ q i. next_exp2 q z i) (highest_exp2 z.hi) (5 ∷ 3 ∷ 1 ∷ []) in
    let q = quick_mult q1 z in
    let t = from_exact_add (q2 0) q.hi in
    record { lo = q.lo ⊕ t.lo; hi = t.hi }

-- "an index below 0 reads entry 0 and one above 32 reads entry 32". The subtraction in `power_index` stops at 0. A
-- sum below 0 has a larger pattern than any above, and so it reads entry 32, as does a NaN. For no pair is the index
-- cut, nor k below (`IndexInside` and `KInside` in answers/specs/Reached.antt).
unfoldable pub clamped_index : Float → ℕ
clamped_index r = min (power_index r) 32

-- "in the scaling a k past 1000 or -1000 counts as that end and a NaN k as 0", which is what `to_signed` makes of a NaN
unfoldable pub clamped_k : Float → ℤ
clamped_k k =
    cond (lt k (fin true 125 (pos 3))) (negsuc 999)
    (cond (lt (fin false 125 (pos 3)) k) (pos 1000) (to_signed 63 k))

-- the source's ERR: the bound on the error of q.hi + q.lo, where `small` is false and where it is true
unfoldable pub err_of : Bool → Float
err_of false = f64 0x3abb100000000000
err_of true = f64 0x3a2d800000000000

-- w of the rounding test: the pattern of q.hi, and where its last 28 bits are -1, 0 or 1, of q.hi + (q.lo + err),
-- scaled
unfoldable pub test_pattern : DoubleDouble → Float → ℤ → ℕ
test_pattern q err k =
    let w = to_bits binary64 q.hi in
    cond (nat_le ((w + 1) % 2 ^ 64 % 2 ^ 28) 2) (scaled (to_bits binary64 (q.hi ⊕ (q.lo ⊕ err))) k) w

-- whether w has 28 zeros at its end, so that the source's w.wrapping_shl(36) is 0, and q.lo was lost in v, the
-- pattern of q.hi + q.lo
unfoldable pub is_lost : DoubleDouble → ℕ → ℕ → Bool
is_lost q w v = w % 2 ^ 28 == 0 && eq (f64 v) q.hi && ne q.lo zero

-- "simulate round to odd": v moved by one, up where lo is above 0, else down
unfoldable pub one_towards : ℕ → Float → ℕ
one_towards v lo = (v + cond (lt zero lo) 1 (2 ^ 64 - 1)) % 2 ^ 64

-- the pattern of q.hi + q.lo, and where q.lo was lost, one towards it
unfoldable pub rounded_to_odd : DoubleDouble → ℕ → ℕ
rounded_to_odd q w =
    let v = to_bits binary64 (q.hi ⊕ q.lo) in
    cond (is_lost q w v) (one_towards v q.lo) v

-- The end of `compoundf_exp2_accurate`: q.hi + q.lo, rounded once, times 2^k
unfoldable pub scaled_to_f32 : DoubleDouble → Float → ℤ → Float
scaled_to_f32 q err k = narrowed (f64 (scaled (rounded_to_odd q (test_pattern q err k)) k))

-- The middle of `compoundf_exp2_accurate`: 2^(v.hi + v.lo) by the power of index i and the polynomial at the rest
unfoldable pub exp2_product : DoubleDouble → ℕ → DoubleDouble
exp2_product v i =
    let rest = from_exact_add (v.hi ⊖ entry compoundf_exp2_t i) v.lo in
    let q = quick_mult (pair_entry compoundf_exp2_u i) (compoundf_exp2_poly2 rest) in
    from_exact_add q.hi q.lo

-- the source's `small`, for h = x_dd.hi
unfoldable pub is_small : Float → ℕ → Float → Bool
is_small k i h = eq k zero && i == 16 && le h (f64 0x3f60000000000000)

-- `compoundf_exp2_accurate` from "r = x_dd.hi - k" on
unfoldable pub exp2_away : DoubleDouble → Float → Float
exp2_away t k =
    let v = from_exact_add (t.hi ⊖ k) t.lo in
    let i = clamped_index v.hi in
    scaled_to_f32 (exp2_product v i) (err_of (is_small k i t.hi)) (clamped_k k)

-- "check easy cases h+l is tiny thus 2^(h+l) rounds to 1, 1- or 1+", for h = x_dd.hi
unfoldable pub is_near_one : Float → Float → Bool
is_near_one k h = eq k zero && le (absolute h) (f64 0x3e6715476af0d4c8)

-- `compoundf_exp2_accurate` where y is not 1: 2^(t.hi + t.lo), rounded to f32
unfoldable pub exp2_accurate : DoubleDouble → Float
exp2_accurate t =
    let k = nearest_whole t.hi in
    cond (is_near_one k t.hi) (narrowed (one ⊕ t.hi ⊗ f64 0x3fe0000000000000)) (exp2_away t k)

-- `compoundf_accurate`, with the first lines of `compoundf_exp2_accurate`: y = 1 answers 1.0 + x in f32
unfoldable pub compoundf_accurate : Float → Float → Float
compoundf_accurate x y =
    cond (eq y one) (add binary32 one x) (exp2_accurate (quick_mult_f64 (compoundf_log2p1_accurate x) y))
