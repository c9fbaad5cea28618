-- Document 01, "Table path": `compoundf_log2p1_fast` and `exp2_fast`. "Operations and their order are those of" the
-- source, line by line and under the names that the lines have there.
use Rattle.std.specs.Prelude.{ℕ, ◌-◌, ◌/◌, ◌^◌, ◌<◌, ◌≤◌, cond, neg_ℤ, Option, Some, None, to_bits, Float}
use Rattle.std.specs.Float.{binary64}
use Rattle.std.specs.Float.Ieee.{of_int, to_signed, lt, ne}
use Rattle.floats.specs.Operations.{◌⊕◌, ◌⊖◌, ◌⊗◌, f64}
use Rattle.floats.specs.Narrowing.{narrowed, nearest_whole}
use Rattle.double_double.specs.DoubleDouble.{dd_fmla}
use Rattle.tables.specs.Tables.{entry, pair_entry, log2p1_compoundf_inv, log2p1_compoundf_log2_inv, compoundf_exp2_t}
use Rattle.tables.specs.Tables.{compoundf_exp2_u, log2p1_poly_p, expf_poly_q}
use Rattle.special.specs.Special.{one, minus_one}
use Rattle.fast_path.specs.Scaling.{scaled, exponent_of}

-- a, b and c to a value of a×b + c. The evaluations below are over any such `fma`, so that they can be made in
-- another way too; the source's is `dd_fmla`.
abbrev pub MulAdd : Type 0
MulAdd = Float → Float → Float → Float

-- what z is multiplied by in `log2p1_polyeval_1`
unfoldable pub factor : MulAdd → Float → Float
factor fma z =
    let z2 = z ⊗ z in
    let c5 = fma (entry log2p1_poly_p 6) z (entry log2p1_poly_p 5) in
    let c3 = fma (entry log2p1_poly_p 4) z (entry log2p1_poly_p 3) in
    let c1 = fma (entry log2p1_poly_p 2) z (entry log2p1_poly_p 1) in
    let z4 = z2 ⊗ z2 in
    let c5' = fma (entry log2p1_poly_p 7) z2 c5 in
    let c1' = fma c3 z2 c1 in
    fma c5' z4 c1'

-- `log2p1_polyeval_1`: near log2(1 + z)
abbrev pub log2p1_polyeval1 : Float → Float
log2p1_polyeval1 z = z ⊗ factor dd_fmla z

-- near 2^z
unfoldable pub expf_poly : MulAdd → Float → Float
expf_poly fma z =
    let z2 = z ⊗ z in
    let c3 = fma (entry expf_poly_q 4) z (entry expf_poly_q 3) in
    let c0 = fma (entry expf_poly_q 1) z (entry expf_poly_q 0) in
    let c2 = fma c3 z (entry expf_poly_q 2) in
    fma c2 z2 c0

-- `compoundf_expf_poly`: near 2^z
abbrev pub compoundf_expf_poly : Float → Float
compoundf_expf_poly z = expf_poly dd_fmla z

-- the place of t + 2 among the 64ths, for a sum from 2 to 4
abbrev pub inverse_place : Float → ℕ
inverse_place t = to_bits binary64 (t ⊕ f64 0x4000000000000000) / 2 ^ 45

-- the index i of the inverse of t: its place, counted from 2 + 45/64; below that it would be 0
unfoldable pub inverse_index : Float → ℕ
inverse_index t = inverse_place t - 0x2002d

-- t has an inverse in the table. The t of every pair has (`reduced_index` in proofs/Index.antt, and `accurate_index`
-- in slow_path/proofs/Scaled.antt for the slow path).
abbrev pub HasInverse : Float → Type 0
HasInverse t = (0x2002d ≤ inverse_place t) × (inverse_index t < 46)

-- near log2(1 + x)
unfoldable pub log2p1 : MulAdd → Float → Float
log2p1 fma x =
    let u = one ⊕ x in
    let v = to_bits binary64 u in
    let e = exponent_of v in
    let t = f64 (scaled v (neg_ℤ e)) in
    let i = inverse_index t in
    let r = entry log2p1_compoundf_inv i in
    let z = fma r t minus_one in
    let p = z ⊗ factor fma z in
    of_int binary64 e ⊕ ((pair_entry log2p1_compoundf_log2_inv i).hi ⊕ p)

-- `compoundf_log2p1_fast`: near log2(1 + x)
abbrev pub compoundf_log2p1_fast : Float → Float
compoundf_log2p1_fast x = log2p1 dd_fmla x

-- the place of 3.015625 + r among the 32nds, for a sum from 2 to 4
abbrev pub power_place : Float → ℕ
power_place r = to_bits binary64 (f64 0x4008200000000000 ⊕ r) / 2 ^ 46

-- the index i of the nearest 32nd to r, counted from -16: the place, counted from 2 + 16/32; below that it is 0
unfoldable pub power_index : Float → ℕ
power_index r = power_place r - 0x10010

-- r has a power in the table, as each with |r| <= 1/2 has (`power_index_lem` in proofs/Index.antt)
abbrev pub HasPower : Float → Type 0
HasPower r = (0x10010 ≤ power_place r) × (power_index r < 33)

-- The pattern of 2^r in `exp2_fast`, before it is scaled by 2^k: the i-th power times the polynomial at what is left
-- of r.
unfoldable pub exp2_reduced : Float → ℕ
exp2_reduced r =
    let i = power_index r in
    let r' = r ⊖ entry compoundf_exp2_t i in
    to_bits binary64 ((pair_entry compoundf_exp2_u i).hi ⊗ compoundf_expf_poly r')

-- The two tests of `exp2_fast`: "a scaled value below the f64 38100000000008e2 is slow, and so is one that fails the
-- rounding test".
unfoldable pub rounding_test : Float → Float → Option Float
rounding_test v err =
    cond (lt v (f64 0x38100000000008e2)) None
    (let lb = narrowed (v ⊖ err) in
    let rb = narrowed (v ⊕ err) in
    cond (ne lb rb) None (Some v))

-- `exp2_fast`: 2^t where the rounding test passes. The source's -1.0 is the case `None`.
unfoldable pub exp2_fast : Float → Option Float
exp2_fast t =
    let k = nearest_whole t in
    let r = t ⊖ k in
    let v = exp2_reduced r in
    let err : ℕ = 0x3d61d00000000000 in
    let ik = to_signed 63 k in
    rounding_test (f64 (scaled v ik)) (f64 (scaled err ik))
