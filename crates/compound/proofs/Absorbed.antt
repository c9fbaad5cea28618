-- Where |x| is at most 2^-54, 1 + x is 1, its logarithm is 0, and so is t, so that the answer is at the edge of 1 (`absorbed_edge`). Assumes nothing.
use mathlib.Core.Path.{◌≡◌, refl, sym, ◌∙◌}
use mathlib.Core.Logic.{◌⊎◌, inl, inr}
use mathlib.Core.Bool.{true, false}
use Prim.Native.Nat.{ℕ, ◌+◌, ◌≤◌, ◌<◌}
use native.Mathlib.Omega.{arith}
use lib.Dec.{T, lit<}
use lib.IntN.{negsuc, neg_ℤ}
use lib.Ieee.{Float, fin, binary64, fits, le, neg, add, sub, mul, to_bits, of_bits, of_int}
use lib.Ieee.Fits.{add-fits}
use Rattle.floats.specs.Operations.{◌⊕◌, f64}
use Rattle.floats.specs.OnBits.{absolute}
use Rattle.floats.proofs.Laws.Sums.{add_turned}
use Rattle.double_double.specs.DoubleDouble.{split, from_exact_mult, from_full_exact_add, full_add_f64, dd_fmla}
use Rattle.tables.specs.Tables.{entry, from_bit_pair, pair_entry, log2p1_compoundf_inv, log2p1_compoundf_log2_inv, log2p1_poly_p}
use Rattle.special.specs.Special.{one, minus_one}
use Rattle.fast_path.specs.Scaling.{scaled, biased, exponent_of}
use Rattle.fast_path.specs.Fast.{factor, log2p1, inverse_index, log2p1_polyeval1, compoundf_log2p1_fast}
use Rattle.fmla.proofs.Order.{add_keeps, finite_between, same_float}
use Rattle.bounds.proofs.Values.{plus, less, mag, one_side, Number}
use Rattle.bounds.proofs.OwnScale.{Nil, nil_product}
use Rattle.bounds.proofs.Compared.{le_units, le_of_units, units_of_le}
use Rattle.slow_path.proofs.OnePlusParts.{absolute_units}
use Rattle.filter.proofs.Times.{single}
use Rattle.filter.proofs.Edges.{nil_at_one}
use Rattle.compound.specs.declared.Route.TheVariants.{Edge as edge}
use Rattle.compound.specs.Answer.{Outcome}
use Rattle.special.specs.Operands.{Tabled}
use Rattle.compound.specs.Route.{table_path}
use Rattle.compound.proofs.Filtered.{by_one}

-- |x| is at most 2^-54
abbrev Absorbed : Float → Type 0
Absorbed x = le (absolute x) (fin false 1 (negsuc 53)) ≡ true

-- 2^-54 and -2^-54
abbrev most : Float
most = fin false 1 (negsuc 53)

ends : Number most × (plus most ≡ less (neg most)) × (less most ≡ 0) × Number (neg most) × (plus (neg most) ≡ 0)
unfolding fits neg
ends = (record { held = tt; plain = tt }, refl, refl, record { held = tt; plain = tt }, refl)

-- x is between them
between : (x : Float) → Number x → Absorbed x → T (le (neg most) x) × T (le x most)
between x n h =
    let a = absolute_units x n in
    let o = units_of_le a.0 ends.0 h in
    let size : mag x ≤ plus most = omega (arith, o, a.1, a.2, ends.2) in
    (le_of_units (neg most) x ends.3 n (omega (arith, size, ends.1, ends.4)), le_of_units x most n ends.0 (omega (arith, size, ends.2)))

-- the sums of 1 with 2^-54 and -2^-54 are 1, and a term on both sides keeps the order
sum_is_one : (x : Float) → Number x → Absorbed x → one ⊕ x ≡ one
unfolding fits add neg
sum_is_one x n h =
    let b = between x n h in
    add_turned binary64 one x ∙ equal (x ⊕ one) (add-fits binary64 x one) (add_keeps one (neg most) x tt b.0) (add_keeps one x most tt b.1)
  where
    one_is : Number one × (0 < mag one)
    one_is = (record { held = tt; plain = tt }, lit< tt)

    level : (p n w : ℕ) → w + n ≤ p + 0 → p + 0 ≤ w + n → (p ≡ 0) ⊎ (n ≡ 0) → 0 < w → (w ≡ p) × (0 ≡ n)
    level p n w g h (inl e) z = (omega arith, omega arith)
    level p n w g h (inr e) z = (omega arith, omega arith)

    equal : (s : Float) → T (fits binary64 s) → T (le one s) → T (le s one) → s ≡ one
    equal s f g h =
        let n : Number s = record { held = f; plain = finite_between one s tt g h } in
        let o = level (plus s) (less s) (plus one) (le_units one s one_is.0 n g) (le_units s one n one_is.0 h) (one_side s) (lit< tt) in
        sym (same_float one s one_is.0 n o.0 o.1 one_is.1)

-- the fast logarithm, from the pattern of 1 + x
abbrev pub fast_at : ℕ → Float
fast_at v =
    let e = exponent_of v in
    let t = f64 (scaled v (neg_ℤ e)) in
    let i = inverse_index t in
    of_int binary64 e ⊕ ((pair_entry log2p1_compoundf_log2_inv i).hi ⊕ log2p1_polyeval1 (dd_fmla (entry log2p1_compoundf_inv i) t minus_one))

pub fast_at_lem : (x : Float) → compoundf_log2p1_fast x ≡ fast_at (to_bits binary64 (one ⊕ x))
unfolding log2p1
fast_at_lem x = refl

-- at 1 it is 0
pub at_one : Nil (fast_at 0x3ff0000000000000)
unfolding of_bits to_bits of_int add sub mul fits split from_exact_mult from_full_exact_add full_add_f64 dd_fmla entry from_bit_pair pair_entry log2p1_compoundf_inv log2p1_compoundf_log2_inv log2p1_poly_p scaled biased exponent_of inverse_index factor
at_one = record { number = record { held = tt; plain = tt }; is = refl }

one_bits : to_bits binary64 one ≡ 0x3ff0000000000000
unfolding to_bits
one_bits = refl

log_nil : (x : Float) → one ⊕ x ≡ one → Nil (compoundf_log2p1_fast x)
log_nil x e = rw (fast_at_lem x, e, one_bits) at_one

-- so the answer is at the edge of 1
pub absorbed_edge : (x y : Float) → Tabled x y → Absorbed x → ◌≡◌ {A = Outcome} (record { via = edge; value = one }) (table_path x y)
absorbed_edge x y t h =
    let x_number = (single x t.base.x_fits t.base.x_finite).number in
    let y_number = (single y t.y_fits t.y_finite).number in
    by_one x y (nil_at_one (nil_product (log_nil x (sum_is_one x x_number h)) y_number))
