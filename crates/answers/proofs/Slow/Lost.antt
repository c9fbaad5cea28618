-- x below 2^-53 in size: the accurate logarithm has 1 and x for the two parts of 1 + x, while the f64 sum is 1 or, where x is below -2^-54, the f64 before 1, whose
-- fast logarithm is on the scale of 2^-53 (`lost_logs`). Assumes nothing.
use mathlib.Core.Path.{◌≡◌, refl, sym, ap, ◌∙◌, subst}
use mathlib.Core.Logic.{◌⊎◌, inl, inr}
use mathlib.Core.Bool.{true, false}
use Prim.Native.Nat.{ℕ, zero, suc, ◌+◌, ◌-◌, ◌*◌, ◌^◌, ◌≤◌}
use native.Mathlib.Nat.{le_trans, le_of_eq, one-mul}
use native.Mathlib.Omega.{arith}
use lib.Dec.{lit≤, lit<}
use lib.IntN.{pos, negsuc}
use lib.Ieee.{Float, fin, binary64, fits, to_bits, of_bits, of_int, add, sub, mul, neg}
use lib.Ieee.Fits.{add-fits}
use Rattle.floats.specs.Operations.{◌⊕◌, ◌⊗◌}
use Rattle.floats.proofs.Laws.Powers.{mul_one}
use Rattle.floats.proofs.Laws.Sums.{add_mono}
use Rattle.double_double.specs.declared.DoubleDouble.{DoubleDouble}
use Rattle.double_double.specs.DoubleDouble.{split, from_exact_mult, from_exact_add, from_full_exact_add, full_add_f64, dd_fmla}
use Rattle.tables.specs.Tables.{entry, pair_entry, log2p1_compoundf_inv, log2p1_compoundf_log2_inv, log2p1_scale}
use Rattle.special.specs.Special.{one, minus_one}
use Rattle.fast_path.specs.Scaling.{scaled, biased, exponent_of}
use Rattle.fast_path.specs.Fast.{inverse_index, log2p1_polyeval1, compoundf_log2p1_fast}
use Rattle.slow_path.specs.Slow.{one_plus, times_inverse, log2_reduced, log2_poly2, sum_of_logs, compoundf_log2p1_accurate}
use Rattle.fast_path.proofs.Index.{pattern_between}
use Rattle.bounds.proofs.Values.{plus, less, mag, Number}
use Rattle.bounds.proofs.Scales.{S, unit, unit_left, Scale, Bound, at, mul_bound, fast_bounds, tested}
use Rattle.bounds.proofs.Compared.{le_of_units, positive_bound}
use Rattle.bounds.proofs.OwnScale.{Nil, nil_bound, on_own}
use Rattle.compound.proofs.Absorbed.{fast_at, fast_at_lem, at_one}
use Rattle.slow_path.proofs.Logs.{Logs, near}
use Rattle.slow_path.proofs.LowPart.{one_is_1}
use Rattle.fast_path.proofs.Reduced.{no_power, one_19}

-- ---- the f64 sum, by its pattern
abbrev tiny : Float
tiny = fin false 1 (negsuc 52)

-- 1 or the f64 before it
sum_bits : (x : Float) → Number x → mag x ≤ S → (0x3fefffffffffffff ≤ to_bits binary64 (one ⊕ x)) × (to_bits binary64 (one ⊕ x) ≤ 0x3ff0000000000000)
unfolding add neg fits to_bits S
sum_bits x n h =
    pattern_between 9007199254740990 (negsuc 52) (one ⊕ x) 1 (pos 0) tt (add-fits binary64 one x) tt
    (add_mono binary64 one (neg tiny) x tt tt n.plain (le_of_units (neg tiny) x (record { held = tt; plain = tt }) n (above (plus x) (less x) (2 ^ 1021) h)))
    (add_mono binary64 one x tiny tt n.plain tt (le_of_units x tiny n (record { held = tt; plain = tt }) (below (plus x) (less x) (2 ^ 1021) h)))
  where
    above : (p n s : ℕ) → p + n ≤ s → 0 + n ≤ p + s
    above p n s h = omega arith

    below : (p n s : ℕ) → p + n ≤ s → p + 0 ≤ s + n
    below p n s h = omega arith

one_of_two : (v : ℕ) → 0x3fefffffffffffff ≤ v → v ≤ 0x3ff0000000000000 → (v ≡ 0x3fefffffffffffff) ⊎ (v ≡ 0x3ff0000000000000)
one_of_two v l h = go (v - 0x3fefffffffffffff) refl
  where
    go : (d : ℕ) → v - 0x3fefffffffffffff ≡ d → (v ≡ 0x3fefffffffffffff) ⊎ (v ≡ 0x3ff0000000000000)
    go zero e = inl (omega (arith, e))
    go (suc d) e = inr (omega (arith, e))

-- before it, z is -2^-53
before_one : fast_at 0x3fefffffffffffff ≡ of_int binary64 (pos 0) ⊕ ((pair_entry log2p1_compoundf_log2_inv 19).hi ⊕ log2p1_polyeval1 (fin true 1 (negsuc 52)))
unfolding exponent_of biased scaled inverse_index entry log2p1_compoundf_inv dd_fmla full_add_f64 from_full_exact_add from_exact_mult split of_bits to_bits add sub mul neg
before_one = refl

-- ---- the accurate logarithm: the first part is 1, and z' is what is left of 0 and x
abbrev left : Float → DoubleDouble
left x = from_exact_add (fin false 0 (pos 0)) (one ⊗ (x ⊗ one))

exponent_of_one : of_int binary64 (exponent_of (to_bits binary64 one)) ≡ of_int binary64 (pos 0)
unfolding exponent_of biased to_bits
exponent_of_one = refl

scale_of_one : entry log2p1_scale (biased (to_bits binary64 one) + 29 - 1023) ≡ one
unfolding biased to_bits entry log2p1_scale of_bits
scale_of_one = refl

one_squared : one ⊗ one ≡ one
unfolding mul
one_squared = refl

index_of_one : inverse_index one ≡ 19
unfolding inverse_index to_bits add of_bits
index_of_one = refl

inverse_of_one : entry log2p1_compoundf_inv 19 ≡ one
unfolding entry log2p1_compoundf_inv of_bits
inverse_of_one = refl

none_left : dd_fmla one one minus_one ≡ fin false 0 (pos 0)
unfolding dd_fmla full_add_f64 from_full_exact_add from_exact_mult split add sub mul neg
none_left = refl

-- with the index and the first product open
reduced_at : Float → Float → Float → ℕ → DoubleDouble
reduced_at e h l i =
    sum_of_logs e (pair_entry log2p1_compoundf_log2_inv i) (log2_poly2 (from_exact_add (dd_fmla (entry log2p1_compoundf_inv i) h minus_one) (entry log2p1_compoundf_inv i ⊗ l)))

reduced_at_lem : (e h l : Float) → log2_reduced e (record { lo = l; hi = h }) ≡ reduced_at e h l (inverse_index h)
unfolding log2_reduced times_inverse reduced_at
reduced_at_lem e h l = refl

reduced_at_one : (e l : Float) → reduced_at e one l 19 ≡ sum_of_logs e (pair_entry log2p1_compoundf_log2_inv 19) (log2_poly2 (from_exact_add (fin false 0 (pos 0)) (one ⊗ l)))
unfolding reduced_at
reduced_at_one e l =
    ap (λ (r : Float). sum_of_logs e (pair_entry log2p1_compoundf_log2_inv 19) (log2_poly2 (from_exact_add (dd_fmla r one minus_one) (r ⊗ l)))) inverse_of_one
    ∙ ap (λ (z : Float). sum_of_logs e (pair_entry log2p1_compoundf_log2_inv 19) (log2_poly2 (from_exact_add z (one ⊗ l)))) none_left

accurate_at : (x : Float) → one_plus x ≡ record { lo = x; hi = one } → compoundf_log2p1_accurate x ≡ sum_of_logs (of_int binary64 (pos 0)) (pair_entry log2p1_compoundf_log2_inv 19) (log2_poly2 (left x))
unfolding compoundf_log2p1_accurate
accurate_at x h =
    ap (λ (v : DoubleDouble).
    log2_reduced (of_int binary64 (exponent_of (to_bits binary64 v.hi)))
    (record { lo = v.lo ⊗ entry log2p1_scale (biased (to_bits binary64 v.hi) + 29 - 1023); hi = v.hi ⊗ entry log2p1_scale (biased (to_bits binary64 v.hi) + 29 - 1023) })) h
    ∙ ap (λ (s : Float). log2_reduced (of_int binary64 (exponent_of (to_bits binary64 one))) (record { lo = x ⊗ s; hi = one ⊗ s })) scale_of_one
    ∙ ap (λ (e : Float). log2_reduced e (record { lo = x ⊗ one; hi = one ⊗ one })) exponent_of_one
    ∙ ap (λ (k : Float). log2_reduced (of_int binary64 (pos 0)) (record { lo = x ⊗ one; hi = k })) one_squared
    ∙ reduced_at_lem (of_int binary64 (pos 0)) one (x ⊗ one)
    ∙ ap (reduced_at (of_int binary64 (pos 0)) one (x ⊗ one)) index_of_one
    ∙ reduced_at_one (of_int binary64 (pos 0)) (x ⊗ one)

-- ---- both on the scale of 2^-53
own_scale : Scale (1 * 2 ^ 968)
own_scale = record { positive = lit< tt; bounded = lit≤ tt }

own_size : (m : ℕ) → m ≤ S → m ≤ 2 ^ 53 * (1 * 2 ^ 968)
unfolding S
own_size m h = h

z_is : (mag (fin true 1 (negsuc 52)) ≡ 1 * S) × Bound S (2 ^ 47 + 2 ^ 33) (fin true 1 (negsuc 52))
unfolding fits S
z_is = (refl, tested (2 ^ 47 + 2 ^ 33) (fin true 1 (negsuc 52)) tt)

nil : Nil (fin false 0 (pos 0))
nil = record { number = record { held = unfold fits in tt; plain = tt }; is = refl }

before_logs : (x : Float) → Number x → mag x ≤ S → Logs (fast_at 0x3fefffffffffffff) (sum_of_logs (of_int binary64 (pos 0)) (pair_entry log2p1_compoundf_log2_inv 19) (log2_poly2 (left x)))
before_logs x n h =
    let X : Bound S 1 x = record { scale = unit; number = n; size = le_trans h (le_of_eq (sym (one-mul S))) } in
    let Y : Bound (1 * 2 ^ 968) (2 ^ 53) x = record { scale = own_scale; number = n; size = own_size (mag x) h } in
    let same = sym (mul_one binary64 x n.held) in
    let unity = positive_bound one_is_1 in
    let b = fast_bounds (nil_bound S unit nil) (mul_bound (unit_left unit) unity (subst (Bound S 1) same X) tt tt) tt in
    let c = fast_bounds (nil_bound (1 * 2 ^ 968) own_scale nil) (mul_bound (unit_left own_scale) unity (subst (Bound (1 * 2 ^ 968) (2 ^ 53)) same Y) tt tt) tt in
    subst (λ (l : Float). Logs l (sum_of_logs (of_int binary64 (pos 0)) (pair_entry log2p1_compoundf_log2_inv 19) (log2_poly2 (left x)))) (sym before_one)
    (near (on_own 1 z_is.0 (lit< tt) (at (2 ^ 48) z_is.1 tt)) z_is.1 no_power one_19.hi one_19.lo
    (record { hi = at (2 ^ 47 + 2 ^ 36) b.hi tt; lo = at 4 b.lo tt }) (record { hi = at (3 * 2 ^ 53 + 2 ^ 20) c.hi tt; lo = at 16 c.lo tt }))

pub lost_logs : (x : Float) → Number x → mag x ≤ S → one_plus x ≡ record { lo = x; hi = one } → Logs (compoundf_log2p1_fast x) (compoundf_log2p1_accurate x) ⊎ Nil (compoundf_log2p1_fast x)
lost_logs x n h e =
    let b = sum_bits x n h in
    go (one_of_two (to_bits binary64 (one ⊕ x)) b.0 b.1)
  where
    go : (to_bits binary64 (one ⊕ x) ≡ 0x3fefffffffffffff) ⊎ (to_bits binary64 (one ⊕ x) ≡ 0x3ff0000000000000) → Logs (compoundf_log2p1_fast x) (compoundf_log2p1_accurate x) ⊎ Nil (compoundf_log2p1_fast x)
    go (inl v) = inl (subst (λ (l : Float). Logs l (compoundf_log2p1_accurate x)) (sym (fast_at_lem x ∙ ap fast_at v)) (subst (Logs (fast_at 0x3fefffffffffffff)) (sym (accurate_at x e)) (before_logs x n h)))
    go (inr v) = inr (subst Nil (sym (fast_at_lem x ∙ ap fast_at v)) at_one)
