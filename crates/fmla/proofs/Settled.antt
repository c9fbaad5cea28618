-- What passes the tests of `fmla` is what `dd_fmla` gives (`settled`). Rounding keeps the order, so for a lo from -d to d the definition's (lo + e) + s is at most (d + e) + s and at least (e - d) + s,
-- and where the first is no more than s and the last no less, it is s. A NaN or an infinity does not pass, and s is not 0, since d would have moved it. Assumes nothing.
use mathlib.Core.Path.{◌≡◌, refl, ◌∙◌, subst}
use mathlib.Core.Logic.{◌⊎◌, inl, inr}
use mathlib.Core.Bool.{Bool, true, false, not}
use Prim.Native.Nat.{ℕ, zero, suc, ◌+◌, ◌≤◌, ◌<◌}
use native.Mathlib.Nat.{zero-lt-suc}
use native.Mathlib.Omega.{arith}
use lib.Dec.{T, leb, leb→le, nleb→lt}
use lib.Ieee.{Float, nan, inf, fin, binary64, neg, add, sub, le, fits, is_nan}
use lib.Ieee.Fits.{and_l, and_r, add-fits}
use lib.Ieee.Scale.{finite}
use Rattle.floats.specs.Operations.{◌⊕◌, ◌⊖◌, ◌⊗◌}
use Rattle.floats.proofs.Laws.Sums.{add_turned}
use Rattle.double_double.specs.DoubleDouble.{from_exact_mult, from_full_exact_add, full_add_f64, dd_fmla}
use Rattle.bounds.proofs.Values.{plus, less, mag, one_side, Number, neg_plus, neg_less, neg_number}
use Rattle.bounds.proofs.Operation.{Same, add_exact}
use Rattle.bounds.proofs.Compared.{le_units, le_of_units}
use Rattle.fmla.specs.Fmla.{is_moderate, lo_bound, stays}
use Rattle.std.proofs.lemmas.Float.{le_left, le_right, le_trans}
use Rattle.fmla.proofs.Order.{add_keeps, finite_between, same_float}
use Rattle.fmla.proofs.Lo.{moderate_sized, Within, product, lo_within}

-- ---- a NaN and an infinity do not pass
add_nan : (x : Float) → x ⊕ nan ≡ nan
unfolding add
add_nan nan = refl
add_nan (inf s) = refl
add_nan (fin s m e) = refl

-- the lo of `from_full_exact_add`, for the sum s of h and c
abbrev sum_error : Float → Float → Float → Float
sum_error h c s = c ⊖ (s ⊖ h) ⊕ (h ⊖ (s ⊖ (s ⊖ h)))

-- the error of a sum that overflows is a NaN
error_of_infinity : (h c : Float) (u : Bool) → T (finite h) → sum_error h c (inf u) ≡ nan
unfolding sub add neg
error_of_infinity nan c u p = absurd p
error_of_infinity (inf s) c u p = absurd p
error_of_infinity (fin s m e) c true p = add_nan (c ⊖ inf true)
error_of_infinity (fin s m e) c false p = add_nan (c ⊖ inf false)

nan_fails : (d s : Float) → T (le (d ⊕ nan ⊕ s) s) → ⊥
unfolding add is_nan
nan_fails d s t = le_left (nan ⊕ s) s (subst (λ (x : Float). T (le (x ⊕ s) s)) (add_nan d) t)

sum_finite : (h c d s : Float) → T (finite h) → T (le (d ⊕ sum_error h c s ⊕ s) s) → T (finite s)
unfolding is_nan
sum_finite h c d nan p t = absurd (le_right (d ⊕ sum_error h c nan ⊕ nan) nan t)
sum_finite h c d (inf u) p t = absurd (nan_fails d (inf u) (subst (λ (x : Float). T (le (d ⊕ x ⊕ inf u) (inf u))) (error_of_infinity h c u p) t))
sum_finite h c d (fin u k i) p t = tt

error_finite : (s e d : Float) → T (finite s) → T (finite d) → T (le (d ⊕ e ⊕ s) s) → T (le s (e ⊖ d ⊕ s)) → T (finite e)
unfolding le add sub neg
error_finite nan e d p q g h = absurd p
error_finite (inf u) e d p q g h = absurd p
error_finite (fin u k i) e nan p q g h = absurd q
error_finite (fin u k i) e (inf t) p q g h = absurd q
error_finite (fin u k i) nan (fin t n j) p q g h = absurd g
error_finite (fin u k i) (inf true) (fin t n j) p q g h = absurd h
error_finite (fin u k i) (inf false) (fin t n j) p q g h = absurd g
error_finite (fin u k i) (fin v m l) (fin t n j) p q g h = tt

-- ---- s is not 0
-- what v gives with a 0 on either side
beside_nought : (s v : Float) → Number s → Number v → mag s ≡ 0 → Same (s ⊕ v ⊕ s) v
beside_nought s v p q z =
    let one : Same (s ⊕ v) v = add_exact p q q (first (plus s) (less s) (plus v) (less v) z) in
    add_exact one.number p q (second (plus s) (less s) (plus v) (less v) (plus (s ⊕ v)) (less (s ⊕ v)) z one.plus_same one.less_same)
  where
    first : (p n q m : ℕ) → p + n ≡ 0 → p + q + m ≡ n + m + q
    first p n q m z = omega arith

    second : (p n q m r l : ℕ) → p + n ≡ 0 → r ≡ q → l ≡ m → r + p + m ≡ l + n + q
    second p n q m r l z e d = omega arith

module _ (s e d L : Float) (p : Number s) (q : Number e) (w : Within L d) (upper : T (le (d ⊕ e ⊕ s) s)) (lower : T (le s (e ⊖ d ⊕ s))) where
  -- a 0 and an e that is not below it, and one that is not above it
  moved_up : mag s ≡ 0 → less e ≤ plus e → ⊥
  moved_up z h =
      let r = s ⊕ d ⊕ s in
      let v = beside_nought s d p w.number z in
      let keeps : T (le (s ⊕ d) (d ⊕ e)) = subst (λ (x : Float). T (le (s ⊕ d) x)) (add_turned binary64 e d) (add_keeps d s e w.number.plain (le_of_units s e p q (under (plus s) (less s) (plus e) (less e) z h))) in
      let t = le_trans r (d ⊕ e ⊕ s) s (add_keeps s (s ⊕ d) (d ⊕ e) p.plain keeps) upper in
      over (plus s) (less s) (plus d) (less d) (plus r) (less r) z v.plus_same v.less_same w.clear w.positive (le_units r s v.number p t)
    where
      under : (p n q m : ℕ) → p + n ≡ 0 → m ≤ q → p + m ≤ q + n
      under p n q m z h = omega arith

      over : (p n q m r l : ℕ) → p + n ≡ 0 → r ≡ q → l ≡ m → m ≡ 0 → 0 < q → r + n ≤ p + l → ⊥
      over p n q m r l z e d c h g = omega arith

  moved_down : mag s ≡ 0 → plus e ≤ less e → ⊥
  unfolding sub
  moved_down z h =
      let r = s ⊕ neg d ⊕ s in
      let n = neg_number w.number in
      let v = beside_nought s (neg d) p n z in
      let keeps : T (le (e ⊖ d) (s ⊕ neg d)) = add_keeps (neg d) e s n.plain (le_of_units e s q p (under (plus s) (less s) (plus e) (less e) z h)) in
      let t = le_trans s (e ⊖ d ⊕ s) r lower (add_keeps s (e ⊖ d) (s ⊕ neg d) p.plain keeps) in
      over (plus s) (less s) (plus d) (less d) (plus r) (less r) z (v.plus_same ∙ neg_plus d) (v.less_same ∙ neg_less d) w.clear w.positive (le_units s r p v.number t)
    where
      under : (p n q m : ℕ) → p + n ≡ 0 → q ≤ m → q + n ≤ p + m
      under p n q m z h = omega arith

      over : (p n q m r l : ℕ) → p + n ≡ 0 → r ≡ m → l ≡ q → m ≡ 0 → 0 < q → p + l ≤ r + n → ⊥
      over p n q m r l z e d c h g = omega arith

  not_nought : mag s ≡ 0 → ⊥
  not_nought z = go (leb (less e) (plus e)) (leb→le (less e) (plus e)) (nleb→lt (less e) (plus e))
    where
      below : (a b : ℕ) → a < b → a ≤ b
      below a b h = omega arith

      go : (t : Bool) → (T t → less e ≤ plus e) → (T (not t) → plus e < less e) → ⊥
      go true g h = moved_up z (g tt)
      go false g h = moved_down z (below (plus e) (less e) (h tt))

  above_nought : 0 < mag s
  above_nought = go (mag s) not_nought
    where
      go : (k : ℕ) → (k ≡ 0 → ⊥) → 0 < k
      go zero h = absurd (h refl)
      go (suc k) h = zero-lt-suc k

  -- ---- the definition's result is s
  at_most_s : T (le (L ⊕ e ⊕ s) s)
  at_most_s =
      le_trans (L ⊕ e ⊕ s) (d ⊕ e ⊕ s) s
      (add_keeps s (L ⊕ e) (d ⊕ e) p.plain (add_keeps e L d q.plain (le_of_units L d w.lo_number w.number (under (plus L) (less L) (plus d) (less d) w.clear w.covers)))) upper
    where
      under : (p n q m : ℕ) → m ≡ 0 → p + n ≤ q → p + m ≤ q + n
      under p n q m c h = omega arith

  at_least_s : T (le s (L ⊕ e ⊕ s))
  unfolding sub
  at_least_s =
      let n = neg_number w.number in
      let keeps : T (le (e ⊖ d) (L ⊕ e)) = subst (λ (x : Float). T (le x (L ⊕ e))) (add_turned binary64 (neg d) e)
      (add_keeps e (neg d) L q.plain (le_of_units (neg d) L n w.lo_number (over (plus L) (less L) (plus d) (less d) (plus (neg d)) (less (neg d)) (neg_plus d) (neg_less d) w.clear w.covers))) in
      le_trans s (e ⊖ d ⊕ s) (L ⊕ e ⊕ s) lower (add_keeps s (e ⊖ d) (L ⊕ e) p.plain keeps)
    where
      over : (p n q m r l : ℕ) → r ≡ m → l ≡ q → m ≡ 0 → p + n ≤ q → r + n ≤ p + l
      over p n q m r l e d c h = omega arith

  result_is : s ≡ L ⊕ e ⊕ s
  result_is =
      let r = L ⊕ e ⊕ s in
      let n : Number r = record { held = add-fits binary64 (L ⊕ e) s; plain = finite_between s r p.plain at_least_s at_most_s } in
      let i = same (plus s) (less s) (plus r) (less r) (one_side s) (one_side r) (le_units s r p n at_least_s) (le_units r s n p at_most_s) in
      same_float s r p n i.0 i.1 above_nought
    where
      same : (p n q m : ℕ) → (p ≡ 0) ⊎ (n ≡ 0) → (q ≡ 0) ⊎ (m ≡ 0) → p + m ≤ q + n → q + n ≤ p + m → (p ≡ q) × (n ≡ m)
      same p n q m (inl a) (inl b) g h = (omega arith, omega arith)
      same p n q m (inl a) (inr b) g h = (omega arith, omega arith)
      same p n q m (inr a) (inl b) g h = (omega arith, omega arith)
      same p n q m (inr a) (inr b) g h = (omega arith, omega arith)

-- ---- the two together
error_fits : (h c s : Float) → T (fits binary64 (sum_error h c s))
error_fits h c s = add-fits binary64 (c ⊖ (s ⊖ h)) (h ⊖ (s ⊖ (s ⊖ h)))

definition_is : (a b c : Float) → (from_exact_mult a b).lo ⊕ (from_full_exact_add (a ⊗ b) c).lo ⊕ (a ⊗ b ⊕ c) ≡ dd_fmla a b c
unfolding dd_fmla full_add_f64 from_full_exact_add from_exact_mult
definition_is a b c = refl

pub settled : (a b c : Float) → T (fits binary64 a) → T (fits binary64 b) → T (is_moderate a) → T (is_moderate b)
    → (let s = from_full_exact_add (a ⊗ b) c in T (stays s.hi s.lo (lo_bound (a ⊗ b))) → s.hi ≡ dd_fmla a b c)
unfolding stays from_full_exact_add
settled a b c f g p q t =
    let A = moderate_sized a f p in
    let B = moderate_sized b g q in
    let s = a ⊗ b ⊕ c in
    let e = sum_error (a ⊗ b) c s in
    let d = lo_bound (a ⊗ b) in
    let w = lo_within A B in
    let upper : T (le (d ⊕ e ⊕ s) s) = and_l (le (d ⊕ e ⊕ s) s) (le s (e ⊖ d ⊕ s)) t in
    let lower : T (le s (e ⊖ d ⊕ s)) = and_r (le (d ⊕ e ⊕ s) s) (le s (e ⊖ d ⊕ s)) t in
    let S : Number s = record { held = add-fits binary64 (a ⊗ b) c; plain = sum_finite (a ⊗ b) c d s (product A B).number.plain upper } in
    let E : Number e = record { held = error_fits (a ⊗ b) c s; plain = error_finite s e d S.plain w.number.plain upper lower } in
    result_is s e d (from_exact_mult a b).lo S E w upper lower ∙ definition_is a b c
