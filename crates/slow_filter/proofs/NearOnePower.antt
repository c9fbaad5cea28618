-- The accurate power of two next to 1: for a t' of at most 2^-16 in size, and a t near it, k is 0. Where t is so small that the power is not worked out, the answer is 1 + t / 2, narrowed
-- (`tiny_power`); else it is a pattern, narrowed, that is 6 from that of the short polynomial at t' at most (`near_one_power_lem`): the index is 16, and the power of the table 1. Assumes nothing.
use Rattle.std.proofs.Common.{◌≡◌, ℕ, ◌+◌, ◌-◌, ◌*◌, ◌%◌, ◌^◌, ◌<◌, ◌≤◌, refl, sym, ap, ap₂, ◌∙◌, subst, ◌⊎◌, inl, inr, Bool, true, false, cond, ◌&&◌, le_trans, le_of_eq, arith, T, lit≤, lit<, ℤ, pos}
use lib.Ieee.{Float, nan, inf, fin, binary64, round, fits, lt, le, eq, sub, to_bits, of_bits, to_signed, is_nan}
use Rattle.floats.specs.Operations.{◌⊕◌, ◌⊖◌, ◌⊗◌, f64}
use Rattle.floats.specs.Narrowing.{narrowed, nearest_whole}
use Rattle.floats.specs.OnBits.{absolute}
use Rattle.floats.proofs.Laws.Units.{HasSign}
use Rattle.double_double.specs.declared.DoubleDouble.{DoubleDouble}
use Rattle.double_double.specs.DoubleDouble.{from_exact_add, from_exact_mult, quick_mult}
use Rattle.tables.specs.Tables.{entry, pair_entry, from_bit_pair, compoundf_exp2_t, compoundf_exp2_u}
use Rattle.special.specs.Special.{zero, one}
use Rattle.fast_path.specs.Scaling.{scaled}
use Rattle.fast_path.specs.Fast.{power_index}
use Rattle.fast_path.proofs.PowerSlot.{power_nearest}
use Rattle.slow_path.specs.Slow.{q2, compoundf_exp2_poly2, clamped_k, test_pattern, rounded_to_odd, scaled_to_f32, exp2_product, err_of, is_small, exp2_away, is_near_one, exp2_accurate}
use Rattle.slow_path.proofs.Clamped.{index_unclamped}
use Rattle.slow_path.proofs.Coefficients.{q2_first}
use Rattle.bounds.proofs.Values.{plus, less, mag, Number}
use Rattle.bounds.proofs.Operation.{limit, Same}
use Rattle.bounds.proofs.Scales.{S, Bound, Bounds, at, ok, small_limit, neg_bound, add_bound, sub_bound, fast_bounds}
use Rattle.bounds.proofs.Distances.{Apart, apart_k, apart_at, apart_through, add_apart, add_apart_right, bound_near}
use Rattle.bounds.proofs.Apart.{apart_turned}
use Rattle.bounds.proofs.Compared.{Positive, positive_at, positive_bound, positive_near, positive_add, bits_apart}
use Rattle.bounds.proofs.Exactly.{one_times, dekker_one}
use Rattle.bounds.proofs.OwnScale.{Nil, nil_bound, nil_product}
use Rattle.bounds.proofs.Nearest.{whole_shared}
use Rattle.filter.proofs.Power.{Unscaled}
use Rattle.slow_filter.specs.NearOne.{near_one_power}
use Rattle.slow_filter.proofs.Odd.{Odd, odd_of}
use Rattle.slow_filter.proofs.LowPart.{nil_of}
use Rattle.slow_filter.proofs.Fine.{fine, fine_scale, bound_fine, bound_one, apart_fine, apart_one}
use Rattle.slow_filter.proofs.SmallTerm.{Parts, parts_at, small_term, near_parts, parts_through, sums_near}
use Rattle.slow_filter.proofs.NearOnePoly.{PolyNear, poly_near}

pub record NearOnePower (t : DoubleDouble) (t' : Float) : Type 0 where
  pub pattern : ℕ
  pub unscaled : Unscaled pattern
  pub over : pattern ≤ to_bits binary64 (near_one_power t') + 6
  pub under : to_bits binary64 (near_one_power t') ≤ pattern + 6
  pub is : exp2_accurate t ≡ narrowed (f64 pattern)

-- ---- 0, of either sign
nil : (s : Bool) → Nil (fin s 0 (pos 0))
unfolding fits
nil true = record { number = record { held = tt; plain = tt }; is = refl }
nil false = record { number = record { held = tt; plain = tt }; is = refl }

whole_of_nil : (s : Bool) → nearest_whole (fin s 0 (pos 0)) ≡ fin s 0 (pos 0)
unfolding nearest_whole round
whole_of_nil true = refl
whole_of_nil false = refl

clamped_nil : (s : Bool) → clamped_k (fin s 0 (pos 0)) ≡ pos 0
unfolding clamped_k lt to_signed is_nan
clamped_nil true = refl
clamped_nil false = refl

nil_is_zero : (s : Bool) → eq (fin s 0 (pos 0)) zero ≡ true
unfolding eq
nil_is_zero true = refl
nil_is_zero false = refl

-- a value is as far from 0 as it is large
nil_apart : {μ K : ℕ} {x e : Float} → Bound μ K x → Nil e → Apart μ K x e
nil_apart {μ} {K} {x} {e} b n = record { over = go (plus x) (less x) (plus e) (less e) (K * μ) b.size n.is; under = back (plus x) (less x) (plus e) (less e) (K * μ) b.size n.is }
  where
    go : (p n q m k : ℕ) → p + n ≤ k → q + m ≡ 0 → p + m ≤ n + q + k
    go p n q m k g h = omega arith

    back : (p n q m k : ℕ) → p + n ≤ k → q + m ≡ 0 → q + n ≤ m + p + k
    back p n q m k g h = omega arith

-- to take 0 away
less_nil : {μ K : ℕ} {x e : Float} → Bound μ K x → Nil e → T (ok (K + 0)) → Apart μ (apart_k K 0) (x ⊖ e) x
unfolding sub
less_nil {μ} b n t = add_apart b (neg_bound (nil_bound μ b.scale n)) t

-- ---- times the power of the table, which is 1
same_apart : {μ : ℕ} {x y : Float} → Same x y → Apart μ 0 x y
same_apart {μ} {x} {y} s = record { over = go (plus x) (less x) (plus y) (less y) μ s.plus_same s.less_same; under = go (plus y) (less y) (plus x) (less x) μ (sym s.plus_same) (sym s.less_same) }
  where
    go : (p n q m k : ℕ) → p ≡ q → n ≡ m → p + m ≤ n + q + 0 * k
    go p n q m k e f = omega arith

same_bound : {μ K : ℕ} {x y : Float} → Same x y → Bound μ K y → Bound μ K x
same_bound {μ} {K} s b = record { scale = b.scale; number = s.number; size = le_trans (le_of_eq (ap₂ ◌+◌ s.plus_same s.less_same)) b.size }

in_limit : {μ K : ℕ} {x : Float} → Bound μ K x → T (ok K) → (mag x + 1) * 2 ^ 28 ≤ limit
in_limit {μ} {K} {x} b t = go (mag x) (K * μ) limit b.size (small_limit K μ t b.scale.bounded) large
  where
    large : 2 ^ 40 ≤ limit
    large = unfold limit in lit≤ tt

    go : (m a L : ℕ) → m ≤ a → a * 2 ^ 40 ≤ L → 2 ^ 40 ≤ L → (m + 1) * 2 ^ 28 ≤ L
    go m a L h g l = omega arith

abbrev unity : DoubleDouble
unity = record { lo = zero; hi = one }

table_is : pair_entry compoundf_exp2_u 16 ≡ unity
unfolding pair_entry from_bit_pair compoundf_exp2_u of_bits
table_is = refl

times_unity : {a b : Float} {r : DoubleDouble} → Parts fine 65620 80 a b r → Bound fine (2 ^ 69 + 2 ^ 54) r.hi → Parts fine 65622 82 a b (quick_mult unity r)
unfolding quick_mult
times_unity {a} {b} {r} p h =
    let c = dekker_one r.hi h.number (in_limit h tt) in
    let same = one_times r.lo p.low.number in
    let x1 = same_bound same p.low in
    let x2 = nil_bound fine fine_scale (nil_product (nil false) h.number) in
    let x3 = add_bound x1 x2 tt in
    let x4 = nil_bound fine fine_scale (nil_of c.lo) in
    near_parts p (same_apart c.hi) (apart_through (add_apart_right x4 x3 tt) (apart_through (add_apart x1 x2 tt) (same_apart same))) (add_bound x4 x3 tt)

-- ---- the two side by side
module _ (s : Bool) (t : DoubleDouble) (t' : Float) (sign : HasSign s t.hi) (n : Number t.hi) (a : Apart S 2 t.hi t') (l : Bound S 1 t.lo) (b : Bound S (2 ^ 37) t') where
  -- ---- k is 0
  k : Float
  k = fin s 0 (pos 0)

  plain_bound : Bound fine (2 ^ 53) t'
  plain_bound = at (2 ^ 53) (bound_fine b) tt

  t_bound : Bound fine (2 ^ 53 + 2 ^ 17) t.hi
  t_bound = at (2 ^ 53 + 2 ^ 17) (bound_near n (apart_fine a) plain_bound) tt

  same_k : nearest_whole t.hi ≡ k
  unfolding k
  same_k = whole_shared s t.hi (fin s 0 (pos 0)) n (nil s).number sign refl (subst (Apart S (2 ^ 38) t.hi) (sym (whole_of_nil s)) (nil_apart (at (2 ^ 38) (bound_one t_bound) tt) (nil s))) tt ∙ whole_of_nil s

  -- ---- what is left of t, and the index
  left_near : Apart fine 2 (t.hi ⊖ k) t.hi
  unfolding k
  left_near = less_nil t_bound (nil s) tt

  left_bound : Bound fine (2 ^ 53 + 2 ^ 17 + 2) (t.hi ⊖ k)
  unfolding k
  left_bound = at (2 ^ 53 + 2 ^ 17 + 2) (sub_bound t_bound (nil_bound fine fine_scale (nil s)) tt) tt

  low_bound : Bound fine (2 ^ 16) t.lo
  low_bound = at (2 ^ 16) (bound_fine l) tt

  v : DoubleDouble
  v = from_exact_add (t.hi ⊖ k) t.lo

  v_bounds : Bounds fine (2 ^ 53 + 2 ^ 17 + 2 ^ 16 + 4) 5 v
  unfolding v
  v_bounds =
      let w = fast_bounds left_bound low_bound tt in
      record { hi = at (2 ^ 53 + 2 ^ 17 + 2 ^ 16 + 4) w.hi tt; lo = at 5 w.lo tt }

  v_near : Apart fine (3 * 2 ^ 16 + 4) v.hi t'
  unfolding v from_exact_add
  v_near = apart_at (3 * 2 ^ 16 + 4) (apart_through (add_apart left_bound low_bound tt) (apart_through left_near (apart_fine a))) tt

  e : Float
  e = entry compoundf_exp2_t 16

  e_nil : Nil e
  unfolding e entry compoundf_exp2_t of_bits
  e_nil = nil false

  index_is : power_index v.hi ≡ 16
  unfolding e
  index_is =
      let w = bound_one v_bounds.hi in
      power_nearest v.hi (at (65 * 2 ^ 46) w tt) 16 (lit< tt) (nil_apart (at (2 ^ 47 - 8) w tt) e_nil)

  -- ---- the polynomials at what is left over the power
  over_near : Apart fine 2 (v.hi ⊖ e) v.hi
  over_near = less_nil v_bounds.hi e_nil tt

  over_bound : Bound fine (2 ^ 53 + 2 ^ 17 + 2 ^ 16 + 6) (v.hi ⊖ e)
  over_bound = at (2 ^ 53 + 2 ^ 17 + 2 ^ 16 + 6) (sub_bound v_bounds.hi (nil_bound fine fine_scale e_nil) tt) tt

  rest : DoubleDouble
  rest = from_exact_add (v.hi ⊖ e) v.lo

  rest_bounds : Bounds fine (2 ^ 53 + 2 ^ 18) 8 rest
  unfolding rest
  rest_bounds =
      let w = fast_bounds over_bound v_bounds.lo tt in
      record { hi = at (2 ^ 53 + 2 ^ 18) w.hi tt; lo = at 8 w.lo tt }

  rest_near : Apart fine (3 * 2 ^ 16 + 16) rest.hi t'
  unfolding rest from_exact_add
  rest_near = apart_at (3 * 2 ^ 16 + 16) (apart_through (add_apart over_bound v_bounds.lo tt) (apart_through over_near v_near)) tt

  poly : DoubleDouble
  poly = compoundf_exp2_poly2 rest

  polynomials : PolyNear rest t'
  polynomials = poly_near rest t' rest_bounds.hi rest_bounds.lo plain_bound rest_near

  first_bound : Bound fine (2 ^ 69) (q2 0)
  first_bound = at (2 ^ 69) (bound_fine (positive_bound q2_first)) tt

  poly_hi : Bound fine (2 ^ 69 + 2 ^ 54) poly.hi
  unfolding poly
  poly_hi = subst (Bound fine (2 ^ 69 + 2 ^ 54)) (sym polynomials.high_is) (at (2 ^ 69 + 2 ^ 54) (add_bound first_bound polynomials.slow tt) tt)

  -- ---- the product, and its sum
  product : DoubleDouble
  product = quick_mult unity poly

  product_parts : Parts fine 65622 82 (q2 0) polynomials.w product
  unfolding product poly
  product_parts = times_unity polynomials.parts poly_hi

  product_hi : Bound fine (2 ^ 69 + 2 ^ 54) product.hi
  unfolding product quick_mult from_exact_mult
  product_hi = same_bound (one_times poly.hi poly_hi.number) poly_hi

  q : DoubleDouble
  q = from_exact_add product.hi product.lo

  q_parts : Parts fine 65700 90 (q2 0) polynomials.w q
  unfolding q
  q_parts = parts_at 65700 90 (parts_through product_parts (small_term product_hi product_parts.low tt tt tt)) tt tt

  q_hi : Bound fine (2 ^ 69 + 2 ^ 55) q.hi
  unfolding q from_exact_add
  q_hi = at (2 ^ 69 + 2 ^ 55) (add_bound product_hi product_parts.low tt) tt

  slow_power : Float
  slow_power = q.hi ⊕ q.lo

  plain_power : Float
  plain_power = q2 0 ⊕ polynomials.w'

  powers_near : Apart S 5 slow_power plain_power
  unfolding slow_power plain_power
  powers_near = apart_at 5 (apart_one (apart_at (5 * 2 ^ 16 - 1) (sums_near q_parts q_hi first_bound polynomials.plain polynomials.near tt tt) tt)) tt

  plain_is : Positive (2 ^ 53 - 2 ^ 38) (2 ^ 53 + 2 ^ 38) plain_power
  unfolding plain_power
  plain_is = positive_at (2 ^ 53 - 2 ^ 38) (2 ^ 53 + 2 ^ 38) (positive_add q2_first (bound_one polynomials.plain) tt tt) tt tt

  slow_is : Positive (2 ^ 52 + 1) (2 ^ 54 - 4) slow_power
  unfolding slow_power
  slow_is = positive_at (2 ^ 52 + 1) (2 ^ 54 - 4) (positive_near (add_bound q_hi q_parts.low tt).number powers_near plain_is tt) tt tt

  -- ---- the patterns
  plain_pattern_lem : to_bits binary64 plain_power ≡ to_bits binary64 (near_one_power t')
  unfolding plain_power
  plain_pattern_lem = ap (to_bits binary64) polynomials.plain_is

  err : Float
  err = err_of (is_small k 16 t.hi)

  pattern : ℕ
  pattern = rounded_to_odd q (test_pattern q err (pos 0))

  pattern_is : Odd (to_bits binary64 slow_power) pattern
  unfolding slow_power pattern
  pattern_is = odd_of q (test_pattern q err (pos 0)) slow_is

  same_product : exp2_product v 16 ≡ q
  unfolding exp2_product q product poly rest e
  same_product = ap (λ (u : DoubleDouble). let m = quick_mult u (compoundf_exp2_poly2 (from_exact_add (v.hi ⊖ entry compoundf_exp2_t 16) v.lo)) in from_exact_add m.hi m.lo) table_is

  not_scaled : scaled pattern (pos 0) ≡ pattern
  unfolding scaled
  not_scaled = go pattern pattern_is.unscaled.high
    where
      go : (n : ℕ) → n < 1024 * 2 ^ 52 → (n + 0 * 2 ^ 52) % 2 ^ 64 ≡ n
      go n h = omega arith

  -- whether t is so small that the power is 1 or next to it
  split : (x : Bool) → le (absolute t.hi) (f64 0x3e6715476af0d4c8) ≡ x → exp2_accurate t ≡ cond x (narrowed (one ⊕ t.hi ⊗ f64 0x3fe0000000000000)) (exp2_away t k)
  unfolding exp2_accurate is_near_one k
  split x e =
      ap (λ (w : Float). cond (eq w zero && le (absolute t.hi) (f64 0x3e6715476af0d4c8)) (narrowed (one ⊕ t.hi ⊗ f64 0x3fe0000000000000)) (exp2_away t w)) same_k
      ∙ ap (λ (y : Bool). cond (eq (fin s 0 (pos 0)) zero && y) (narrowed (one ⊕ t.hi ⊗ f64 0x3fe0000000000000)) (exp2_away t (fin s 0 (pos 0)))) e
      ∙ ap (λ (y : Bool). cond (y && x) (narrowed (one ⊕ t.hi ⊗ f64 0x3fe0000000000000)) (exp2_away t (fin s 0 (pos 0)))) (nil_is_zero s)

  answer : exp2_away t k ≡ narrowed (f64 pattern)
  unfolding exp2_away scaled_to_f32 pattern err v k
  answer =
      ap (λ (j : ℕ). scaled_to_f32 (exp2_product v j) (err_of (is_small k j t.hi)) (clamped_k k)) (sym (index_unclamped v.hi (subst (λ (j : ℕ). j < 33) (sym index_is) (lit< tt))) ∙ index_is)
      ∙ ap (λ (z : ℤ). scaled_to_f32 (exp2_product v 16) (err_of (is_small k 16 t.hi)) z) (clamped_nil s)
      ∙ ap (λ (w : DoubleDouble). scaled_to_f32 w (err_of (is_small k 16 t.hi)) (pos 0)) same_product
      ∙ ap (λ (m : ℕ). narrowed (f64 m)) not_scaled

  near_one_signed : le (absolute t.hi) (f64 0x3e6715476af0d4c8) ≡ false → NearOnePower t t'
  near_one_signed far = record {
    pattern = pattern;
    unscaled = pattern_is.unscaled;
    over = subst (λ (m : ℕ). pattern ≤ m + 6) plain_pattern_lem (over pattern (to_bits binary64 slow_power) (to_bits binary64 plain_power) pattern_is.over (bits_apart slow_inner plain_inner powers_near));
    under = subst (λ (m : ℕ). m ≤ pattern + 6) plain_pattern_lem (under pattern (to_bits binary64 slow_power) (to_bits binary64 plain_power) pattern_is.under (bits_apart plain_inner slow_inner (apart_turned powers_near)));
    is = split false far ∙ answer;
  }
    where
      slow_inner : Positive (2 ^ 52) (2 ^ 54 - 1) slow_power
      slow_inner = positive_at (2 ^ 52) (2 ^ 54 - 1) slow_is tt tt

      plain_inner : Positive (2 ^ 52) (2 ^ 54 - 1) plain_power
      plain_inner = positive_at (2 ^ 52) (2 ^ 54 - 1) plain_is tt tt

      over : (n v w : ℕ) → n ≤ v + 1 → v ≤ w + 5 → n ≤ w + 6
      over n v w g h = omega arith

      under : (n v w : ℕ) → v ≤ n + 1 → w ≤ v + 5 → w ≤ n + 6
      under n v w g h = omega arith

-- of either sign
signed : (x : Float) → Number x → HasSign true x ⊎ HasSign false x
signed nan n = absurd n.plain
signed (inf s) n = absurd n.plain
signed (fin true m e) n = inl refl
signed (fin false m e) n = inr refl

pub near_one_power_lem : (t : DoubleDouble) (t' : Float) → Number t.hi → Apart S 2 t.hi t' → Bound S 1 t.lo → Bound S (2 ^ 37) t' → le (absolute t.hi) (f64 0x3e6715476af0d4c8) ≡ false → NearOnePower t t'
near_one_power_lem t t' n a l b far = go (signed t.hi n)
  where
    go : HasSign true t.hi ⊎ HasSign false t.hi → NearOnePower t t'
    go (inl s) = near_one_signed true t t' s n a l b far
    go (inr s) = near_one_signed false t t' s n a l b far

-- and where t is so small
pub tiny_power : (t : DoubleDouble) (t' : Float) → Number t.hi → Apart S 2 t.hi t' → Bound S 1 t.lo → Bound S (2 ^ 37) t' → le (absolute t.hi) (f64 0x3e6715476af0d4c8) ≡ true
    → exp2_accurate t ≡ narrowed (one ⊕ t.hi ⊗ f64 0x3fe0000000000000)
tiny_power t t' n a l b tiny = go (signed t.hi n)
  where
    go : HasSign true t.hi ⊎ HasSign false t.hi → exp2_accurate t ≡ narrowed (one ⊕ t.hi ⊗ f64 0x3fe0000000000000)
    go (inl s) = split true t t' s n a l b true tiny
    go (inr s) = split false t t' s n a l b true tiny
