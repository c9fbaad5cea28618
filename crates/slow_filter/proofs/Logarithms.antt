-- The accurate logarithm's hi beside the fast one, for an |x| from 2^-29 up: 100000 / 2^53 of its size at most (`logarithms`). Three cases, as for the fast path beside the plain one: the
-- exponent e is not 0 (`whole_case`); e is 0 and the inverse is not 1 (`part_case`); e is 0 and the inverse is 1 (`near_case`), where z is x, exactly, and both are on its scale.
-- Assumes nothing.
use Rattle.std.proofs.Common.{◌≡◌, ℕ, ◌+◌, ◌*◌, ◌^◌, ◌<◌, ◌≤◌, refl, sym, ap, ◌∙◌, subst, ◌⊎◌, inl, inr, le_trans, le_of_eq, lt_of_lt_of_le, mul_comm, mul-le-mul_right, mul-pos, eq-zero-or-pos, zero-mul, not-le_of_lt, arith, T, lit≤, lit<, pow_pos}
use lib.Ieee.{Float, binary32, binary64, fits, to_bits, lt, le}
use lib.Ieee.Scale.{finite}
use Rattle.floats.specs.Operations.{◌⊕◌, ◌⊗◌}
use Rattle.floats.specs.OnBits.{absolute}
use Rattle.double_double.specs.declared.DoubleDouble.{DoubleDouble}
use Rattle.double_double.specs.DoubleDouble.{from_exact_add}
use Rattle.special.specs.Special.{one, minus_one}
use Rattle.fast_path.specs.Fast.{compoundf_log2p1_fast}
use Rattle.fast_path.proofs.LogSize.{factor, fast_factor, product_size, part_size, part_large, power_size, whole_large, nil_sums, own_product, near_least}
use Rattle.fast_path.proofs.OnePlus.{InScale, sum_bits}
use Rattle.fast_path.proofs.Reduced.{Power, Alone, exponent_cases, One, inverse_cases}
use Rattle.slow_path.specs.Slow.{one_plus, log2_poly2, sum_of_logs, compoundf_log2p1_accurate}
use Rattle.slow_path.proofs.LogCases as Cases
use Rattle.slow_path.proofs.Logs.{Logs}
use Rattle.slow_path.proofs.LowPart.{one_is_1, one_mag, f32_bound}
use Rattle.slow_path.proofs.OnePlusParts.{Above, above_of, Parted}
use Rattle.bounds.proofs.Values.{per_one, plus, less, mag, one_side}
use Rattle.bounds.proofs.Scales.{S, S_pos, one_is, unit, unit_left, Bound, at, add_bound, mul_bound}
use Rattle.bounds.proofs.Distances.{Apart, apart_at, apart_through, add_apart, add_apart_right}
use Rattle.bounds.proofs.Compared.{Positive, positive_bound}
use Rattle.bounds.proofs.Exactly.{Off}
use Rattle.bounds.proofs.OwnScale.{Nil, nil_bound, nil_sum, nil_product, Own, on_own}
use Rattle.bounds.proofs.Apart.{apart_same, apart_turned, sum_apart, product_apart}
use Rattle.slow_filter.specs.PlainSlow.{kept_from}
use Rattle.slow_filter.proofs.Regrouped.{sums_apart}
use Rattle.slow_filter.proofs.SlowFactor.{slow_factor, slow_is, slow_size, slow_beside, mul_turned}
use Rattle.slow_filter.proofs.LowPart.{least_size, parted, Exact, Far, low_cases}

-- h is l but for 100000 / 2^53 of its size
pub record Beside (h l : Float) : Type 0 where
  pub over : (plus h + less l) * 2 ^ 53 ≤ (less h + plus l) * 2 ^ 53 + 100000 * mag l
  pub under : (less h + plus l) * 2 ^ 53 ≤ (plus h + less l) * 2 ^ 53 + 100000 * mag l
  pub some : 0 < mag l

beside_of : {μ D : ℕ} {h l : Float} (c : ℕ) → Apart μ D h l → c * μ ≤ mag l → D * 2 ^ 53 ≤ 100000 * c → 0 < c * μ → Beside h l
beside_of {μ} {D} {h} {l} c a least k some =
    let d : D * μ * 2 ^ 53 ≤ 100000 * mag l = le_trans (le_of_eq (turn D μ)) (le_trans (mul-le-mul_right μ k) (le_trans (le_of_eq (around c μ)) (hundred (c * μ) (mag l) least))) in
    record {
      over = go (plus h + less l) (less h + plus l) (D * μ) (100000 * mag l) a.over d;
      under = go (less h + plus l) (plus h + less l) (D * μ) (100000 * mag l) (turned (plus h) (less h) (plus l) (less l) (D * μ) a.under) d;
      some = lt_of_lt_of_le some least;
    }
  where
    turn : (D m : ℕ) → D * m * 2 ^ 53 ≡ D * 2 ^ 53 * m
    turn D m = omega arith

    around : (c m : ℕ) → 100000 * c * m ≡ 100000 * (c * m)
    around c m = omega arith

    hundred : (a b : ℕ) → a ≤ b → 100000 * a ≤ 100000 * b
    hundred a b h = omega arith

    turned : (p n q m d : ℕ) → q + n ≤ m + p + d → n + q ≤ p + m + d
    turned p n q m d h = omega arith

    go : (a b d m : ℕ) → a ≤ b + d → d * 2 ^ 53 ≤ m → a * 2 ^ 53 ≤ b * 2 ^ 53 + m
    go a b d m g h = omega arith

module _ (x : Float) (f : T (fits binary32 x)) (p : T (finite x)) (h : T (lt minus_one x)) (l : T (le kept_from (absolute x))) where
  abbrev v : ℕ
  v = to_bits binary64 (one ⊕ x)

  bits : InScale v
  bits = sum_bits x f p h

  above : Above x
  above = above_of x f p h

  on_scale : Bound S (2 ^ 181) x
  on_scale = f32_bound x above.number above.size

  parts : Parted x (one_plus x)
  parts = parted x f p h l

  -- what the two share, and z of the accurate one
  abbrev e : Float
  e = Cases.e x v refl bits.0 bits.1 on_scale parts

  abbrev i : ℕ
  i = Cases.i x v refl bits.0 bits.1 on_scale parts

  abbrev r : Float
  r = Cases.r x v refl bits.0 bits.1 on_scale parts

  abbrev s : Float
  s = Cases.s x v refl bits.0 bits.1 on_scale parts

  abbrev a : DoubleDouble
  a = Cases.a x v refl bits.0 bits.1 on_scale parts

  abbrev z : Float
  z = Cases.z x v refl bits.0 bits.1 on_scale parts

  abbrev z' : DoubleDouble
  z' = Cases.z' x v refl bits.0 bits.1 on_scale parts

  -- what is added to z
  abbrev more : Float
  more = r ⊗ ((one_plus x).lo ⊗ s)

  z'-is : z'.hi ≡ z ⊕ more
  unfolding Cases.z' from_exact_add
  z'-is = refl

  z_size : Bound S (2 ^ 47 + 2 ^ 33) z
  z_size = Cases.z_size x v refl bits.0 bits.1 on_scale parts

  z'-size : Bound S (2 ^ 47 + 2 ^ 36) z'.hi
  z'-size = (Cases.z'-size x v refl bits.0 bits.1 on_scale parts).hi

  r_size : Bound S (3 * 2 ^ 52) r
  r_size = Cases.r_size x v refl bits.0 bits.1 on_scale parts

  a_size : Bound S (33 * 2 ^ 47) a.hi
  a_size = (Cases.a_size x v refl bits.0 bits.1 on_scale parts).hi

  s_size : Bound S (2 ^ 82) s
  s_size = Cases.s_size x v refl bits.0 bits.1 on_scale parts

  -- it is 0, or small
  nil_more : Exact x f p h l → Nil more
  nil_more n =
      let w = nil_product n.nil s_size.number in
      subst Nil (mul_turned ((one_plus x).lo ⊗ s) r w.number r_size.number) (nil_product w r_size.number)

  more_size : Bound S 97 more
  more_size = go (low_cases x f p h l)
    where
      cut : (m s w : ℕ) → w ≡ s * 2 ^ 53 → m * 2 ^ 47 ≤ w → m ≤ 64 * s
      cut m s w e h = omega arith

      go : Exact x f p h l ⊎ Far x f p h l → Bound S 97 more
      go (inl n) = at 97 (nil_bound S unit (nil_more n)) tt
      go (inr n) =
          let w = Cases.low_of x v refl bits.0 bits.1 on_scale parts (2 ^ 47) (lit≤ tt) (lit≤ tt) n.small in
          let b : Bound S 64 ((one_plus x).lo ⊗ s) = record { scale = unit; number = w.number; size = cut (mag ((one_plus x).lo ⊗ s)) S per_one one_is w.small } in
          at 97 (mul_bound (unit_left unit) r_size b tt tt) tt

  z_apart : Apart S 100 z'.hi z
  z_apart = subst (λ (k : Float). Apart S 100 k z) (sym z'-is) (apart_at 100 (add_apart z_size more_size tt) tt)

  -- ---- the polynomials
  abbrev b : Float
  b = (log2_poly2 z').hi

  abbrev q : Float
  q = z ⊗ factor z

  b_is : b ≡ slow_factor z'.hi ⊗ z'.hi
  b_is = slow_is z'

  q_is : factor z ⊗ z ≡ q
  q_is = mul_turned (factor z) z (fast_factor z_size).number z_size.number

  factors : Apart S 45000 (slow_factor z'.hi) (factor z)
  factors = slow_beside z_apart z'-size z_size

  b_size : Bound S (2 ^ 49) b
  b_size = subst (Bound S (2 ^ 49)) (sym b_is) (at (2 ^ 49) (mul_bound (unit_left unit) (slow_size z'-size) z'-size tt tt) tt)

  q_size : Bound S (47 * 2 ^ 42 + 2 ^ 36) q
  q_size = product_size z_size

  polynomials : Apart S 860 b q
  polynomials =
      subst (Apart S 860 b) q_is
      (subst (λ (k : Float). Apart S 860 k (factor z ⊗ z)) (sym b_is) (apart_at 860 (product_apart (unit_left unit) factors z_apart (slow_size z'-size) z'-size (positive_bound (fast_factor z_size)) z_size tt) tt))

  -- ---- e is not 0
  abbrev high : Float
  high = e ⊕ a.hi ⊕ b

  abbrev low : Float
  low = e ⊕ (a.hi ⊕ q)

  whole_case : Power e → Beside high low
  whole_case w =
      let E = power_size w in
      let form = apart_at 1000 (sums_apart E a_size b_size tt tt tt tt) tt in
      let sums = apart_at 2000 (sum_apart (apart_same e) (sum_apart (apart_same a.hi) polynomials a_size b_size a_size q_size tt tt) E (add_bound a_size b_size tt) E (add_bound a_size q_size tt) tt tt) tt in
      beside_of (25 * 2 ^ 47) (apart_through form sums) (whole_large w (part_size a_size q_size)) (lit≤ tt) (mul-pos (lit< tt) S_pos)

  -- ---- e is 0, and the inverse is not 1
  part_case : Nil e → 35 * 2 ^ 43 * S ≤ mag a.hi → Beside high low
  part_case n g =
      let E = nil_bound S unit n in
      let form = apart_at 10 (sums_apart E a_size b_size tt tt tt tt) tt in
      let sums = apart_at 870 (sum_apart (apart_same e) (sum_apart (apart_same a.hi) polynomials a_size b_size a_size q_size tt tt) E (add_bound a_size b_size tt) E (add_bound a_size q_size tt) tt tt) tt in
      beside_of (21 * 2 ^ 42) (apart_through form sums) (part_large n a_size q_size g) (lit≤ tt) (mul-pos (lit< tt) S_pos)

  -- ---- e is 0, and the inverse is 1
  near_case : {σ : ℕ} → Exact x f p h l → Nil e → Nil a.hi → Own σ z → Beside high low
  near_case {σ} exact n m o =
      let scale = o.bound.scale in
      let nil = nil_bound σ scale (nil_more exact) in
      let apart : Apart σ 2 z'.hi z = subst (λ (k : Float). Apart σ 2 k z) (sym z'-is) (apart_at 2 (add_apart o.bound nil tt) tt) in
      let size : Bound σ (2 ^ 53 + 2) z'.hi = subst (Bound σ (2 ^ 53 + 2)) (sym z'-is) (at (2 ^ 53 + 2) (add_bound o.bound nil tt) tt) in
      let B : Bound σ (2 ^ 55) b = subst (Bound σ (2 ^ 55)) (sym b_is) (at (2 ^ 55) (mul_bound (unit_left scale) (slow_size z'-size) size tt tt) tt) in
      let products : Apart σ 45010 b q = subst (Apart σ 45010 b) q_is (subst (λ (k : Float). Apart σ 45010 k (factor z ⊗ z)) (sym b_is) (apart_at 45010 (product_apart (unit_left scale) factors apart (slow_size z'-size) size (positive_bound (fast_factor z_size)) o.bound tt) tt)) in
      let sum = apart_at 10 (add_apart_right (nil_bound σ scale (nil_sum n m)) B tt) tt in
      beside_of (11 * 2 ^ 50) (apart_through sum (apart_through products (apart_turned (nil_sums n m (own_product o z_size))))) (near_least n m o z_size) (lit≤ tt) (mul-pos (lit< tt) scale.positive)

  near_cases : Alone v → One i → Beside high low
  near_cases power alone = go (low_cases x f p h l)
    where
      off : Off (one ⊕ x) z
      off = Cases.off x v refl bits.0 bits.1 on_scale parts power alone

      u_positive : Positive (2 ^ 52) (3 * 2 ^ 52) (one ⊕ x)
      u_positive = Cases.u_positive x v refl bits.0 bits.1 on_scale parts power alone

      e_nil : Nil e
      e_nil = Cases.e_nil x v refl bits.0 bits.1 on_scale parts power alone

      a_nil : Nil a.hi
      a_nil = Cases.high_nil x v refl bits.0 bits.1 on_scale parts power alone

      -- z is not 0, as x is not
      nothing : (px nx pu nu po mo pz nz w g : ℕ) → pz + nz ≡ 0 → w ≡ g → po + mo ≡ w → mo ≡ 0 → nu ≡ 0 → pz + g ≡ nz + pu → pu + mo + nx ≡ nu + po + px → (px ≡ 0) ⊎ (nx ≡ 0) → px + nx ≡ 0
      nothing px nx pu nu po mo pz nz w g c₁ c₂ c₃ c₄ c₅ c₆ c₇ (inl k) = omega arith
      nothing px nx pu nu po mo pz nz w g c₁ c₂ c₃ c₄ c₅ c₆ c₇ (inr k) = omega arith

      turn : per_one ≡ 2 ^ 53 * S
      turn = one_is ∙ mul_comm S (2 ^ 53)

      scaled : Exact x f p h l → (off.parts ≡ 0) ⊎ (0 < off.parts) → Beside high low
      scaled exact (inr k) = near_case exact e_nil a_nil (on_own off.parts off.grid k (at (2 ^ 48) z_size tt))
      scaled exact (inl k) =
          absurd (not-le_of_lt (pow_pos 1045) (le_trans (least_size x f p h l) (le_of_eq
          (nothing (plus x) (less x) (plus (one ⊕ x)) (less (one ⊕ x)) (plus one) (less one) (plus z) (less z) per_one (2 ^ 53 * S) (off.grid ∙ ap (λ (n : ℕ). n * S) k ∙ zero-mul S) turn one_mag one_is_1.clear u_positive.clear off.is exact.sum.is
          (one_side x)))))

      go : Exact x f p h l ⊎ Far x f p h l → Beside high low
      go (inl exact) = scaled exact (eq-zero-or-pos off.parts)
      go (inr far) = absurd (far.apart u_positive)

  all : Beside high low
  unfolding Cases.e Cases.a
  all = go (exponent_cases v bits.0 bits.1)
    where
      zero_exponent : Alone v → One i ⊎ (35 * 2 ^ 43 * S ≤ mag a.hi) → Beside high low
      zero_exponent n (inl o) = near_cases n o
      zero_exponent n (inr g) = part_case n.nil g

      go : Alone v ⊎ Power e → Beside high low
      go (inl n) = zero_exponent n (inverse_cases i (Cases.inside x v refl bits.0 bits.1 on_scale parts))
      go (inr w) = whole_case w

  high_is : (sum_of_logs e a (log2_poly2 z')).hi ≡ high
  unfolding sum_of_logs from_exact_add
  high_is = refl

  pub logarithms : Beside (compoundf_log2p1_accurate x).hi (compoundf_log2p1_fast x)
  logarithms =
      subst (Beside (compoundf_log2p1_accurate x).hi) (sym (Cases.fast_logs x v refl bits.0 bits.1 on_scale parts))
      (subst (λ (k : Float). Beside k low) (sym (ap (λ (k : DoubleDouble). k.hi) (Cases.accurate_logs x v refl bits.0 bits.1 on_scale parts) ∙ high_is)) all)

  -- the two logarithms on one scale
  pub on_one_scale : Logs (compoundf_log2p1_fast x) (compoundf_log2p1_accurate x)
  on_one_scale = go (Cases.parted_logs x v refl bits.0 bits.1 on_scale parts)
    where
      go : Logs (compoundf_log2p1_fast x) (compoundf_log2p1_accurate x) ⊎ Nil (compoundf_log2p1_fast x) → Logs (compoundf_log2p1_fast x) (compoundf_log2p1_accurate x)
      go (inl logs) = logs
      go (inr n) = absurd (not-le_of_lt logarithms.some (le_of_eq n.is))
