-- The plain logarithm beside the fast path's: a 2^40th of its size at most (`log_beside`). Both have the exponent e, the inverse r and its logarithm a in common. Three cases: e is not
-- 0 (`whole_case`); e is 0 and the inverse is not 1 (`part_case`); e is 0 and the inverse is 1, where z is t less 1 in both, exactly, and both logarithms are on the
-- scale of z (`near_case`), or 0 (`nil_case`). Assumes nothing.
use Rattle.std.proofs.Common.{◌≡◌, ℕ, ◌+◌, ◌*◌, ◌^◌, ◌<◌, ◌≤◌, T, ◌⊎◌, neg_ℤ, sym, ap, ◌∙◌, subst, inl, inr, le_trans, lt_trans, le_of_eq, mul-le-mul_right, eq-zero-or-pos, one-mul, zero-mul, arith, lit<, lit≤}
use lib.Ieee.{Float, binary32, binary64, fits, lt, to_bits, of_int}
use lib.Ieee.Scale.{finite}
use Rattle.floats.specs.Operations.{◌⊕◌, ◌⊗◌, f64}
use Rattle.double_double.specs.DoubleDouble.{dd_fmla}
use Rattle.tables.specs.Tables.{entry, pair_entry, log2p1_compoundf_inv, log2p1_compoundf_log2_inv}
use Rattle.special.specs.Special.{one, minus_one}
use Rattle.fast_path.specs.Scaling.{scaled, exponent_of}
use Rattle.fast_path.specs.Fast.{inverse_index, HasInverse, log2p1, compoundf_log2p1_fast}
use Rattle.fast_path.proofs.Coefficients.{inverse_log_hi}
use Rattle.fast_path.proofs.Index.{reduced_index}
use Rattle.fast_path.proofs.InverseSlot.{inverse_slot, inverse_size, minus_one_is}
use Rattle.fast_path.proofs.LogSize.{factor, fast_factor, product_size, part_size, nil_size, part_large, power_size, whole_large, own_product, near_least}
use Rattle.fast_path.proofs.OnePlus.{sum_bits}
use Rattle.fast_path.proofs.Reduced.{reduced_positive, Power, exponent_cases, Alone, One, inverse_cases}
use Rattle.bounds.proofs.Values.{plus, less, mag, Number}
use Rattle.bounds.proofs.Scales.{S, unit, unit_left, unit_right, Bound, at, add_bound, mul_bound}
use Rattle.bounds.proofs.Distances.{Apart, apart_at, not_less, not_more}
use Rattle.bounds.proofs.Compared.{Positive, positive_bound}
use Rattle.bounds.proofs.Exactly.{Off, fmla_minus_one, times_minus_one}
use Rattle.bounds.proofs.OwnScale.{Nil, nil_bound, nil_sum, nil_product, Own, on_own}
use Rattle.bounds.proofs.Apart.{apart_same, sum_apart, product_apart, fmla_plain}
use Rattle.filter.specs.Plain.{plain_factor, plain_log2p1}
use Rattle.filter.proofs.Relative.{Relative}
use Rattle.filter.proofs.Factor.{plain_factor_lem, factor_beside}

pub record LogBeside (l l' : Float) : Type 0 where
  pub near : Relative 40 l l'
  pub size : Bound S (2 ^ 62) l
  pub plain_size : Bound S (2 ^ 62) l'
  pub some : (mag l' ≡ 0) ⊎ (2 ^ 1000 ≤ mag l')

-- what is no less than 2^-53 is far above 2^1000 units
large : {k : ℕ} → S ≤ k → 2 ^ 1000 ≤ k
unfolding S
large h = le_trans (lit≤ tt) h

-- once is no more than c times
times : (c s : ℕ) → 1 ≤ c → s ≤ c * s
times c s h = le_trans (le_of_eq (sym (one-mul s))) (mul-le-mul_right s h)

-- a distance of a 2^40th of c, where c is the size at least
beside_of : {μ D : ℕ} {l l' : Float} (c : ℕ) → Bound S (2 ^ 62) l → Bound S (2 ^ 62) l' → Apart μ D l l' → c * μ ≤ mag l' → D * 2 ^ 40 ≤ c → S ≤ c * μ → LogBeside l l'
beside_of {μ} {D} {l} {l'} c p q a least h some =
    let d : D * μ * 2 ^ 40 ≤ mag l' = le_trans (le_of_eq (omega arith)) (le_trans (mul-le-mul_right μ h) least) in
    record {
      near = record {
        number = p.number;
        beside = q.number;
        over = go (plus l + less l') (less l + plus l') (D * μ) (mag l') a.over d;
        under = go (less l + plus l') (plus l + less l') (D * μ) (mag l') (omega arith) d;
      };
      size = p;
      plain_size = q;
      some = inr (large (le_trans some least));
    }
  where
    go : (a b d m : ℕ) → a ≤ b + d → d * 2 ^ 40 ≤ m → a * 2 ^ 40 ≤ b * 2 ^ 40 + m
    go a b d m g h = omega arith

-- both are 0
both_nil : {l l' : Float} → Nil l → Nil l' → LogBeside l l'
both_nil {l} {l'} p q = record {
  near = record { number = p.number; beside = q.number; over = go (plus l) (less l) (plus l') (less l') (mag l') p.is q.is; under = go (less l) (plus l) (less l') (plus l') (mag l') (swap (plus l) (less l) p.is) (swap (plus l') (less l') q.is) };
  size = at (2 ^ 62) (nil_bound S unit p) tt;
  plain_size = at (2 ^ 62) (nil_bound S unit q) tt;
  some = inl q.is;
}
  where
    swap : (p n : ℕ) → p + n ≡ 0 → n + p ≡ 0
    swap p n h = omega arith

    go : (p n q m k : ℕ) → p + n ≡ 0 → q + m ≡ 0 → (p + m) * 2 ^ 40 ≤ (n + q) * 2 ^ 40 + k
    go p n q m k g h = omega arith

-- ---- the two logarithms, by what they share
module _ (v : ℕ) (low : 999 * 2 ^ 52 ≤ v) (high : v < 1151 * 2 ^ 52) where
  small : v < 2 ^ 63
  small = lt_trans high (lit< tt)

  e : Float
  e = of_int binary64 (exponent_of v)

  t : Float
  t = f64 (scaled v (neg_ℤ (exponent_of v)))

  i : ℕ
  i = inverse_index t

  r : Float
  r = entry log2p1_compoundf_inv i

  a : Float
  a = (pair_entry log2p1_compoundf_log2_inv i).hi

  z : Float
  z = dd_fmla r t minus_one

  z' : Float
  z' = r ⊗ t ⊕ minus_one

  p : Float
  p = z ⊗ factor z

  p' : Float
  p' = z' ⊗ plain_factor z'

  abbrev Beside : Type 0
  Beside = LogBeside (e ⊕ (a ⊕ p)) (e ⊕ (a ⊕ p'))

  -- ---- sizes
  t_positive : Positive (2 ^ 52) (3 * 2 ^ 52) t
  unfolding t
  t_positive = reduced_positive v small

  has : HasInverse t
  unfolding t
  has = reduced_index v small

  inside : i < 46
  unfolding i
  inside = has.1

  r_size : Bound S (3 * 2 ^ 52) r
  unfolding r
  r_size = inverse_size i inside

  a_size : Bound S (33 * 2 ^ 47) a
  unfolding a
  a_size = inverse_log_hi i inside

  z_size : Bound S (2 ^ 47 + 2 ^ 33) z
  unfolding z r i
  z_size = inverse_slot t t_positive has

  z_apart : Apart S 40 z z'
  unfolding z z'
  z_apart = apart_at 40 (fmla_plain (unit_left unit) r_size (positive_bound t_positive) minus_one_is.0 tt) tt

  z'-number : Number z'
  unfolding z'
  z'-number = (add_bound (mul_bound (unit_left unit) r_size (positive_bound t_positive) tt tt) minus_one_is.0 tt).number

  z'-size : Bound S (2 ^ 47 + 2 ^ 34) z'
  z'-size = record { scale = unit; number = z'-number; size = omega (arith, z_size.size, not_less z_apart) }

  p_size : Bound S (47 * 2 ^ 42 + 2 ^ 36) p
  unfolding p
  p_size = product_size z_size

  p'-size : Bound S (47 * 2 ^ 42 + 2 ^ 36) p'
  unfolding p'
  p'-size = at (47 * 2 ^ 42 + 2 ^ 36) (mul_bound (unit_left unit) z'-size (plain_factor_lem z'-size) tt tt) tt

  p_apart : Apart S 64 p p'
  unfolding p p'
  p_apart = apart_at 64 (product_apart (unit_left unit) z_apart (factor_beside z_apart z_size z'-size) z_size (positive_bound (fast_factor z_size)) z'-size (plain_factor_lem z'-size) tt) tt

  part_apart : Apart S 66 (a ⊕ p) (a ⊕ p')
  part_apart = apart_at 66 (sum_apart (apart_same a) p_apart a_size p_size a_size p'-size tt tt) tt

  -- ---- e is not 0
  whole_case : Power e → Beside
  whole_case w =
      let E = power_size w in
      let q = part_size a_size p_size in
      let q' = part_size a_size p'-size in
      beside_of (25 * 2 ^ 47) (at (2 ^ 62) (add_bound E q tt) tt) (at (2 ^ 62) (add_bound E q' tt) tt) (apart_at 400 (sum_apart (apart_same e) part_apart E q E q' tt tt) tt) (whole_large w q') (lit≤ tt) (times (25 * 2 ^ 47) S (lit≤ tt))

  -- ---- e is 0, and the inverse is not 1
  part_case : Nil e → 35 * 2 ^ 43 * S ≤ mag a → Beside
  part_case n h =
      let E = nil_bound S unit n in
      let q = part_size a_size p_size in
      let q' = part_size a_size p'-size in
      beside_of (21 * 2 ^ 42) (nil_size n q) (nil_size n q') (apart_at 68 (sum_apart (apart_same e) part_apart E q E q' tt tt) tt) (part_large n a_size p'-size h) (lit≤ tt) (times (21 * 2 ^ 42) S (lit≤ tt))

  -- ---- e is 0, and the inverse is 1
  module _ (n : Nil e) (alone : One i) where
    r_is : r ≡ one
    unfolding r
    r_is = alone.inverse

    a_nil : Nil a
    unfolding a
    a_nil = alone.hi

    off : Off t z
    unfolding z
    off = subst (λ (k : Float). Off t (dd_fmla k t minus_one)) (sym r_is) (fmla_minus_one t t_positive)

    off' : Off t z'
    unfolding z'
    off' = subst (λ (k : Float). Off t (k ⊗ t ⊕ minus_one)) (sym r_is) (times_minus_one t t_positive)

    -- z and z' are the same number
    same : (μ : ℕ) → Apart μ 0 z z'
    same μ = record { over = go (plus z) (less z) (plus z') (less z') (plus t) (2 ^ 53 * S) off.is off'.is; under = go (plus z') (less z') (plus z) (less z) (plus t) (2 ^ 53 * S) off'.is off.is }
      where
        go : (p n q m t o : ℕ) → p + o ≡ n + t → q + o ≡ m + t → p + m ≤ n + q + 0 * μ
        go p n q m t o g h = omega arith

    nil_case : Nil z → Beside
    unfolding p p'
    nil_case h =
        let h' : Nil z' = record { number = z'-number; is = omega (arith, not_less (same S)) } in
        both_nil (nil_sum n (nil_sum a_nil (nil_product h (fast_factor z_size).number))) (nil_sum n (nil_sum a_nil (nil_product h' (plain_factor_lem z'-size).number)))

    near_case : {σ : ℕ} → Own σ z → Beside
    unfolding p p'
    near_case {σ} o =
        let scale = o.bound.scale in
        let o' : Bound σ (2 ^ 53) z' = record { scale = scale; number = z'-number; size = le_trans (not_less (same σ)) (le_trans (le_of_eq (ap (λ (k : ℕ). k + 0 * σ) o.is)) (le_of_eq (omega arith))) } in
        let P = own_product o z_size in
        let P' = at (3 * 2 ^ 52) (mul_bound (unit_right scale) o' (plain_factor_lem z'-size) tt tt) tt in
        let A = nil_bound σ scale a_nil in
        let E = nil_bound σ scale n in
        let q = at (2 ^ 54) (add_bound A P tt) tt in
        let q' = at (2 ^ 54) (add_bound A P' tt) tt in
        let product = product_apart (unit_right scale) (same σ) (factor_beside z_apart z_size z'-size) o.bound (positive_bound (fast_factor z_size)) o' (plain_factor_lem z'-size) tt in
        let l = apart_at 140 (sum_apart (apart_same e) (sum_apart (apart_same a) product A P A P' tt tt) E q E q' tt tt) tt in
        beside_of (2 ^ 53) (nil_size n (part_size a_size p_size)) (nil_size n (part_size a_size p'-size)) l
        (omega (arith, near_least n a_nil o z_size, not_more l)) (lit≤ tt) o.least

    near_cases : Beside
    near_cases = go (eq-zero-or-pos off.parts)
      where
        go : (off.parts ≡ 0) ⊎ (0 < off.parts) → Beside
        go (inl h) = nil_case (record { number = off.number; is = off.grid ∙ ap (λ (k : ℕ). k * S) h ∙ zero-mul S })
        go (inr h) = near_case (on_own off.parts off.grid h (at (2 ^ 48) z_size tt))

  -- all of them
  beside : Beside
  unfolding e a
  beside = go (exponent_cases v low high)
    where
      zero_exponent : Nil e → One i ⊎ (35 * 2 ^ 43 * S ≤ mag a) → Beside
      zero_exponent n (inl o) = near_cases n o
      zero_exponent n (inr l) = part_case n l

      go : Alone v ⊎ Power e → Beside
      go (inl o) = zero_exponent o.nil (inverse_cases i inside)
      go (inr w) = whole_case w

pub log_beside : (x : Float) → T (fits binary32 x) → T (finite x) → T (lt minus_one x) → LogBeside (compoundf_log2p1_fast x) (plain_log2p1 x)
unfolding log2p1 e t i r a z z' p p'
log_beside x f p h =
    let b = sum_bits x f p h in
    beside (to_bits binary64 (one ⊕ x)) b.0 b.1
