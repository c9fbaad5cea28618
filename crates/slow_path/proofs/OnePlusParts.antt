-- 1 + x as the accurate logarithm has it, where x is not lost in the sum: hi is the f64 sum, and lo is small beside it (`Parted`); where 1 + x is near 1, lo is at most
-- 2 × 2^-53 (`near_low`). Assumes nothing.
use Rattle.std.proofs.Common.{◌≡◌, ℕ, ◌+◌, ◌*◌, ◌^◌, ◌<◌, ◌≤◌, true, false, T, ◌⊎◌, sym, refl, subst, inl, inr, le_trans, le_of_eq, le_refl, add-zero, add-le-add, add_comm, zero-add, arith, lit≤}
use lib.Ieee.{Float, nan, inf, fin, binary32, binary64, fits, lt, le}
use lib.Ieee.Fits.{add-fits}
use lib.Ieee.Scale.{finite}
use Rattle.floats.specs.Operations.{◌⊕◌, ◌⊖◌}
use Rattle.floats.specs.OnBits.{absolute}
use Rattle.floats.proofs.Laws.Sums.{add_turned}
use Rattle.floats.proofs.Laws.Units.{exponent, fits_signed}
use Rattle.double_double.specs.declared.DoubleDouble.{DoubleDouble}
use Rattle.double_double.specs.DoubleDouble.{from_exact_add}
use Rattle.special.specs.Special.{one, minus_one}
use Rattle.fast_path.proofs.OnePlus.{sum_bits}
use Rattle.bounds.proofs.Values.{per_one, plus, less, mag, one_side, Number}
use Rattle.bounds.proofs.Operation.{limit, Close, Small, add_near}
use Rattle.bounds.proofs.Sums.{sides, sum_small, fast_sum}
use Rattle.bounds.proofs.Scales.{S, S_pos, one_is, Scale, Bound, at, sub_small_bound}
use Rattle.bounds.proofs.Compared.{Positive, le_units, units_of_le, gt_of_not_le}
use Rattle.bounds.proofs.Exactly.{minus_one_lem}
use Rattle.slow_path.proofs.LowPart.{one_is_1, one_mag, f32_number, above_minus_one, sum_limit, one_plus_near, least_units, sum_least}

-- what is asked of x, in units
pub record Above (x : Float) : Type 0 where
  pub number : Number x
  pub size : mag x ≤ 2 ^ 128 * per_one
  pub above : less x ≤ plus x + per_one
  pub sum : per_one ≤ 2 ^ 24 * mag (one ⊕ x)

-- a finite binary32 above -1
pub above_of : (x : Float) → T (fits binary32 x) → T (finite x) → T (lt minus_one x) → Above x
above_of x f p h =
    let num = f32_number x f p in
    let bits = sum_bits x f p h in
    record { number = num.0; size = num.1; above = above_minus_one x num.0 h; sum = least_units (one ⊕ x) (add-fits binary64 one x) bits.0 bits.1 }

-- |x| in units
pub absolute_units : (x : Float) → Number x → Number (absolute x) × (plus (absolute x) ≡ mag x) × (less (absolute x) ≡ 0)
unfolding absolute
absolute_units nan n = absurd n.plain
absolute_units (inf s) n = absurd n.plain
absolute_units (fin true m e) n = (record { held = fits_signed binary64 true false m e n.held; plain = tt }, sym (zero-add (m * 2 ^ exponent 1074 e)), refl)
absolute_units (fin false m e) n = (n, sym (add-zero (m * 2 ^ exponent 1074 e)), refl)

-- so what |x| is beside a number that is not below 0 says how large x is
module _ (c x : Float) (C : Number c) (clear : less c ≡ 0) (X : Number x) where
  pub size_least : le c (absolute x) ≡ true → plus c ≤ mag x
  size_least e =
      let a = absolute_units x X in
      go (plus c) (less c) (plus (absolute x)) (less (absolute x)) (mag x) clear a.1 a.2 (units_of_le C a.0 e)
    where
      go : (p n q m t : ℕ) → n ≡ 0 → q ≡ t → m ≡ 0 → p + m ≤ q + n → p ≤ t
      go p n q m t e d f h = omega arith

  pub size_most : le (absolute x) c ≡ true → mag x ≤ plus c
  size_most e =
      let a = absolute_units x X in
      go (plus c) (less c) (plus (absolute x)) (less (absolute x)) (mag x) clear a.1 a.2 (units_of_le a.0 C e)
    where
      go : (p n q m t : ℕ) → n ≡ 0 → q ≡ t → m ≡ 0 → q + n ≤ p + m → t ≤ p
      go p n q m t e d f h = omega arith

  pub size_below : le c (absolute x) ≡ false → mag x < plus c
  size_below e =
      let a = absolute_units x X in
      go (plus c) (less c) (plus (absolute x)) (less (absolute x)) (mag x) clear a.1 a.2 (gt_of_not_le c (absolute x) C a.0 e)
    where
      go : (p n q m t : ℕ) → n ≡ 0 → q ≡ t → m ≡ 0 → q + n < p + m → t < p
      go p n q m t e d f h = omega arith

-- hi and lo of 1 + x
pub record Parted (x : Float) (v : DoubleDouble) : Type 0 where
  pub hi_is : v.hi ≡ one ⊕ x
  pub lo_number : Number v.lo
  pub lo_small : mag v.lo * 2 ^ 26 ≤ mag (one ⊕ x)
  pub near_low : (σ : ℕ) → Scale σ → 2 * S ≤ 2 ^ 54 * σ → Positive (2 ^ 52) (3 * 2 ^ 52) (one ⊕ x) → Bound σ (2 ^ 54 + 2 ^ 10) v.lo

-- a few roundings of the terms are small beside the sum
few : (l d u : ℕ) → l * 2 ^ 53 ≤ 4 * d → d ≤ 2 ^ 25 * u → l * 2 ^ 26 ≤ u
few l d u h g = omega arith

-- ---- x up to 1
-- x less (1 + x) - 1, in units: the sum's rounding
rounding_left : (px nx pu nu po mo pd nd s W : ℕ) → W ≡ s * 2 ^ 53 → po + mo ≡ W → mo ≡ 0 → nu ≡ 0 → pd + 2 ^ 53 * s ≡ nd + pu → (pu + (mo + nx)) * 2 ^ 53 ≤ (nu + (po + px)) * 2 ^ 53 + 2 * W
    → (nu + (po + px)) * 2 ^ 53 ≤ (pu + (mo + nx)) * 2 ^ 53 + 2 * W → Small (px + nd) (nx + pd) (2 * s)
rounding_left px nx pu nu po mo pd nd s W w o n u d g h = record { upper = omega arith; lower = omega arith }

at_most_one : (x : Float) → Number x → T (le x one) → less x ≤ plus x + per_one → mag x ≤ per_one
at_most_one x n h above = sides (plus x) (less x) per_one (one_side x) (go (plus x) (less x) (plus one) (less one) per_one one_mag one_is_1.clear (le_units x one n one_is_1.number h)) above
  where
    go : (p n o k W : ℕ) → o + k ≡ W → k ≡ 0 → p + k ≤ o + n → p ≤ n + W
    go p n o k W e z h = omega arith

two_limit : 2 * per_one ≤ limit
unfolding limit per_one
two_limit = lit≤ tt

-- the sum's rounding is at most 2 × 2^-53
sum_near : (x : Float) → Number x → mag x ≤ per_one → Close (plus one + plus x) (less one + less x) (2 * per_one) (one ⊕ x)
sum_near x n h = add_near (2 * per_one) one_is_1.number n (sum_small one x (2 * per_one) (both (mag one) (mag x) per_one one_mag h)) two_limit
  where
    both : (o m W : ℕ) → o ≡ W → m ≤ W → o + m ≤ 2 * W
    both o m W e h = omega arith

low_near : (x : Float) → Above x → T (le x one) → (σ : ℕ) → Scale σ → 2 * S ≤ 2 ^ 54 * σ → Positive (2 ^ 52) (3 * 2 ^ 52) (one ⊕ x) → Bound σ (2 ^ 54 + 2 ^ 10) (x ⊖ (one ⊕ x ⊖ one))
low_near x a h σ s g p =
    let d = minus_one_lem (one ⊕ x) p in
    let c = sum_near x a.number (at_most_one x a.number h a.above) in
    let b = rounding_left (plus x) (less x) (plus (one ⊕ x)) (less (one ⊕ x)) (plus one) (less one) (plus (one ⊕ x ⊖ one)) (less (one ⊕ x ⊖ one)) S per_one one_is one_mag one_is_1.clear p.clear d.is c.most c.least in
    at (2 ^ 54 + 2 ^ 10) (sub_small_bound (2 ^ 54) s a.number d.number (record { upper = le_trans b.upper (add-le-add (le_refl (less x + plus (one ⊕ x ⊖ one))) g); lower = le_trans b.lower (add-le-add (le_refl (plus x + less (one ⊕ x ⊖ one))) g) }) tt) tt

pub parted_low : (x : Float) → Above x → T (le x one) → Parted x (from_exact_add one x)
parted_low x a h =
    let f = fast_sum (mag one + mag x) one_is_1.number a.number (le_refl (mag one + mag x)) (sum_limit x a.size) in
    record {
      hi_is = unfold from_exact_add in refl;
      lo_number = f.lo_number;
      lo_small = few (mag (from_exact_add one x).lo) (mag one + mag x) (mag (one ⊕ x)) f.lo_small (sum_least x a.number a.above a.size a.sum);
      near_low = unfold from_exact_add in low_near x a h;
    }

-- ---- x above 1: the sum is the other way round, and no nearer to 1 than 2
too_far : (p q s W : ℕ) → W ≡ s * 2 ^ 53 → W ≤ p → q ≤ 3 * 2 ^ 52 * s → (W + p) * 2 ^ 53 ≤ q * 2 ^ 53 + (W + p) → s ≡ 0
too_far p q s W w l m h = second p q s W w l m (first (W + p) q h)
  where
    first : (a q : ℕ) → a * 2 ^ 53 ≤ q * 2 ^ 53 + a → 7 * a ≤ 8 * q
    first a q h = omega arith

    second : (p q s W : ℕ) → W ≡ s * 2 ^ 53 → W ≤ p → q ≤ 3 * 2 ^ 52 * s → 7 * (W + p) ≤ 8 * q → s ≡ 0
    second p q s W w l m h = omega arith

-- with o for 1
plain_terms : (p n q m o k W : ℕ) → o + k ≡ W → k ≡ 0 → m ≡ 0 → n ≡ 0 → (m + (o + p)) * 2 ^ 53 ≤ (q + (k + n)) * 2 ^ 53 + (o + k + (p + n)) → (W + p) * 2 ^ 53 ≤ q * 2 ^ 53 + (W + p)
plain_terms p n q m o k W e z y x h = omega arith

not_negative : (p n W : ℕ) → (p ≡ 0) ⊎ (n ≡ 0) → n + W ≤ p → n ≡ 0
not_negative p n W (inl e) h = omega arith
not_negative p n W (inr e) h = e

pub parted_high : (x : Float) → Above x → T (le one x) → Parted x (from_exact_add x one)
parted_high x a h =
    let d = mag x + mag one in
    let turn : d ≡ mag one + mag x = add_comm (mag x) (mag one) in
    let f = fast_sum d a.number one_is_1.number (le_refl d) (subst (λ (k : ℕ). 2 * k ≤ limit) (sym turn) (sum_limit x a.size)) in
    record {
      hi_is = unfold from_exact_add in add_turned binary64 x one;
      lo_number = f.lo_number;
      lo_small = few (mag (from_exact_add x one).lo) d (mag (one ⊕ x)) f.lo_small (le_trans (le_of_eq turn) (sum_least x a.number a.above a.size a.sum));
      near_low = λ σ s g p. absurd (impossible p);
    }
  where
    impossible : Positive (2 ^ 52) (3 * 2 ^ 52) (one ⊕ x) → ⊥
    impossible p =
        let c = one_plus_near x a.number a.size in
        let l = least (plus x) (less x) (plus one) (less one) per_one one_mag one_is_1.clear (le_units one x one_is_1.number a.number h) in
        let n = not_negative (plus x) (less x) per_one (one_side x) l in
        none S S_pos
        (too_far (plus x) (plus (one ⊕ x)) S per_one one_is (over (plus x) (less x) per_one l) p.most (plain_terms (plus x) (less x) (plus (one ⊕ x)) (less (one ⊕ x)) (plus one) (less one) per_one one_mag one_is_1.clear p.clear n c.least))
      where
        none : (s : ℕ) → 0 < s → s ≡ 0 → ⊥
        none s h e = omega arith

        least : (p n o k W : ℕ) → o + k ≡ W → k ≡ 0 → o + n ≤ p + k → n + W ≤ p
        least p n o k W e z h = omega arith

        over : (p n W : ℕ) → n + W ≤ p → W ≤ p
        over p n W h = omega arith
