-- The accurate logarithm beside the plain one for |x| from 2^-29 up (`kept_own`); and times y beside a plain k times y, t': where |t'| is at most 150, hi is 2^-29 from t' at most, and lo at most 2^-30 in
-- size (`times_beside`); where |t'| is at most 2^-16, hi is 2^-52 from t' at most, and lo at most 2^-53 in size (`times_fine`). Assumes nothing.
use Rattle.std.proofs.Common.{◌≡◌, ℕ, ◌+◌, ◌*◌, ◌/◌, ◌^◌, ◌<◌, ◌≤◌, refl, sym, ap, ◌∙◌, ◌⊎◌, inl, inr, le_trans, le_of_eq, mul_assoc, mul-le-mul_right, arith, T, leb, leb→le, lit≤, lit<}
use lib.Ieee.{Float, binary32, fits, le, lt}
use lib.Ieee.Scale.{finite}
use Rattle.floats.specs.Operations.{◌⊗◌}
use Rattle.floats.specs.OnBits.{absolute}
use Rattle.double_double.specs.declared.DoubleDouble.{DoubleDouble}
use Rattle.double_double.specs.DoubleDouble.{from_exact_mult, quick_mult_f64}
use Rattle.special.specs.Special.{minus_one}
use Rattle.fast_path.specs.Fast.{compoundf_log2p1_fast}
use Rattle.slow_path.specs.Slow.{compoundf_log2p1_accurate}
use Rattle.slow_path.proofs.Logs.{Logs}
use Rattle.slow_path.proofs.Exponent.{ν, y_own, through_sized, through}
use Rattle.bounds.proofs.Values.{plus, less, mag, one_side, Number}
use Rattle.bounds.proofs.Scales.{S, one_is, unit, Scale, ProductScale, Bound, Bounds, at, onto, product_k, quick_f64_lo_k, quick_f64_bounds}
use Rattle.bounds.proofs.Distances.{Apart, bound_near}
use Rattle.bounds.proofs.Apart.{apart_same, product_apart_k, product_apart}
use Rattle.filter.specs.Plain.{plain_log2p1}
use Rattle.filter.proofs.Logarithm.{LogBeside, log_beside}
use Rattle.filter.proofs.Times.{Single}
use Rattle.slow_filter.specs.PlainSlow.{kept_from}
use Rattle.slow_filter.proofs.Logarithms.{Beside, logarithms, on_one_scale}
use Rattle.slow_filter.proofs.Regrouped.{turned_sides}
use Rattle.slow_filter.proofs.LogOwn.{LogOwn, own_bound}
use Rattle.slow_filter.proofs.Fine.{onto_apart}

pub record AccurateBeside (t : DoubleDouble) (t' : Float) : Type 0 where
  pub number : Number t.hi
  pub near : Apart S (2 ^ 24) t.hi t'
  pub low : Bound S (2 ^ 23) t.lo

pub record FineBeside (t : DoubleDouble) (t' : Float) : Type 0 where
  pub number : Number t.hi
  pub near : Apart S 2 t.hi t'
  pub low : Bound S 1 t.lo

-- ---- the two logarithms
-- h is l, and l is k: with p - n for each
joined : (ph nh pl nl pk nk ml mk : ℕ) → (ph + nl) * 2 ^ 53 ≤ (nh + pl) * 2 ^ 53 + 100000 * ml → (pl + nk) * 2 ^ 40 ≤ (nl + pk) * 2 ^ 40 + mk → ml * 2 ^ 40 ≤ mk * 2 ^ 40 + mk
    → (ph + nk) * 2 ^ 53 ≤ (nh + pk) * 2 ^ 53 + 108193 * mk
joined ph nh pl nl pk nk ml mk f g h = omega arith

-- |l| is |k|, and a 2^40th of it, at most
sized : (p n q m : ℕ) → (p ≡ 0) ⊎ (n ≡ 0) → (p + m) * 2 ^ 40 ≤ (n + q) * 2 ^ 40 + (q + m) → (n + q) * 2 ^ 40 ≤ (p + m) * 2 ^ 40 + (q + m) → (p + n) * 2 ^ 40 ≤ (q + m) * 2 ^ 40 + (q + m)
sized p n q m (inl e) g h = omega arith
sized p n q m (inr e) g h = omega arith

-- on the scale of k: 2^53 is k, but for less than 1
on_scale : (a b m : ℕ) → 2 ^ 110 ≤ m → a * 2 ^ 53 ≤ b * 2 ^ 53 + 108193 * m → a ≤ b + 108194 * (m / 2 ^ 53)
on_scale a b m g h = omega arith

module _ (x : Float) (f : T (fits binary32 x)) (p : T (finite x)) (h : T (lt minus_one x)) (l : T (le kept_from (absolute x))) where
  abbrev fast : Float
  fast = compoundf_log2p1_fast x

  abbrev plain : Float
  plain = plain_log2p1 x

  abbrev accurate : DoubleDouble
  accurate = compoundf_log2p1_accurate x

  near : Beside accurate.hi fast
  near = logarithms x f p h l

  logs : Logs fast accurate
  logs = on_one_scale x f p h l

  beside : LogBeside fast plain
  beside = log_beside x f p h

  fast_size : mag fast * 2 ^ 40 ≤ mag plain * 2 ^ 40 + mag plain
  fast_size = sized (plus fast) (less fast) (plus plain) (less plain) (one_side fast) beside.near.over beside.near.under

  large : 2 ^ 110 ≤ mag plain
  large = go beside.some
    where
      none : (a b : ℕ) → 0 < a → a * 2 ^ 40 ≤ b * 2 ^ 40 + b → b ≡ 0 → ⊥
      none a b g h e = omega arith

      go : (mag plain ≡ 0) ⊎ (2 ^ 1000 ≤ mag plain) → 2 ^ 110 ≤ mag plain
      go (inl e) = absurd (none (mag fast) (mag plain) near.some fast_size e)
      go (inr g) = le_trans (lit≤ tt) g

  -- ---- on the scale of the plain one
  scale : Scale (mag plain / 2 ^ 53)
  unfolding S
  scale = record { positive = some (mag plain) large; bounded = le_trans (less_than (mag plain)) (le_trans beside.plain_size.size (lit≤ tt)) }
    where
      some : (m : ℕ) → 2 ^ 110 ≤ m → 0 < m / 2 ^ 53
      some m h = omega arith

      less_than : (m : ℕ) → m / 2 ^ 53 ≤ m
      less_than m = omega arith

  high_apart : Apart (mag plain / 2 ^ 53) 108194 accurate.hi plain
  high_apart = record {
    over = on_scale (plus accurate.hi + less plain) (less accurate.hi + plus plain) (mag plain) large
        (joined (plus accurate.hi) (less accurate.hi) (plus fast) (less fast) (plus plain) (less plain) (mag fast) (mag plain) near.over beside.near.over fast_size);
    under = turned_sides (plus plain) (less plain) (plus accurate.hi) (less accurate.hi) _
        (on_scale (less accurate.hi + plus plain) (plus accurate.hi + less plain) (mag plain) large
        (joined (less accurate.hi) (plus accurate.hi) (less fast) (plus fast) (less plain) (plus plain) (mag fast) (mag plain) near.under beside.near.under fast_size));
  }

  bounds : Bounds (mag plain / 2 ^ 53) (2 ^ 54) (2 ^ 15 + 1) accurate
  bounds = record {
    hi = at (2 ^ 54) (bound_near logs.accurate.hi.number high_apart (own_bound plain large beside.plain_size.number scale)) tt;
    lo = record { scale = scale; number = logs.accurate.lo.number; size = low (mag accurate.lo) logs.μ (mag fast) (mag plain) logs.accurate.lo.size logs.size fast_size large };
  }
    where
      low : (m μ a b : ℕ) → m ≤ 2 ^ 14 * μ → 2 ^ 53 * μ ≤ a → a * 2 ^ 40 ≤ b * 2 ^ 40 + b → 2 ^ 110 ≤ b → m ≤ (2 ^ 15 + 1) * (b / 2 ^ 53)
      low m μ a b g h i k = second m μ b g (first μ a b h i) k
        where
          first : (μ a b : ℕ) → 2 ^ 53 * μ ≤ a → a * 2 ^ 40 ≤ b * 2 ^ 40 + b → 2 ^ 53 * μ ≤ 2 * b
          first μ a b h i = omega arith

          second : (m μ b : ℕ) → m ≤ 2 ^ 14 * μ → 2 ^ 53 * μ ≤ 2 * b → 2 ^ 110 ≤ b → m ≤ (2 ^ 15 + 1) * (b / 2 ^ 53)
          second m μ b g h k = omega arith

  pub kept_own : LogOwn accurate plain
  kept_own = record { large = large; sized = beside.plain_size; near = high_apart; parts = bounds }

-- ---- times y
-- the unit for small products: 2^-75
unfoldable fine : ℕ
fine = 2 ^ 999

fine_is : S ≡ fine * 2 ^ 22
unfolding S fine
fine_is = refl

module _ {accurate : DoubleDouble} {k y : Float} (o : LogOwn accurate k) (s : Single y) where
  own : Bound (ν y) (2 ^ 53) y
  own = y_own y s.number s.most

  whole : (m : ℕ) → 2 ^ 53 * (m / 2 ^ 53) ≤ m
  whole m = omega arith

  -- on a scale of the product
  module _ {π : ℕ} (product : ProductScale (mag k / 2 ^ 53) (ν y) π) where
    high : Apart π (product_apart_k 108194 0 (2 ^ 54) (2 ^ 53) (2 ^ 53 + 1) (2 ^ 53)) (quick_mult_f64 accurate y).hi (k ⊗ y)
    unfolding quick_mult_f64 from_exact_mult
    high = product_apart product o.near (apart_same y) o.parts.hi own (own_bound k o.large o.sized.number o.parts.hi.scale) own tt

    parts : Bounds π (product_k (2 ^ 54) (2 ^ 53)) (quick_f64_lo_k (2 ^ 54) (2 ^ 15 + 1) (2 ^ 53)) (quick_mult_f64 accurate y)
    parts = quick_f64_bounds product o.parts own tt

  -- |t'| at most 150: on the scale of 152
  module _ (b : Bound S (150 * 2 ^ 53) (k ⊗ y)) where
    product : ProductScale (mag k / 2 ^ 53) (ν y) (152 * S)
    product = through k y (mag k / 2 ^ 53) (whole (mag k)) o.sized s.number s.most (le_trans b.size (le_of_eq (turn S ∙ ap (λ (w : ℕ). 150 * w) (sym one_is))))
      where
        turn : (s : ℕ) → 150 * 2 ^ 53 * s ≡ 150 * (s * 2 ^ 53)
        turn s = omega arith

    -- 152 times a number, on the scale of 1
    on_one : (K M : ℕ) → T (leb (K * 152) M) → K * (152 * S) ≤ M * S
    on_one K M t = le_trans (le_of_eq (sym (mul_assoc K 152 S))) (mul-le-mul_right S (leb→le (K * 152) M t))

    pub times_beside : AccurateBeside (quick_mult_f64 accurate y) (k ⊗ y)
    times_beside =
        let t = parts product in
        record {
          number = t.hi.number;
          near = onto_apart (high product) (on_one (product_apart_k 108194 0 (2 ^ 54) (2 ^ 53) (2 ^ 53 + 1) (2 ^ 53)) (2 ^ 24) tt);
          low = onto S (2 ^ 23) unit t.lo (on_one (quick_f64_lo_k (2 ^ 54) (2 ^ 15 + 1) (2 ^ 53)) (2 ^ 23) tt);
        }

  -- |t'| at most 2^-16: on the scale of 66 × 2^-22
  module _ (b : Bound S (2 ^ 37) (k ⊗ y)) where
    small_product : ProductScale (mag k / 2 ^ 53) (ν y) (66 * fine)
    small_product = through_sized k y (mag k / 2 ^ 53) (whole (mag k)) o.sized s.number s.most 64 fine (lit≤ tt) some (le_trans b.size (le_of_eq (ap (λ (w : ℕ). 2 ^ 37 * w) fine_is ∙ turn fine))) scale
      where
        some : 512 ≤ fine
        some = unfold fine in lit≤ tt

        scale : Scale (66 * fine)
        scale = unfold fine in record { positive = lit< tt; bounded = lit≤ tt }

        turn : (u : ℕ) → 2 ^ 37 * (u * 2 ^ 22) ≡ 64 * (u * 2 ^ 53)
        turn u = omega arith

    -- 66 × 2^-22 times a number, on the scale of 1
    on_fine : (K M : ℕ) → T (leb (K * 66) (M * 2 ^ 22)) → K * (66 * fine) ≤ M * S
    on_fine K M t = le_trans (le_of_eq (sym (mul_assoc K 66 fine))) (le_trans (mul-le-mul_right fine (leb→le (K * 66) (M * 2 ^ 22) t)) (le_of_eq (turn M fine ∙ ap (λ (w : ℕ). M * w) (sym fine_is))))
      where
        turn : (M u : ℕ) → M * 2 ^ 22 * u ≡ M * (u * 2 ^ 22)
        turn M u = omega arith

    pub times_fine : FineBeside (quick_mult_f64 accurate y) (k ⊗ y)
    times_fine =
        let t = parts small_product in
        record {
          number = t.hi.number;
          near = onto_apart (high small_product) (on_fine (product_apart_k 108194 0 (2 ^ 54) (2 ^ 53) (2 ^ 53 + 1) (2 ^ 53)) 2 tt);
          low = onto S 1 unit t.lo (on_fine (quick_f64_lo_k (2 ^ 54) (2 ^ 15 + 1) (2 ^ 53)) 1 tt);
        }
