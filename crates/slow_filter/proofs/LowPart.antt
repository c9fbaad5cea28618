-- 1 + x as the accurate logarithm has it, for an |x| from 2^-29 up: below 2^52 the f64 sum is exact and lo is 0, and from there on lo is a 2^50th of the sum at most (`low_cases`).
-- Assumes nothing.
use Rattle.std.proofs.Common.{◌≡◌, ℕ, ◌+◌, ◌-◌, ◌*◌, ◌^◌, ◌<◌, ◌≤◌, refl, sym, ap, ap₂, ◌∙◌, subst, ◌⊎◌, inl, inr, Bool, true, false, not, cond, le_refl, le_trans, le_of_eq, le_of_lt, lt_of_lt_of_le, lt_of_le_of_lt, mul_assoc, lt_of_mul-lt-mul_right, add_comm, one-mul, not-le_of_lt, arith, T, leb, ltb, leb→le, ltb→lt, nltb→le, lit≤, pow-add, pow_mono, shl_lt, pos, negsuc}
use lib.Dec.{nleb→lt}
use lib.Ieee.{Float, nan, inf, fin, binary32, fits, le, lt}
use lib.Ieee.Bits.{is_true}
use lib.Ieee.Scale.{finite}
use Rattle.floats.specs.Operations.{◌⊕◌}
use Rattle.floats.specs.Narrowing.{narrowed}
use Rattle.floats.specs.OnBits.{absolute}
use Rattle.floats.proofs.Laws.Narrow.{narrowed_same}
use Rattle.floats.proofs.Laws.Units.{exponent, fits_digits}
use Rattle.double_double.specs.declared.DoubleDouble.{DoubleDouble}
use Rattle.double_double.specs.DoubleDouble.{from_exact_add}
use Rattle.special.specs.Special.{one, minus_one}
use Rattle.slow_path.specs.Slow.{one_plus}
use Rattle.slow_path.proofs.LowPart.{one_is_1, one_mag, sum_limit, one_plus_near}
use Rattle.slow_path.proofs.OnePlusParts.{Above, above_of, absolute_units, size_least, Parted, parted_low, parted_high}
use Rattle.bounds.proofs.Values.{per_one, per_one_pos, plus, less, mag, mag_of, one_side, Number}
use Rattle.bounds.proofs.Operation.{Same}
use Rattle.bounds.proofs.Sums.{fast_sum}
use Rattle.bounds.proofs.Scales.{S, S_pos, one_is}
use Rattle.bounds.proofs.Compared.{Positive, positive_bound, le_units, le_of_units, le_true, gt_of_not_le}
use Rattle.bounds.proofs.Exactly.{ExactSum, exact_sum, fast_exact}
use Rattle.bounds.proofs.OwnScale.{Nil}
use Rattle.slow_filter.specs.PlainSlow.{kept_from}

-- ---- 1 and x are whole numbers of one power of two, and few of them
record Grid (x : Float) : Type 0 where
  j : ℕ
  A : ℕ
  B : ℕ
  low : j ≤ 1900
  of_one : per_one ≡ A * 2 ^ j
  of_x : mag x ≡ B * 2 ^ j
  A_few : A ≤ 2 ^ 52
  B_few : B < 2 ^ 52

-- x has 24 digits, of which the last is 2^-52 at least
grid_of : {x : Float} (m k : ℕ) → mag x ≡ m * 2 ^ k → m < 2 ^ 24 → 2 ^ 1045 ≤ mag x → mag x < 2 ^ 52 * per_one → Grid x
unfolding per_one
grid_of {x} m k size few l h = go (leb 1022 k) (nleb→lt 1022 k) (leb→le 1022 k)
  where
    shorter : (k : ℕ) → k < 1022 → 24 + k ≤ 1045
    shorter k g = omega arith

    parted : (a b : ℕ) → a ≤ b → 2 ^ b ≡ 2 ^ (b - a) * 2 ^ a
    parted a b g = ap (λ (n : ℕ). 2 ^ n) (back a b g) ∙ pow-add 2 (b - a) a
      where
        back : (a b : ℕ) → a ≤ b → b ≡ b - a + a
        back a b g = omega arith

    rest : (k : ℕ) → 1022 ≤ k → 1074 - k ≤ 52
    rest k g = omega arith

    within : 1022 ≤ k → (u : Bool) → (T u → k ≤ 1074) → (T (not u) → 1074 < k) → Grid x
    within g true y n = record { j = k; A = 2 ^ (1074 - k); B = m; low = le_trans (y tt) (lit≤ tt); of_one = parted k 1074 (y tt); of_x = size; A_few = pow_mono (rest k g); B_few = lt_of_lt_of_le few (lit≤ tt) }
    within g false y n =
        let is : mag x ≡ m * 2 ^ (k - 1074) * 2 ^ 1074 = size ∙ ap (λ (n : ℕ). m * n) (parted 1074 k (le_of_lt (n tt))) ∙ sym (mul_assoc m (2 ^ (k - 1074)) (2 ^ 1074)) in
        record { j = 1074; A = 1; B = m * 2 ^ (k - 1074); low = lit≤ tt; of_one = sym (one-mul (2 ^ 1074)); of_x = is; A_few = lit≤ tt; B_few = lt_of_mul-lt-mul_right (2 ^ 1074) (lt_of_le_of_lt (le_of_eq (sym is)) h) }

    go : (u : Bool) → (T (not u) → k < 1022) → (T u → 1022 ≤ k) → Grid x
    go true n y = within (y tt) (leb k 1074) (leb→le k 1074) (nleb→lt k 1074)
    go false n y = absurd (not-le_of_lt (lt_of_lt_of_le (shl_lt 24 k few) (pow_mono (shorter k (n tt)))) (le_trans l (le_of_eq size)))

grid : (x : Float) → T (fits binary32 x) → T (finite x) → 2 ^ 1045 ≤ mag x → mag x < 2 ^ 52 * per_one → Grid x
grid nan f p l h = absurd p
grid (inf s) f p l h = absurd p
grid (fin s m e) f p l h = grid_of m (exponent 1074 e) (mag_of s (m * 2 ^ exponent 1074 e)) (fits_digits binary32 s m e f) l h

-- so their sum is exact, and lo is 0
sums : {x : Float} → Number x → Grid x → ExactSum one x × ExactSum x one
sums {x} n g = go (one_side x)
  where
    first : (P : ℕ) → plus one + plus x ≡ P → plus x + plus one ≡ P
    first P e = add_comm (plus x) (plus one) ∙ e

    second : (N : ℕ) → less one + less x ≡ N → less x + less one ≡ N
    second N e = add_comm (less x) (less one) ∙ e

    both : (P N : ℕ) → plus one + plus x ≡ P * 2 ^ g.j → less one + less x ≡ N * 2 ^ g.j → P < N + 2 ^ 53 → N < P + 2 ^ 53 → ExactSum one x × ExactSum x one
    both P N e d h i = (exact_sum g.j P N g.low one_is_1.number n e d h i, exact_sum g.j P N g.low n one_is_1.number (first _ e) (second _ d) h i)

    -- with w for 1, and G for the power of two
    above : (o l p m w G A B : ℕ) → o + l ≡ w → l ≡ 0 → m ≡ 0 → w ≡ A * G → p + m ≡ B * G → (o + p ≡ (A + B) * G) × (l + m ≡ 0 * G)
    above o l p m w G A B a b c d e = (omega arith, omega arith)

    below : (o l p m w G A B : ℕ) → o + l ≡ w → l ≡ 0 → p ≡ 0 → w ≡ A * G → p + m ≡ B * G → (o + p ≡ A * G) × (l + m ≡ B * G)
    below o l p m w G A B a b c d e = (omega arith, omega arith)

    few : (A B : ℕ) → A ≤ 2 ^ 52 → B < 2 ^ 52 → (A + B < 0 + 2 ^ 53) × (0 < A + B + 2 ^ 53) × (A < B + 2 ^ 53) × (B < A + 2 ^ 53)
    few A B h i = (omega arith, omega arith, omega arith, omega arith)

    go : (plus x ≡ 0) ⊎ (less x ≡ 0) → ExactSum one x × ExactSum x one
    go (inr e) =
        let w = above (plus one) (less one) (plus x) (less x) per_one (2 ^ g.j) g.A g.B one_mag one_is_1.clear e g.of_one g.of_x in
        let f = few g.A g.B g.A_few g.B_few in
        both (g.A + g.B) 0 w.0 w.1 f.0 f.1
    go (inl e) =
        let w = below (plus one) (less one) (plus x) (less x) per_one (2 ^ g.j) g.A g.B one_mag one_is_1.clear e g.of_one g.of_x in
        let f = few g.A g.B g.A_few g.B_few in
        both g.A g.B w.0 w.1 f.2 f.3

-- what is the same as 0 is
pub nil_of : {z : Float} → Same z (fin false 0 (pos 0)) → Nil z
nil_of s = record { number = s.number; is = ap₂ ◌+◌ s.plus_same s.less_same }

-- ---- the two forms of 1 + x, where x is not lost
-- 2^-53
abbrev pub tiny : Float
tiny = fin false 1 (negsuc 52)

tiny_is : Number tiny × Number kept_from × (plus tiny + less kept_from ≤ plus kept_from + less tiny) × (2 ^ 1045 ≤ plus kept_from) × (less kept_from ≡ 0)
unfolding fits
tiny_is = (record { held = tt; plain = tt }, record { held = tt; plain = tt }, lit≤ tt, lit≤ tt, refl)

module _ (x : Float) (f : T (fits binary32 x)) (p : T (finite x)) (h : T (lt minus_one x)) (l : T (le kept_from (absolute x))) where
  above : Above x
  above = above_of x f p h

  at_least : plus kept_from + less (absolute x) ≤ plus (absolute x) + less kept_from
  at_least = le_units kept_from (absolute x) tiny_is.1 (absolute_units x above.number).0 l

  pub least_size : 2 ^ 1045 ≤ mag x
  least_size = le_trans tiny_is.3 (size_least kept_from x tiny_is.1 tiny_is.4 above.number (is_true _ l))

  not_lost : le tiny (absolute (narrowed x)) ≡ true
  not_lost =
      let w = absolute_units x above.number in
      subst (λ (k : Float). le tiny (absolute k) ≡ true) (sym (narrowed_same x f))
      (le_true tiny_is.0 w.0 (go (plus tiny) (less tiny) (plus kept_from) (less kept_from) (plus (absolute x)) (less (absolute x)) tiny_is.2 at_least))
    where
      go : (p n r l q m : ℕ) → p + l ≤ r + n → r + m ≤ q + l → p + m ≤ q + n
      go p n r l q m g h = omega arith

  forms : (P : DoubleDouble → Type 0) → (T (le x one) → P (from_exact_add one x)) → (T (le one x) → P (from_exact_add x one)) → P (one_plus x)
  unfolding one_plus
  forms P low high = go (le x one) refl (le tiny (absolute (narrowed x))) not_lost
    where
      go : (b : Bool) → le x one ≡ b → (c : Bool) → c ≡ true → P (cond b (cond c (from_exact_add one x) (record { lo = x; hi = one })) (from_exact_add x one))
      go true e c d = subst (λ (k : Bool). P (cond k (from_exact_add one x) (record { lo = x; hi = one }))) (sym d) (low (subst T (sym e) tt))
      go false e c d = high (le_of_units one x one_is_1.number above.number (le_of_lt (gt_of_not_le x one above.number one_is_1.number e)))

  pub parted : Parted x (one_plus x)
  parted = forms (Parted x) (parted_low x above) (parted_high x above)

  -- ---- below 2^52
  pub record Exact : Type 0 where
    pub nil : Nil (one_plus x).lo
    pub sum : ExactSum one x

  exact : mag x < 2 ^ 52 * per_one → Exact
  exact g =
      let s = sums above.number (grid x f p least_size g) in
      record {
        nil = forms (λ (v : DoubleDouble). Nil v.lo) (λ t. nil_of (fast_exact one_is_1.number above.number s.0)) (λ t. nil_of (fast_exact above.number one_is_1.number s.1));
        sum = s.0;
      }

  -- ---- from 2^52 on
  pub record Far : Type 0 where
    pub small : mag (one_plus x).lo * (8 * 2 ^ 47) ≤ mag (one ⊕ x)
    pub apart : Positive (2 ^ 52) (3 * 2 ^ 52) (one ⊕ x) → ⊥

  few : mag (one_plus x).lo * 2 ^ 53 ≤ 4 * (mag one + mag x)
  few = forms (λ (v : DoubleDouble). mag v.lo * 2 ^ 53 ≤ 4 * (mag one + mag x))
      (λ t. (fast_sum (mag one + mag x) one_is_1.number above.number (le_refl (mag one + mag x)) (sum_limit x above.size)).lo_small)
      (λ t. (fast_sum (mag one + mag x) above.number one_is_1.number (le_of_eq (add_comm (mag x) (mag one))) (sum_limit x above.size)).lo_small)

  -- the sum is a half of its terms at least
  sum_size : 2 ^ 52 * per_one ≤ mag x → mag one + mag x ≤ 2 * mag (one ⊕ x)
  sum_size g = go (plus x) (less x) (plus (one ⊕ x)) (less (one ⊕ x)) (plus one) (less one) per_one (one_side x) one_mag one_is_1.clear per_one_pos g above.above (one_plus_near x above.number above.size).least
    where
      clear : (p n w : ℕ) → (p ≡ 0) ⊎ (n ≡ 0) → 0 < w → 2 ^ 52 * w ≤ p + n → n ≤ p + w → n ≡ 0
      clear p n w (inl e) w0 g h = omega arith
      clear p n w (inr e) w0 g h = e

      rest : (p n q m o k : ℕ) → k ≡ 0 → n ≡ 0 → (m + (o + p)) * 2 ^ 53 ≤ (q + (k + n)) * 2 ^ 53 + (o + k + (p + n)) → o + k + (p + n) ≤ 2 * (q + m)
      rest p n q m o k e d h = omega arith

      go : (p n q m o k w : ℕ) → (p ≡ 0) ⊎ (n ≡ 0) → o + k ≡ w → k ≡ 0 → 0 < w → 2 ^ 52 * w ≤ p + n → n ≤ p + w → (m + (o + p)) * 2 ^ 53 ≤ (q + (k + n)) * 2 ^ 53 + (o + k + (p + n)) → o + k + (p + n) ≤ 2 * (q + m)
      go p n q m o k w s a b c d e h = rest p n q m o k b (clear p n w s c d e) h

  far : 2 ^ 52 * per_one ≤ mag x → Far
  far g = record {
    small = go (mag (one_plus x).lo) (mag one + mag x) (mag (one ⊕ x)) few (sum_size g);
    apart = λ q. no (mag one) (mag x) (mag (one ⊕ x)) per_one S one_is S_pos g (sum_size g) (positive_bound q).size;
  }
    where
      go : (l d u : ℕ) → l * 2 ^ 53 ≤ 4 * d → d ≤ 2 * u → l * (8 * 2 ^ 47) ≤ u
      go l d u g h = omega arith

      no : (o x u w s : ℕ) → w ≡ s * 2 ^ 53 → 0 < s → 2 ^ 52 * w ≤ x → o + x ≤ 2 * u → u ≤ 3 * 2 ^ 52 * s → ⊥
      no o x u w s a b c d e = omega arith

  pub low_cases : Exact ⊎ Far
  low_cases = go (ltb (mag x) (2 ^ 52 * per_one)) (ltb→lt (mag x) (2 ^ 52 * per_one)) (nltb→le (mag x) (2 ^ 52 * per_one))
    where
      go : (u : Bool) → (T u → mag x < 2 ^ 52 * per_one) → (T (not u) → 2 ^ 52 * per_one ≤ mag x) → Exact ⊎ Far
      go true y n = inl (exact (y tt))
      go false y n = inr (far (n tt))
