-- The two ends of the bound: E × (1 - 2^-k) and E × (1 + 2^-k), rounded to f32, for a k that is not too large (`SmallEnough`). What is within 33 factors of E
-- lies between them once narrowed (`between`), so does 0 where the reciprocal leaves the normal range of f64 (`around_zero`), and so does 1 where E is
-- within 16 factors (2^29 - 1) / 2^29 of 1 (`around_one`). Assumes nothing.
use mathlib.Core.Path.{◌≡◌, refl, sym, ap, ◌∙◌, subst}
use mathlib.Core.Bool.{true, false}
use Prim.Native.Nat.{ℕ, ◌+◌, ◌-◌, ◌*◌, ◌^◌, ◌≤◌, ◌<◌}
use native.Mathlib.Nat.{le_antisymm, le_trans, le_of_lt, le_of_eq, one-mul, mul-pos, mul-le-mul_left, mul-le-mul_right, le_of_mul-le-mul_right}
use native.Mathlib.Omega.{arith}
use lib.Dec.{T, lit≤, lit<}
use lib.IntN.{negsuc}
use lib.Pow.{pow_pos}
use lib.Ieee.{Float, nan, inf, fin, binary32, binary64, up, down, round, lt, le, eq, fits, of_bits}
use lib.Ieee.Bits.{of_bits-to_bits}
use lib.Ieee.Fits.{down_pos, round-fits}
use lib.Ieee.Order.{round_mono}
use Rattle.floats.specs.Narrowing.{narrowed, nearest_f32}
use Rattle.floats.proofs.Laws.Compare.{at_most}
use Rattle.floats.proofs.Laws.Order.{clear, pattern_mono, round_clear, round_at_most}
use Rattle.special.specs.Special as Special
use Rattle.answers.specs.Exact.{Fraction}
use Rattle.answers.specs.Claims.{Near}
use Rattle.answers.proofs.Whole.Factors.{WithinFactors}
use Rattle.answers.proofs.Whole.Within.{near, full, Within}

-- What is asked of k. 33 factors change a fraction by 2^-k of it at most (`lower`, `upper`). What is within them of 2^-1022, times 1 - 2^-k, is 2^-150 at
-- most (`zero`). And what is within 16 factors (2^29 - 1) / 2^29 of 1, times 1 - 2^-k, is 1 + 2^-25 at most, and times 1 + 2^-k, 1 - 2^-25 at least
-- (`lower_one`, `upper_one`).
pub record SmallEnough (k : ℕ) : Type 0 where
  pub lower : (2 ^ k - 1) * full ^ 33 ≤ 2 ^ k * near ^ 33
  pub upper : 2 ^ k * full ^ 33 ≤ (2 ^ k + 1) * near ^ 33
  pub zero : 2 ^ 52 * full ^ 33 * (2 ^ k - 1) * 2 ^ 150 ≤ 2 ^ k * near ^ 33 * 2 ^ 1074
  pub lower_one : (2 ^ k - 1) * 2 ^ 25 * (2 ^ 29) ^ 16 ≤ (2 ^ 25 + 1) * 2 ^ k * (2 ^ 29 - 1) ^ 16
  pub upper_one : (2 ^ 25 - 1) * 2 ^ k * (2 ^ 29) ^ 16 ≤ (2 ^ k + 1) * 2 ^ 25 * (2 ^ 29 - 1) ^ 16

-- ---- within 33 factors
lower_end_reached : (A C a c i I u U : ℕ) → 0 < I → u * I ≤ U * i → A * c * i ≤ a * C * I → A * u * c ≤ a * (C * U)
lower_end_reached A C a c i I u U P l h =
    let x : A * c * (u * I) ≤ A * c * (U * i) = mul-le-mul_left (A * c) l in
    let y : A * c * i * U ≤ a * C * I * U = mul-le-mul_right U h in
    le_of_mul-le-mul_right {k = I} (omega arith) P

upper_end_reached : (A C a c i I u U : ℕ) → 0 < i → U * I ≤ u * i → a * C * i ≤ A * c * I → a * (C * U) ≤ A * u * c
upper_end_reached A C a c i I u U P l h =
    let x : A * c * (U * I) ≤ A * c * (u * i) = mul-le-mul_left (A * c) l in
    let y : a * C * i * U ≤ A * c * I * U = mul-le-mul_right U h in
    le_of_mul-le-mul_right {k = i} (omega arith) P

pub between : {k : ℕ} → SmallEnough k → (E : Fraction) (v : Float) → 0 < E.bottom → Within 33 E.top E.bottom v → Near k E (narrowed v)
unfolding Near nearest_f32 narrowed
between {k} fine E v P w =
    let a = w.digits * up w.exponent in
    let c = down w.exponent in
    subst (Near k E) (sym (ap narrowed w.is)) (
      round_mono binary32 (E.top * (2 ^ k - 1)) (E.bottom * 2 ^ k) a c (mul-pos P (pow_pos k)) (down_pos w.exponent)
          (lower_end_reached E.top E.bottom a c (near ^ 33) (full ^ 33) (2 ^ k - 1) (2 ^ k) (lit< tt) fine.lower w.close.below),
      round_mono binary32 a c (E.top * (2 ^ k + 1)) (E.bottom * 2 ^ k) (down_pos w.exponent) (mul-pos P (pow_pos k))
          (upper_end_reached E.top E.bottom a c (near ^ 33) (full ^ 33) (2 ^ k + 1) (2 ^ k) (lit< tt) fine.upper w.close.above),
    )

-- ---- zero
-- 0 is at most what any fraction rounds to
from_zero : (a c : ℕ) → 0 < c → T (le Special.zero (round binary32 false a c))
unfolding round
from_zero a c C = round_mono binary32 0 1 a c (lit< tt) C (omega arith)

-- what is at most 2^-150 rounds to 0
vanishes : (a c : ℕ) → 0 < c → a * 2 ^ 150 ≤ c → round binary32 false a c ≡ Special.zero
unfolding round fits
vanishes a c C h =
    sym (of_bits-to_bits binary32 (round binary32 false a c) (round-fits binary32 false a c))
    ∙ ap (of_bits binary32)
    (le_antisymm
    (pattern_mono binary32 (round binary32 false a c) Special.zero (round_clear binary32 a c) tt (round-fits binary32 false a c) tt
    (round_mono binary32 a c 1 (2 ^ 150) C (lit< tt) (le_trans h (le_of_eq (sym (one-mul c))))))
    (pattern_mono binary32 Special.zero (round binary32 false a c) tt (round_clear binary32 a c) tt (round-fits binary32 false a c) (from_zero a c C)))
    ∙ of_bits-to_bits binary32 Special.zero tt

-- below 2^-1022 a value narrows to 0
narrow_zero : (v : Float) → T (clear v) → T (le v (fin false 1 (negsuc 1021))) → narrowed v ≡ Special.zero
unfolding le lt eq narrowed
narrow_zero nan p h = absurd p
narrow_zero (inf true) p h = absurd p
narrow_zero (inf false) p h = absurd h
narrow_zero (fin true m e) p h = absurd p
narrow_zero (fin false m e) p h =
    vanishes (m * up e) (down e) (down_pos e)
    (le_trans (mul-le-mul_left (m * up e) (lit≤ tt)) (le_trans (at_most (m * up e * 2 ^ 1022) (1 * 1 * down e) h) (le_of_eq (one-mul (down e)))))

-- c / a is below M / L, in units and as a fraction
lowest : (a c x y u : ℕ) → 0 < u → x * u ≡ y → c * y < u * a → c * x ≤ 1 * a
lowest a c x y u P e h =
    let z : c * (x * u) ≡ c * y = ap (λ (t : ℕ). c * t) e in
    le_of_mul-le-mul_right {k = u} (omega arith) P

lower_zero : (a c A C i I u U L M N : ℕ) → 0 < c → 0 < i * L → M * I * u * N ≤ U * i * L → c * L < M * a → a * C * i ≤ A * c * I → C * u * N ≤ A * U
lower_zero a c A C i I u U L M N P Q l g h =
    let x : c * L * (C * i) ≤ M * a * (C * i) = mul-le-mul_right (C * i) (le_of_lt g) in
    let y : a * C * i * M ≤ A * c * I * M = mul-le-mul_right M h in
    let z : L * C * i ≤ A * I * M = le_of_mul-le-mul_right {k = c} (omega arith) P in
    let v : L * C * i * (u * N) ≤ A * I * M * (u * N) = mul-le-mul_right (u * N) z in
    let w : A * (M * I * u * N) ≤ A * (U * i * L) = mul-le-mul_left A l in
    le_of_mul-le-mul_right {k = i * L} (omega arith) Q

-- E is near to c / a, which is below 2^-1022
pub around_zero : {k : ℕ} → SmallEnough k → (E : Fraction) (a c : ℕ) (v : Float) → 0 < E.bottom → 0 < a → 0 < c → WithinFactors near full 33 a c E.bottom E.top → c * 2 ^ 1074 < 2 ^ 52 * a
    → v ≡ round binary64 false c a → Near k E (narrowed v)
unfolding Near nearest_f32 fits le
around_zero {k} fine E a c v P A C w h e =
    subst (Near k E) (sym (ap narrowed e ∙ narrow_zero (round binary64 false c a) (round_clear binary64 c a) small)) (
      subst (λ (x : Float). T (le x Special.zero)) (sym (vanishes (E.top * (2 ^ k - 1)) (E.bottom * 2 ^ k) bottom low)) tt,
      from_zero (E.top * (2 ^ k + 1)) (E.bottom * 2 ^ k) bottom,
    )
  where
    bottom : 0 < E.bottom * 2 ^ k
    bottom = mul-pos P (pow_pos k)

    small : T (le (round binary64 false c a) (fin false 1 (negsuc 1021)))
    small = round_at_most binary64 (fin false 1 (negsuc 1021)) c a 1 (2 ^ 1022) A (lit< tt) tt (refl, refl) (lowest a c (2 ^ 1022) (2 ^ 1074) (2 ^ 52) (lit< tt) refl h)

    low : E.top * (2 ^ k - 1) * 2 ^ 150 ≤ E.bottom * 2 ^ k
    low = lower_zero a c E.bottom E.top (near ^ 33) (full ^ 33) (2 ^ k - 1) (2 ^ k) (2 ^ 1074) (2 ^ 52) (2 ^ 150) C (lit< tt) fine.zero h w.above

-- ---- one
-- 1 + 2^-25 and 1 - 2^-25 round to 1
under_one : (A C k K u U w W : ℕ) → 0 < k → u * w * K ≤ W * U * k → A * 1 * k ≤ 1 * C * K → A * u * w ≤ W * (C * U)
under_one A C k K u U w W P l h =
    let x : A * 1 * k * (u * w) ≤ 1 * C * K * (u * w) = mul-le-mul_right (u * w) h in
    let y : C * (u * w * K) ≤ C * (W * U * k) = mul-le-mul_left C l in
    le_of_mul-le-mul_right {k = k} (omega arith) P

over_one : (A C k K u U w W : ℕ) → 0 < K → W * U * K ≤ u * w * k → 1 * C * k ≤ A * 1 * K → W * (C * U) ≤ A * u * w
over_one A C k K u U w W P l h =
    let x : 1 * C * k * (u * w) ≤ A * 1 * K * (u * w) = mul-le-mul_right (u * w) h in
    let y : C * (W * U * K) ≤ C * (u * w * k) = mul-le-mul_left C l in
    le_of_mul-le-mul_right {k = K} (omega arith) P

pub around_one : {k : ℕ} → SmallEnough k → (E : Fraction) → 0 < E.bottom → WithinFactors (2 ^ 29 - 1) (2 ^ 29) 16 E.top E.bottom 1 1 → Near k E Special.one
unfolding Near nearest_f32 round
around_one {k} fine E P h = (
  round_mono binary32 (E.top * (2 ^ k - 1)) (E.bottom * 2 ^ k) (2 ^ 25 + 1) (2 ^ 25) (mul-pos P (pow_pos k)) (lit< tt)
      (under_one E.top E.bottom ((2 ^ 29 - 1) ^ 16) ((2 ^ 29) ^ 16) (2 ^ k - 1) (2 ^ k) (2 ^ 25) (2 ^ 25 + 1) (lit< tt) fine.lower_one h.above),
  round_mono binary32 (2 ^ 25 - 1) (2 ^ 25) (E.top * (2 ^ k + 1)) (E.bottom * 2 ^ k) (lit< tt) (mul-pos P (pow_pos k))
      (over_one E.top E.bottom ((2 ^ 29 - 1) ^ 16) ((2 ^ 29) ^ 16) (2 ^ k + 1) (2 ^ k) (2 ^ 25) (2 ^ 25 - 1) (lit< tt) fine.upper_one h.below),
)
