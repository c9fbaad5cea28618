-- t from 5/8 to 3/2 in two parts: hi is a whole number of 2^-26, and lo, the rest of it exactly, at most 2^-24 (`Halved`). Such are the parts that `split` makes (`split_halved`), and
-- those of t + 2^26 - 2^26 (`cut_halved`). Assumes nothing.
use Rattle.std.proofs.Common.{◌≡◌, ℕ, ◌+◌, ◌-◌, ◌*◌, ◌^◌, ◌<◌, ◌≤◌, false, pos, refl, ap, ◌∙◌, subst, le_trans, le_of_eq, le_refl, add-le-add, mul-le-mul_right, le_of_mul-le-mul_right, arith, lit≤}
use lib.Ieee.{Float, fin, neg, sub, fits}
use Rattle.floats.specs.Operations.{◌⊕◌, ◌⊖◌, ◌⊗◌}
use Rattle.double_double.specs.DoubleDouble.{splitter, split}
use Rattle.bounds.proofs.Values.{plus, less, mag, Number, neg_plus, neg_less}
use Rattle.bounds.proofs.Operation.{Small}
use Rattle.bounds.proofs.Scales.{S, S_pos, neg_bound, add_bound}
use Rattle.bounds.proofs.Distances.{sum_off}
use Rattle.bounds.proofs.Compared.{Positive, tested_positive, positive_at, positive_bound, positive_mul, positive_sum}
use Rattle.bounds.proofs.Exactly.{Around}
use Rattle.bounds.proofs.Grids.{Grid, grid53, Count, count_as, finer, count_neg, on_grid, count_sum, count_difference}

-- 2^-26 in units
unfoldable pub unit26 : ℕ
unit26 = 2 ^ 1048

pub grid26 : Grid unit26
unfolding unit26
grid26 = record { digits = 1048; is = refl; low = lit≤ tt }

pub unit26_53 : unit26 ≡ 2 ^ 27 * S
unfolding unit26 S
unit26_53 = refl

-- t is T × 2^-53, hi is H × 2^-26 and lo what is left
pub record Halved (T : ℕ) (h l : Float) : Type 0 where
  pub H : ℕ
  pub few : H ≤ 2 ^ 28
  pub hi : Count unit26 H 0 h
  pub lo : Count S T (H * 2 ^ 27) l
  pub upper : T ≤ H * 2 ^ 27 + 2 ^ 29
  pub lower : H * 2 ^ 27 ≤ T + 2 ^ 29

-- the sum of two on the unit26 grid, not far from t
halved : {T p n q m : ℕ} {t x y : Float} → Count S T 0 t → 2 ^ 52 ≤ T → T ≤ 3 * 2 ^ 52 → Count unit26 p n x → Count unit26 q m y → Small (plus x + plus y + less t) (less x + less y + plus t) (2 ^ 29 * S) → Halved T (x ⊕ y) (t ⊖ (x ⊕ y))
halved {T} {p} {n} {q} {m} {t} {x} {y} c least most a b near =
    let over = le_of_mul-le-mul_right (in_parts (plus x) (less x) (plus y) (less y) (plus t) (less t) p n q m T S unit26 unit26_53 a.is b.is c.is near.upper) S_pos in
    let under = le_of_mul-le-mul_right (from_parts (plus x) (less x) (plus y) (less y) (plus t) (less t) p n q m T S unit26 unit26_53 a.is b.is c.is near.lower) S_pos in
    let r = range (p + q) (n + m) T least most over under in
    let H = p + q - (n + m) in
    let h : Count unit26 H 0 (x ⊕ y) = count_as H 0 (count_sum grid26 a b r.0 r.1) r.2 in
    let l = size H (p + q) (n + m) T r.2 least most over under in
    record {
      H = H;
      few = l.0;
      hi = h;
      lo = count_as T (H * 2 ^ 27) (count_difference grid53 c (finer (2 ^ 27) S unit26_53 h) l.3 l.4) (same T (H * 2 ^ 27));
      upper = l.1;
      lower = l.2;
    }
  where
    in_parts : (px nx py ny pt nt p n q m T s g : ℕ) → g ≡ 2 ^ 27 * s → px + n * g ≡ nx + p * g → py + m * g ≡ ny + q * g → pt + 0 * s ≡ nt + T * s → px + py + nt ≤ nx + ny + pt + 2 ^ 29 * s
        → (p + q) * 2 ^ 27 * s ≤ ((n + m) * 2 ^ 27 + T + 2 ^ 29) * s
    in_parts px nx py ny pt nt p n q m T s g e a b c h = go (subst (λ (g : ℕ). px + n * g ≡ nx + p * g) e a) (subst (λ (g : ℕ). py + m * g ≡ ny + q * g) e b)
      where
        go : px + n * (2 ^ 27 * s) ≡ nx + p * (2 ^ 27 * s) → py + m * (2 ^ 27 * s) ≡ ny + q * (2 ^ 27 * s) → (p + q) * 2 ^ 27 * s ≤ ((n + m) * 2 ^ 27 + T + 2 ^ 29) * s
        go a b = omega (arith, a, b, c, h)

    from_parts : (px nx py ny pt nt p n q m T s g : ℕ) → g ≡ 2 ^ 27 * s → px + n * g ≡ nx + p * g → py + m * g ≡ ny + q * g → pt + 0 * s ≡ nt + T * s → nx + ny + pt ≤ px + py + nt + 2 ^ 29 * s
        → ((n + m) * 2 ^ 27 + T) * s ≤ ((p + q) * 2 ^ 27 + 2 ^ 29) * s
    from_parts px nx py ny pt nt p n q m T s g e a b c h = go (subst (λ (g : ℕ). px + n * g ≡ nx + p * g) e a) (subst (λ (g : ℕ). py + m * g ≡ ny + q * g) e b)
      where
        go : px + n * (2 ^ 27 * s) ≡ nx + p * (2 ^ 27 * s) → py + m * (2 ^ 27 * s) ≡ ny + q * (2 ^ 27 * s) → ((n + m) * 2 ^ 27 + T) * s ≤ ((p + q) * 2 ^ 27 + 2 ^ 29) * s
        go a b = omega (arith, a, b, c, h)

    range : (a b T : ℕ) → 2 ^ 52 ≤ T → T ≤ 3 * 2 ^ 52 → a * 2 ^ 27 ≤ b * 2 ^ 27 + T + 2 ^ 29 → b * 2 ^ 27 + T ≤ a * 2 ^ 27 + 2 ^ 29 → (a < b + 2 ^ 53) × (b < a + 2 ^ 53) × (a + 0 ≡ b + (a - b))
    range a b T l m g h = (omega arith, omega arith, omega arith)

    size : (H a b T : ℕ) → a + 0 ≡ b + H → 2 ^ 52 ≤ T → T ≤ 3 * 2 ^ 52 → a * 2 ^ 27 ≤ b * 2 ^ 27 + T + 2 ^ 29 → b * 2 ^ 27 + T ≤ a * 2 ^ 27 + 2 ^ 29
        → (H ≤ 2 ^ 28) × (T ≤ H * 2 ^ 27 + 2 ^ 29) × (H * 2 ^ 27 ≤ T + 2 ^ 29) × (T + 0 * 2 ^ 27 < 0 + H * 2 ^ 27 + 2 ^ 53) × (0 + H * 2 ^ 27 < T + 0 * 2 ^ 27 + 2 ^ 53)
    size H a b T e l m g h = (omega arith, omega arith, omega arith, omega arith, omega arith)

    same : (T h : ℕ) → T + 0 * 2 ^ 27 + h ≡ 0 + h + T
    same T h = omega arith

-- 2^52 × 2^-26 on the scale of 1
unit26_least : (k : ℕ) → 2 ^ 79 * S ≤ k → 2 ^ 52 * unit26 ≤ k
unit26_least k h = le_trans (le_of_eq (ap (λ (g : ℕ). 2 ^ 52 * g) unit26_53 ∙ together S)) h
  where
    together : (s : ℕ) → 2 ^ 52 * (2 ^ 27 * s) ≡ 2 ^ 79 * s
    together s = omega arith

-- a wider bound
wider : {p n k : ℕ} (m : ℕ) → Small p n (k * S) → k ≤ m → Small p n (m * S)
wider {p} {n} {k} m b h = record { upper = le_trans b.upper (add-le-add (le_refl n) (mul-le-mul_right S h)); lower = le_trans b.lower (add-le-add (le_refl p) (mul-le-mul_right S h)) }

module _ {t : Float} (b : Positive (5 * 2 ^ 50) (3 * 2 ^ 52) t) (c : Around t) where
  -- ---- `split`
  splitter_is : Positive (134217729 * 2 ^ 53) (134217729 * 2 ^ 53) splitter
  splitter_is = unfold fits in tested_positive (134217729 * 2 ^ 53) (134217729 * 2 ^ 53) splitter tt

  t1 : Float
  t1 = splitter ⊗ t

  t1_is : Positive (5 * 2 ^ 77) (2 ^ 81) t1
  unfolding t1
  t1_is = positive_at (5 * 2 ^ 77) (2 ^ 81) (positive_mul (5 * 2 ^ 77) splitter_is b tt tt tt) tt tt

  t2 : Float
  t2 = t ⊖ t1

  off : Small (plus t2 + (less t + less (neg t1))) (less t2 + (plus t + plus (neg t1))) (2 ^ 29 * S)
  unfolding t2 sub
  off = wider (2 ^ 29) (sum_off (positive_bound b) (neg_bound (positive_bound t1_is)) tt) (lit≤ tt)

  t2_number : Number t2
  unfolding t2 sub
  t2_number = (add_bound (positive_bound b) (neg_bound (positive_bound t1_is)) tt).number

  -- it is at least 2^26 below 0
  t2_least : 2 ^ 79 * S ≤ mag t2
  t2_least = go (plus t2) (less t2) (plus t) (less t) (plus t1) (less t1) (plus (neg t1)) (less (neg t1)) S (neg_plus t1) (neg_less t1) t1_is.clear t1_is.least b.most off.upper
    where
      go : (p n q m a z u v s : ℕ) → u ≡ z → v ≡ a → z ≡ 0 → 5 * 2 ^ 77 * s ≤ a → q ≤ 3 * 2 ^ 52 * s → p + (m + v) ≤ n + (q + u) + 2 ^ 29 * s → 2 ^ 79 * s ≤ p + n
      go p n q m a z u v s e f z0 l h g = omega arith

  pub split_halved : Halved c.parts (split t).hi (split t).lo
  unfolding split t1 t2
  split_halved =
      let x = on_grid grid26 t1_is.number (unit26_least (mag t1) (t1_least (plus t1) (less t1) S t1_is.least)) in
      let y = on_grid grid26 t2_number (unit26_least (mag t2) t2_least) in
      halved c.count c.least c.most x.count y.count
      (near (plus t1) (less t1) (plus t2) (less t2) (plus t) (less t) (plus (neg t1)) (less (neg t1)) (2 ^ 29 * S) (neg_plus t1) (neg_less t1) off.upper off.lower)
    where
      t1_least : (p n s : ℕ) → 5 * 2 ^ 77 * s ≤ p → 2 ^ 79 * s ≤ p + n
      t1_least p n s h = omega arith

      near : (a z p n q m u v d : ℕ) → u ≡ z → v ≡ a → p + (m + v) ≤ n + (q + u) + d → n + (q + u) ≤ p + (m + v) + d → Small (a + p + m) (z + n + q) d
      near a z p n q m u v d e f g h = record { upper = omega arith; lower = omega arith }

  -- ---- t + 2^26 - 2^26
  cutter : Float
  cutter = fin false 1 (pos 26)

  cutter_is : Positive (2 ^ 79) (2 ^ 79) cutter
  unfolding cutter
  cutter_is = unfold fits in tested_positive (2 ^ 79) (2 ^ 79) cutter tt

  w : Float
  w = t ⊕ cutter

  w_is : Positive (2 ^ 79) (2 ^ 80) w
  unfolding w
  w_is = positive_at (2 ^ 79) (2 ^ 80) (positive_sum b cutter_is tt tt) tt tt

  w_off : Small (plus w + (less t + less cutter)) (less w + (plus t + plus cutter)) (2 ^ 29 * S)
  unfolding w
  w_off = wider (2 ^ 29) (sum_off (positive_bound b) (positive_bound cutter_is) tt) (lit≤ tt)

  pub cut_halved : Halved c.parts (t ⊕ fin false 1 (pos 26) ⊖ fin false 1 (pos 26)) (t ⊖ (t ⊕ fin false 1 (pos 26) ⊖ fin false 1 (pos 26)))
  unfolding sub w cutter
  cut_halved =
      let x = on_grid grid26 w_is.number (unit26_least (mag w) (least (plus w) (less w) (2 ^ 79 * S) w_is.least)) in
      let y = on_grid grid26 cutter_is.number (unit26_least (mag cutter) (least (plus cutter) (less cutter) (2 ^ 79 * S) cutter_is.least)) in
      halved c.count c.least c.most x.count (count_neg y.count)
      (near (plus w) (less w) (plus t) (less t) (plus cutter) (less cutter) (plus (neg cutter)) (less (neg cutter)) (2 ^ 29 * S) (neg_plus cutter) (neg_less cutter) w_off.upper w_off.lower)
    where
      least : (p n k : ℕ) → k ≤ p → k ≤ p + n
      least p n k h = omega arith

      near : (p n q m a z u v d : ℕ) → u ≡ z → v ≡ a → p + (m + z) ≤ n + (q + a) + d → n + (q + a) ≤ p + (m + z) + d → Small (p + u + m) (n + v + q) d
      near p n q m a z u v d e f g h = record { upper = omega arith; lower = omega arith }
