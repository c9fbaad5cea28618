-- The two logarithms beside each other: wherever the fast one is l, the accurate one is at most 6.5 × |l| in its hi and 2^-39 × |l| in its lo (`Logs`). Three cases:
-- the exponent e of 1 + x is not 0 (`far_whole`); e is 0 and the inverse is not 1 (`far_part`); e is 0 and the inverse is 1 (`near`), where z is 1 + x less 1 and
-- both logarithms are on the scale of z. Assumes nothing.
use Rattle.std.proofs.Common.{◌≡◌, ℕ, ◌+◌, ◌-◌, ◌*◌, ◌/◌, ◌^◌, ◌<◌, ◌≤◌, sym, ap, ◌∙◌, le_trans, le_of_eq, le_refl, mul-le-mul_right, mul_assoc, mul-le-mul, mul-pos, one-mul, arith, lit<, lit≤, pow_pos}
use lib.Ieee.{Float}
use Rattle.floats.specs.Operations.{◌⊕◌}
use Rattle.double_double.specs.declared.DoubleDouble.{DoubleDouble}
use Rattle.double_double.specs.DoubleDouble.{from_exact_add}
use Rattle.fast_path.specs.Fast.{log2p1_polyeval1}
use Rattle.slow_path.specs.Slow.{log2_poly2, sum_of_logs}
use Rattle.bounds.proofs.Values.{per_one, mag, Number}
use Rattle.bounds.proofs.Scales.{S, one_is, unit, Scale, Bound, Bounds, at, onto, add_bound}
use Rattle.bounds.proofs.Distances.{not_more, apart_at, apart_through, add_apart, add_apart_right, not_less}
use Rattle.bounds.proofs.OwnScale.{Nil, nil_bound, Own}
use Rattle.fast_path.proofs.LogSize.{part_size, nil_size, part_least, own_product, near_least}
use Rattle.slow_path.proofs.LogSize.{poly_size, logs_size}

pub record Logs (l : Float) (L : DoubleDouble) : Type 0 where
  pub μ : ℕ
  pub scale : Scale μ
  pub size : 2 ^ 53 * μ ≤ mag l
  pub above : Bound S (2 ^ 62) l
  pub accurate : Bounds μ (13 * 2 ^ 52) (2 ^ 14) L

large_scale : 2 ^ 60 ≤ S
unfolding S
large_scale = lit≤ tt

on_scale_1 : 33 * 2 ^ 47 * S ≤ 2 ^ 1210
unfolding S
on_scale_1 = lit≤ tt

-- both parts on another scale
onto_both : {μ K k : ℕ} {x : DoubleDouble} (ν M m : ℕ) → Scale ν → Bounds μ K k x → K * μ ≤ M * ν → k * μ ≤ m * ν → Bounds ν M m x
onto_both ν M m s b h g = record { hi = onto ν M s b.hi h; lo = onto ν m s b.lo g }

-- ---- e is not 0: all on the scale of |e| = E
module _ (E : ℕ) (least : 1 ≤ E) (most : E ≤ 150) where
  ν : ℕ
  ν = E * S

  -- three eighths of it
  μ : ℕ
  μ = E * (3 * 2 ^ 1018)

  eighths : 3 * ν ≡ 8 * μ
  unfolding ν μ S
  eighths = go E (2 ^ 1018)
    where
      go : (e k : ℕ) → 3 * (e * (8 * k)) ≡ 8 * (e * (3 * k))
      go e k = omega arith

  wide : Scale ν
  unfolding ν S
  wide = record { positive = mul-pos least (pow_pos 1021); bounded = le_trans (mul-le-mul_right (2 ^ 1021) most) (lit≤ tt) }

  narrow : Scale μ
  unfolding μ
  narrow = record { positive = mul-pos least (lit< tt); bounded = le_trans (mul-le-mul_right (3 * 2 ^ 1018) most) (lit≤ tt) }

  -- what is on the scale of 1 is on that of E
  S_le : S ≤ ν
  unfolding ν
  S_le = le_trans (le_of_eq (sym (one-mul S))) (mul-le-mul_right S least)

  wider : {K : ℕ} {x : Float} → Bound S K x → Bound ν K x
  wider {K} b = onto ν K wide b (mul-le-mul (le_refl K) S_le)

  e_size : E * per_one ≡ 2 ^ 53 * ν
  unfolding ν
  e_size = ap (λ (k : ℕ). E * k) one_is ∙ go E S
    where
      go : (e s : ℕ) → e * (s * 2 ^ 53) ≡ 2 ^ 53 * (e * s)
      go e s = omega arith

  -- a number on the scale of E, on that of 1, and on three eighths of its own
  on_one : (K M : ℕ) → K * 150 ≤ M → K * ν ≤ M * S
  unfolding ν
  on_one K M h = le_trans (mul-le-mul (le_refl K) (mul-le-mul_right S most)) (le_trans (le_of_eq (sym (mul_assoc K 150 S))) (mul-le-mul_right S h))

  on_eighths : (K M : ℕ) → K * 8 ≤ M * 3 → K * ν ≤ M * μ
  on_eighths K M h = thirds (K * ν) (M * μ) (le_trans (le_of_eq (left K ν ∙ ap (λ (k : ℕ). K * k) eighths ∙ right K μ)) (le_trans (mul-le-mul_right μ h) (le_of_eq (turned M μ))))
    where
      left : (K v : ℕ) → 3 * (K * v) ≡ K * (3 * v)
      left K v = omega arith

      right : (K u : ℕ) → K * (8 * u) ≡ K * 8 * u
      right K u = omega arith

      turned : (M u : ℕ) → M * 3 * u ≡ 3 * (M * u)
      turned M u = omega arith

      thirds : (x y : ℕ) → 3 * x ≤ 3 * y → x ≤ y
      thirds x y h = omega arith

  pub far_whole : {e w : Float} {a b : DoubleDouble} → Number e → mag e ≡ E * per_one → Bound S (35 * 2 ^ 47) w → Bounds S (33 * 2 ^ 47) 1 a → Bounds S (2 ^ 48 + 2 ^ 38) (2 ^ 6) b
      → Logs (e ⊕ w) (sum_of_logs e a b)
  far_whole {e} {w} {a} {b} n m p q r =
      let one : Bound ν (2 ^ 53) e = record { scale = wide; number = n; size = le_of_eq (m ∙ e_size) } in
      let sum = add_bound one (wider p) tt in
      let logs = logs_size one (record { hi = wider q.hi; lo = wider q.lo }) (record { hi = wider r.hi; lo = wider r.lo }) tt in
      let off = apart_at (39 * 2 ^ 47) (add_apart one (wider p) tt) tt in
      record {
        μ = μ;
        scale = narrow;
        size = from_e (mag e) (mag (e ⊕ w)) ν μ eighths (m ∙ e_size) (not_less off);
        above = onto S (2 ^ 62) unit sum (on_one _ (2 ^ 62) (lit≤ tt));
        accurate = onto_both μ (13 * 2 ^ 52) (2 ^ 14) narrow logs (on_eighths _ (13 * 2 ^ 52) (lit≤ tt)) (on_eighths _ (2 ^ 14) (lit≤ tt));
      }
    where
      from_e : (e l v u : ℕ) → 3 * v ≡ 8 * u → e ≡ 2 ^ 53 * v → e ≤ l + 39 * 2 ^ 47 * v → 2 ^ 53 * u ≤ l
      from_e e l v u k h g = omega arith

-- ---- e is 0, and the inverse is not 1
-- the logarithm is the inverse's, |a|, but for 48 × 2^42 and little more; the scale is what is left of it
module _ {e p : Float} {a b : DoubleDouble} (n : Nil e) (r : Bound S (47 * 2 ^ 42 + 2 ^ 36) p) (least : 35 * 2 ^ 43 * S ≤ mag a.hi) (q : Bounds S (33 * 2 ^ 47) 1 a)
    (l : Bounds S (2 ^ 48 + 2 ^ 38) (2 ^ 6) b) where
  left : ℕ
  left = mag a.hi - (4 + 48 * 2 ^ 42) * S

  τ : ℕ
  τ = left / 2 ^ 53

  nil : Bound S 0 e
  nil = nil_bound S unit n

  -- the accurate one is |a| too, but for what the polynomial gives
  near_a : mag (sum_of_logs e a b).hi ≤ mag a.hi + (2 ^ 48 + 2 ^ 39) * S
  unfolding sum_of_logs from_exact_add
  near_a = not_more (apart_at (2 ^ 48 + 2 ^ 39) (apart_through (add_apart (add_bound nil q.hi tt) l.hi tt) (add_apart_right nil q.hi tt)) tt)

  τ_scale : Scale τ
  unfolding τ left
  τ_scale = record {
    positive = some (mag a.hi) S (le_trans (lit≤ tt) large_scale) least;
    bounded = le_trans (small (mag a.hi) S) (le_trans q.hi.size on_scale_1);
  }
    where
      some : (a s : ℕ) → 2 ^ 53 ≤ s → 35 * 2 ^ 43 * s ≤ a → 0 < (a - (4 + 48 * 2 ^ 42) * s) / 2 ^ 53
      some a s g h = omega arith

      small : (a s : ℕ) → (a - (4 + 48 * 2 ^ 42) * s) / 2 ^ 53 ≤ a
      small a s = omega arith

  pub far_part : Logs (e ⊕ (a.hi ⊕ p)) (sum_of_logs e a b)
  unfolding τ left
  far_part =
      let logs = logs_size nil q l tt in
      record {
        μ = τ;
        scale = τ_scale;
        size = size_of (mag a.hi) (mag (e ⊕ (a.hi ⊕ p))) S (part_least n q.hi r);
        above = nil_size n (part_size q.hi r);
        accurate = record {
          hi = record { scale = τ_scale; number = logs.hi.number; size = hi_of (mag a.hi) (mag (sum_of_logs e a b).hi) S large_scale least near_a };
          lo = record { scale = τ_scale; number = logs.lo.number; size = le_trans logs.lo.size (le_trans (mul-le-mul_right S (lit≤ tt)) (lo_of (mag a.hi) S large_scale least)) };
        };
      }
    where
      size_of : (a l s : ℕ) → a ≤ l + (4 + 48 * 2 ^ 42) * s → 2 ^ 53 * ((a - (4 + 48 * 2 ^ 42) * s) / 2 ^ 53) ≤ l
      size_of a l s h = omega arith

      -- 13/2 of what is left of |a|
      hi_of : (a h s : ℕ) → 2 ^ 60 ≤ s → 35 * 2 ^ 43 * s ≤ a → h ≤ a + (2 ^ 48 + 2 ^ 39) * s → h ≤ 13 * 2 ^ 52 * ((a - (4 + 48 * 2 ^ 42) * s) / 2 ^ 53)
      hi_of a h s g l k = over h (a - (4 + 48 * 2 ^ 42) * s) (enough a h s g l k)
        where
          over : (h n : ℕ) → 2 * h + 13 * 2 ^ 53 ≤ 13 * n → h ≤ 13 * 2 ^ 52 * (n / 2 ^ 53)
          over h n k = omega arith

          enough : (a h s : ℕ) → 2 ^ 60 ≤ s → 35 * 2 ^ 43 * s ≤ a → h ≤ a + (2 ^ 48 + 2 ^ 39) * s → 2 * h + 13 * 2 ^ 53 ≤ 13 * (a - (4 + 48 * 2 ^ 42) * s)
          enough a h s g l k = omega arith

      lo_of : (a s : ℕ) → 2 ^ 60 ≤ s → 35 * 2 ^ 43 * s ≤ a → 2 ^ 7 * s ≤ 2 ^ 14 * ((a - (4 + 48 * 2 ^ 42) * s) / 2 ^ 53)
      lo_of a s g l = over s (a - (4 + 48 * 2 ^ 42) * s) (enough a s g l)
        where
          over : (s n : ℕ) → 2 ^ 46 * s + 2 ^ 53 ≤ n → 2 ^ 7 * s ≤ 2 ^ 14 * (n / 2 ^ 53)
          over s n h = omega arith

          enough : (a s : ℕ) → 2 ^ 60 ≤ s → 35 * 2 ^ 43 * s ≤ a → 2 ^ 46 * s + 2 ^ 53 ≤ a - (4 + 48 * 2 ^ 42) * s
          enough a s g l = omega arith

-- ---- e is 0, and the inverse is 1: all on the scale of z
pub near : {σ : ℕ} {e z : Float} {a z' : DoubleDouble} → Own σ z → Bound S (2 ^ 47 + 2 ^ 33) z → Nil e → Nil a.hi → Nil a.lo → Bounds S (2 ^ 47 + 2 ^ 36) 4 z' → Bounds σ (3 * 2 ^ 53 + 2 ^ 20) 16 z'
    → Logs (e ⊕ (a.hi ⊕ log2p1_polyeval1 z)) (sum_of_logs e a (log2_poly2 z'))
near {σ} {e} {z} {a} {z'} o b n h l bounds own =
    let scale = o.bound.scale in
    let zero = nil_bound σ scale n in
    let high = nil_bound σ scale h in
    let sum = add_bound zero (at (2 ^ 54) (add_bound high (own_product o b) tt) tt) tt in
    let logs = logs_size zero (record { hi = high; lo = nil_bound σ scale l }) (poly_size scale bounds own tt) tt in
    record {
      μ = σ;
      scale = scale;
      size = le_trans (mul-le-mul_right σ (lit≤ tt)) (near_least n h o b);
      above = onto S (2 ^ 62) unit sum (mul-le-mul (lit≤ tt) o.most);
      accurate = record { hi = at (13 * 2 ^ 52) logs.hi tt; lo = at (2 ^ 14) logs.lo tt };
    }
