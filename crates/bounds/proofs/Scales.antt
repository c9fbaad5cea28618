-- Bounds by numbers on a scale: `Bound μ K x` says that x is finite and at most K × μ units of 2^-1074 in size. On the scale of 1, μ is 2^1021, so that
-- 2^53 × μ is 1. An operation on such values gives one whose number is worked out from theirs (`sum_k`, `product_k`, `fast_k`, `full_k`, `dekker_k`): with
-- literals for K a whole evaluation is bounded by computing. A scale may be relative too, as 2^53 × μ = |z|: a product of a value on the scale of 1 and one on
-- the scale of z is on the scale of z. Assumes nothing.
use Rattle.std.proofs.Common.{rules}
use mathlib.Core.Path.{◌≡◌, refl, sym, ap, ap₂, ◌∙◌, subst}
use mathlib.Core.Bool.{Bool, ◌&&◌}
use Prim.Native.Nat.{ℕ, zero, suc, ◌+◌, ◌*◌, ◌/◌, ◌^◌, ◌≤◌, ◌<◌}
use native.Mathlib.Nat.{le_refl, le_trans, le_of_eq, le_of_mul-le-mul_right, mul-le-mul, mul_comm, mul_assoc, mul_right_comm, mul-mul-mul_comm, mul-le-mul_right, mul-le-mul_left, add-le-add, add-mul, div-add-mod', mod-lt, le_of_lt}
use native.Mathlib.Omega.{arith}
use lib.Dec.{T, leb, leb→le, lit≤, lit<}
use lib.Pow.{pow_pos}
use lib.Ieee.{Float, binary64, neg, sub, fits}
use lib.Ieee.Scale.{finite}
use Rattle.floats.specs.Operations.{◌⊕◌, ◌⊖◌, ◌⊗◌}
use Rattle.double_double.specs.declared.DoubleDouble.{DoubleDouble}
use Rattle.double_double.specs.DoubleDouble.{from_exact_add, from_full_exact_add, from_exact_mult, quick_mult, quick_mult_f64, full_add_f64, dd_fmla}
use Rattle.bounds.proofs.Values.{per_one, plus, less, mag, Number, neg_plus, neg_less, neg_number}
use Rattle.bounds.proofs.Operation.{limit, Small, add_near, sub_near, mul_near}
use Rattle.bounds.proofs.Sums.{rounded_part, sum_small, add_mag, close_mag, InParts, fast_sum, full_sum}
use Rattle.bounds.proofs.Dekker.{dekker_near}

-- the scale of 1
unfoldable pub S : ℕ
S = 2 ^ 1021

pub S_pos : 0 < S
unfolding S
S_pos = pow_pos 1021

pub one_is : per_one ≡ S * 2 ^ 53
unfolding per_one S
one_is = refl

-- a scale is positive, and at most 2^189 times that of 1
pub record Scale (μ : ℕ) : Type 0 where
  pub positive : 0 < μ
  pub bounded : μ ≤ 2 ^ 1210

pub unit : Scale S
unfolding S
unit = record { positive = pow_pos 1021; bounded = lit≤ tt }

pub record Bound (μ K : ℕ) (x : Float) : Type 0 where
  pub scale : Scale μ
  pub number : Number x
  pub size : mag x ≤ K * μ

-- a larger number does as well
pub at : {μ K : ℕ} {x : Float} (M : ℕ) → Bound μ K x → T (leb K M) → Bound μ M x
at {μ} {K} {x} M b t = record { scale = b.scale; number = b.number; size = le_trans b.size (mul-le-mul_right μ (leb→le K M t)) }

-- another scale, where K × μ is at most M × ν
pub onto : {μ K : ℕ} {x : Float} (ν M : ℕ) → Scale ν → Bound μ K x → K * μ ≤ M * ν → Bound ν M x
onto ν M s b h = record { scale = s; number = b.number; size = le_trans b.size h }

-- the sign does not count
pub neg_bound : {μ K : ℕ} {x : Float} → Bound μ K x → Bound μ K (neg x)
neg_bound {μ} {K} {x} b = record { scale = b.scale; number = neg_number b.number; size = subst (λ (k : ℕ). k ≤ K * μ) (sym (ap₂ ◌+◌ (neg_plus x) (neg_less x) ∙ (omega arith))) b.size }

-- ---- numbers that nothing overflows with
abbrev pub ok : ℕ → Bool
ok K = leb K (2 ^ 200)

pub small_limit : (K μ : ℕ) → T (ok K) → μ ≤ 2 ^ 1210 → K * μ * 2 ^ 40 ≤ limit
unfolding limit
small_limit K μ k m = le_trans (mul-le-mul_right (2 ^ 40) (mul-le-mul (leb→le K (2 ^ 200) k) m)) (lit≤ tt)

-- ---- a sum
abbrev pub sum_k : ℕ → ℕ → ℕ
sum_k K L = K + L + ((K + L) / 2 ^ 53 + 1)

-- m × 2^53 ≤ d × (c + ..) for d = k × μ
divided : (m c k μ : ℕ) → 0 < μ → m * 2 ^ 53 ≤ c * (k * μ) → m ≤ (c * k / 2 ^ 53 + 1) * μ
divided m c k μ P h =
    let e : c * (k * μ) ≡ c * k * μ = sym (mul_assoc c k μ) in
    let g : c * k ≤ (c * k / 2 ^ 53 + 1) * 2 ^ 53 = rounded_part (c * k) in
    (omega (arith, le_trans h (le_trans (le_of_eq e) (le_trans (mul-le-mul_right μ g) (le_of_eq (mul_right_comm (c * k / 2 ^ 53 + 1) (2 ^ 53) μ))))))

rounded_up : (m k μ : ℕ) → 0 < μ → m * 2 ^ 53 ≤ k * μ * 2 ^ 53 + k * μ → m ≤ (k + (k / 2 ^ 53 + 1)) * μ
rounded_up m k μ P h =
    let g : k ≤ (k / 2 ^ 53 + 1) * 2 ^ 53 = rounded_part k in
    let e : k * μ ≤ (k / 2 ^ 53 + 1) * μ * 2 ^ 53 = le_trans (mul-le-mul_right μ g) (le_of_eq (mul_right_comm (k / 2 ^ 53 + 1) (2 ^ 53) μ)) in
    le_trans (omega arith) (le_of_eq (sym (add-mul k (k / 2 ^ 53 + 1) μ)))

pub both_sizes : {μ K L : ℕ} {x y : Float} → Bound μ K x → Bound μ L y → mag x + mag y ≤ (K + L) * μ
both_sizes {μ} {K} {L} p q = le_trans (add-le-add p.size q.size) (le_of_eq (sym (add-mul K L μ)))

-- a size with room to spare
pub one_part : (d l : ℕ) → d * 2 ^ 40 ≤ l → (d ≤ l) × (2 * d ≤ l)
one_part d l h = (omega arith, omega arith)

pub add_bound : {μ K L : ℕ} {x y : Float} → Bound μ K x → Bound μ L y → T (ok (K + L)) → Bound μ (sum_k K L) (x ⊕ y)
add_bound {μ} {K} {L} {x} {y} p q t =
    let d = (K + L) * μ in
    let w = one_part d limit (small_limit (K + L) μ t p.scale.bounded) in
    record {
      scale = p.scale;
      number = (add_near d p.number q.number (sum_small x y d (both_sizes p q)) w.0).number;
      size = rounded_up (mag (x ⊕ y)) (K + L) μ p.scale.positive (add_mag d p.number q.number (both_sizes p q) w.0);
    }

pub sub_bound : {μ K L : ℕ} {x y : Float} → Bound μ K x → Bound μ L y → T (ok (K + L)) → Bound μ (sum_k K L) (x ⊖ y)
unfolding sub
sub_bound p q t = add_bound p (neg_bound q) t

-- ---- a product
-- values on the scales μ and ν have their product on the scale π
pub record ProductScale (μ ν π : ℕ) : Type 0 where
  pub scale : Scale π
  pub le : μ * ν ≤ S * π

pub unit_left : {μ : ℕ} → Scale μ → ProductScale S μ μ
unit_left {μ} s = record { scale = s; le = le_refl (S * μ) }

pub unit_right : {μ : ℕ} → Scale μ → ProductScale μ S μ
unit_right {μ} s = record { scale = s; le = le_of_eq (mul_comm μ S) }

abbrev pub product_k : ℕ → ℕ → ℕ
product_k K L = (K * L * (2 ^ 53 + 1) + 2 ^ 105) / 2 ^ 106 + 1

abbrev pub dekker_k : ℕ → ℕ → ℕ
dekker_k K L = (K * L + 2 ^ 106) / 2 ^ 104 + 1

-- the product of the sizes
sizes : {μ ν π K L : ℕ} {x y : Float} → ProductScale μ ν π → Bound μ K x → Bound ν L y → mag x * mag y ≤ K * L * (S * π)
sizes {μ} {ν} {π} {K} {L} t p q = le_trans (mul-le-mul p.size q.size) (le_trans (le_of_eq (mul-mul-mul_comm K μ L ν)) (mul-le-mul_left (K * L) t.le))

-- m × s × c ≤ (k × c' + e) × s × π, where e units are at most e × π: then m is at most (k × c' + e) / c + 1 of π
product_cut : (m s k π c e : ℕ) → 0 < s → 0 < π → 0 < c → m * s * c ≤ k * (s * π) + s * e → m ≤ ((k + e) / c + 1) * π
product_cut m s k π c e s0 p0 c0 h =
    let a : m * c * s ≤ (k * π + e) * s = le_trans (le_of_eq (mul_right_comm m c s)) (le_trans h (le_of_eq (omega arith))) in
    let b : m * c ≤ k * π + e = le_of_mul-le-mul_right a s0 in
    let d : k * π + e ≤ (k + e) * π = with_unit k π e p0 in
    let f : (k + e) * π ≤ ((k + e) / c + 1) * c * π = mul-le-mul_right π (over (k + e) c c0) in
    le_of_mul-le-mul_right (le_trans b (le_trans d (le_trans f (le_of_eq (mul_right_comm ((k + e) / c + 1) c π))))) c0
  where
    with_unit : (k π e : ℕ) → 0 < π → k * π + e ≤ (k + e) * π
    with_unit k (suc π) e h = omega arith
    with_unit k zero e h = omega arith

    over : (a c : ℕ) → 0 < c → a ≤ (a / c + 1) * c
    over a c h = le_trans (le_of_eq (sym (div-add-mod' a c))) (le_trans (add-le-add (le_refl (a / c * c)) (le_of_lt (mod-lt a h))) (le_of_eq (omega arith)))

product_most : (m K w s π : ℕ) → m * (s * 2 ^ 53) * 2 ^ 53 ≤ w * 2 ^ 53 + w + s * 2 ^ 53 * 2 ^ 52 → w ≤ K * (s * π) → m * s * 2 ^ 106 ≤ K * (2 ^ 53 + 1) * (s * π) + s * 2 ^ 105
product_most m K w s π h g =
    let k : w * (2 ^ 53 + 1) ≤ K * (s * π) * (2 ^ 53 + 1) = mul-le-mul_right (2 ^ 53 + 1) g in
    le_trans (omega arith) (le_trans (add-le-add k (le_refl (s * 2 ^ 105))) (le_of_eq (ap (λ (z : ℕ). z + s * 2 ^ 105) (mul_right_comm K (s * π) (2 ^ 53 + 1)))))

-- what the products of moderate numbers stay below
product_limit : (K L π : ℕ) → T (ok K) → T (ok L) → π ≤ 2 ^ 1210 → (K * L * (S * π) + per_one) * 16 ≤ limit * per_one
unfolding limit per_one S
product_limit K L π k l h = le_trans (mul-le-mul_right 16 (add-le-add (mul-le-mul (mul-le-mul (leb→le K (2 ^ 200) k) (leb→le L (2 ^ 200) l)) (mul-le-mul_left (2 ^ 1021) h)) (le_refl (2 ^ 1074)))) (lit≤ tt)

within_limit : (k w L m : ℕ) → m ≤ k → (k + w) * 16 ≤ L → (m ≤ L) × ((m + w) * 16 ≤ L)
within_limit k w L m h g = (omega arith, omega arith)

pub mul_limit : {μ ν π K L : ℕ} {x y : Float} → ProductScale μ ν π → Bound μ K x → Bound ν L y → T (ok K) → T (ok L) → mag x * mag y ≤ limit * per_one
mul_limit {μ} {ν} {π} {K} {L} {x} {y} t p q k l = (within_limit (K * L * (S * π)) per_one (limit * per_one) (mag x * mag y) (sizes t p q) (product_limit K L π k l t.scale.bounded)).0

pub mul_bound : {μ ν π K L : ℕ} {x y : Float} → ProductScale μ ν π → Bound μ K x → Bound ν L y → T (ok K) → T (ok L) → Bound π (product_k K L) (x ⊗ y)
mul_bound {μ} {ν} {π} {K} {L} {x} {y} t p q k l =
    let w = sizes t p q in
    let r = mul_near p.number q.number (mul_limit t p q k l) in
    record {
      scale = t.scale;
      number = r.number;
      size = product_size (mag (x ⊗ y)) (mag x * mag y) (K * L) π t.scale.positive r.most w;
    }
  where
    product_size : (m w k π : ℕ) → 0 < π → m * per_one * 2 ^ 53 ≤ w * 2 ^ 53 + w + per_one * 2 ^ 52 → w ≤ k * (S * π) → m ≤ ((k * (2 ^ 53 + 1) + 2 ^ 105) / 2 ^ 106 + 1) * π
    product_size m w k π P h g =
        product_cut m S (k * (2 ^ 53 + 1)) π (2 ^ 106) (2 ^ 105) S_pos P (lit< tt)
        (product_most m k w S π (subst (λ (z : ℕ). m * z * 2 ^ 53 ≤ w * 2 ^ 53 + w + z * 2 ^ 52) one_is h) g)

-- ---- the two exact additions
abbrev pub fast_k : ℕ → ℕ → ℕ
fast_k K L = 4 * (K + L) / 2 ^ 53 + 1

abbrev pub full_k : ℕ → ℕ → ℕ
full_k K L = 5 * (K + L) / 2 ^ 53 + 1

-- hi is the plain sum, and the plain product
fast_hi : (x y : Float) → x ⊕ y ≡ (from_exact_add x y).hi
unfolding from_exact_add
fast_hi x y = refl

full_hi : (x y : Float) → x ⊕ y ≡ (from_full_exact_add x y).hi
unfolding from_full_exact_add
full_hi x y = refl

dekker_hi : (x y : Float) → x ⊗ y ≡ (from_exact_mult x y).hi
unfolding from_exact_mult
dekker_hi x y = refl

-- hi and lo of a double-double
pub record Bounds (μ K k : ℕ) (x : DoubleDouble) : Type 0 where
  pub hi : Bound μ K x.hi
  pub lo : Bound μ k x.lo

-- the two exact additions alike
in_parts : {μ K L : ℕ} {x y : Float} (c : ℕ) (r : DoubleDouble) → Bound μ K x → Bound μ L y → T (ok (K + L)) → x ⊕ y ≡ r.hi
    → ((d : ℕ) → Number x → Number y → mag x + mag y ≤ d → 2 * d ≤ limit → InParts x y d c r) → Bounds μ (sum_k K L) (c * (K + L) / 2 ^ 53 + 1) r
in_parts {μ} {K} {L} {x} {y} c r p q t e sum =
    let d = (K + L) * μ in
    let f = sum d p.number q.number (both_sizes p q) (one_part d limit (small_limit (K + L) μ t p.scale.bounded)).1 in
    record {
      hi = subst (Bound μ (sum_k K L)) e (add_bound p q t);
      lo = record { scale = p.scale; number = f.lo_number; size = divided (mag r.lo) c (K + L) μ p.scale.positive f.lo_small };
    }

pub fast_bounds : {μ K L : ℕ} {x y : Float} → Bound μ K x → Bound μ L y → T (ok (K + L)) → Bounds μ (sum_k K L) (fast_k K L) (from_exact_add x y)
fast_bounds {μ} {K} {L} {x} {y} p q t = in_parts 4 (from_exact_add x y) p q t (fast_hi x y) (λ d. fast_sum d)

pub full_bounds : {μ K L : ℕ} {x y : Float} → Bound μ K x → Bound μ L y → T (ok (K + L)) → Bounds μ (sum_k K L) (full_k K L) (from_full_exact_add x y)
full_bounds {μ} {K} {L} {x} {y} p q t = in_parts 5 (from_full_exact_add x y) p q t (full_hi x y) (λ d. full_sum d)

-- ---- Dekker's product
dekker_limit : (m K μ : ℕ) → m ≤ K * μ → K * μ * 2 ^ 40 ≤ limit → 2 ^ 40 ≤ limit → (m + 1) * 2 ^ 28 ≤ limit
dekker_limit m K μ h g l = omega arith

limit_large : 2 ^ 40 ≤ limit
unfolding limit
limit_large = lit≤ tt

pub dekker_bounds : {μ ν π K L : ℕ} {x y : Float} → ProductScale μ ν π → Bound μ K x → Bound ν L y → T (ok K) → T (ok L) → Bounds π (product_k K L) (dekker_k K L) (from_exact_mult x y)
dekker_bounds {μ} {ν} {π} {K} {L} {x} {y} t p q k l =
    let w = sizes t p q in
    let r = dekker_near p.number q.number
    (dekker_limit (mag x) K μ p.size (small_limit K μ k p.scale.bounded) limit_large)
    (dekker_limit (mag y) L ν q.size (small_limit L ν l q.scale.bounded) limit_large)
    (within_limit (K * L * (S * π)) per_one (limit * per_one) (mag x * mag y) w (product_limit K L π k l t.scale.bounded)).1 in
    record {
      hi = subst (Bound π (product_k K L)) (dekker_hi x y) (mul_bound t p q k l);
      lo = record { scale = t.scale; number = r.lo_number; size = dekker_size (mag (from_exact_mult x y).lo) (mag x * mag y) (K * L) π t.scale.positive r.lo_small w };
    }
  where
    dekker_size : (m w k π : ℕ) → 0 < π → m * per_one * 2 ^ 51 ≤ w + per_one * 2 ^ 53 → w ≤ k * (S * π) → m ≤ ((k + 2 ^ 106) / 2 ^ 104 + 1) * π
    dekker_size m w k π P h g = product_cut m S k π (2 ^ 104) (2 ^ 106) S_pos P (lit< tt) (omega (arith, subst (λ (z : ℕ). m * z * 2 ^ 51 ≤ w + z * 2 ^ 53) one_is h))

-- ---- products of double-doubles
abbrev pub quick_lo_k : ℕ → ℕ → ℕ → ℕ → ℕ
quick_lo_k K k L l = sum_k (dekker_k K L) (sum_k (product_k K l) (product_k k L))

-- what the numbers of the factors have to be for it
abbrev pub quick_ok : ℕ → ℕ → ℕ → ℕ → Bool
quick_ok K k L l = ok K && ok k && ok L && ok l && ok (product_k K l + product_k k L) && ok (dekker_k K L + sum_k (product_k K l) (product_k k L))

pub quick_bounds : {μ ν π K k L l : ℕ} {x y : DoubleDouble} → ProductScale μ ν π → Bounds μ K k x → Bounds ν L l y → T (quick_ok K k L l) → Bounds π (product_k K L) (quick_lo_k K k L l) (quick_mult x y)
unfolding quick_mult
quick_bounds {μ} {ν} {π} {K} {k} {L} {l} {x} {y} t p q g =
    let o = parts K k L l g in
    let c = dekker_bounds t p.hi q.hi o.0 o.2 in
    let tl1 = mul_bound t p.hi q.lo o.0 o.3 in
    let tl2 = mul_bound t p.lo q.hi o.1 o.2 in
    record { hi = c.hi; lo = add_bound c.lo (add_bound tl1 tl2 o.4) o.5 }
  where
    parts : (K k L l : ℕ) → T (quick_ok K k L l) → T (ok K) × T (ok k) × T (ok L) × T (ok l) × T (ok (product_k K l + product_k k L)) × T (ok (dekker_k K L + sum_k (product_k K l) (product_k k L)))
    parts K k L l g = search rules

abbrev pub quick_f64_lo_k : ℕ → ℕ → ℕ → ℕ
quick_f64_lo_k K k L = sum_k (dekker_k K L) (product_k k L)

pub quick_f64_bounds : {μ ν π K k L : ℕ} {x : DoubleDouble} {y : Float} → ProductScale μ ν π → Bounds μ K k x → Bound ν L y → T (ok K && ok k && ok L && ok (dekker_k K L + product_k k L))
    → Bounds π (product_k K L) (quick_f64_lo_k K k L) (quick_mult_f64 x y)
unfolding quick_mult_f64
quick_f64_bounds {μ} {ν} {π} {K} {k} {L} {x} {y} t p q g =
    let c = dekker_bounds t p.hi q (search rules) (search rules) in
    record { hi = c.hi; lo = add_bound c.lo (mul_bound t p.lo q (search rules) (search rules)) (search rules) }

-- ---- `dd_fmla`: on the scale of the product and of c
-- lo of the full add
abbrev pub fmla_lo_k : ℕ → ℕ → ℕ → ℕ
fmla_lo_k K L C = sum_k (dekker_k K L) (full_k (product_k K L) C)

abbrev pub fmla_k : ℕ → ℕ → ℕ → ℕ
fmla_k K L C = sum_k (fmla_lo_k K L C) (sum_k (product_k K L) C)

abbrev pub fmla_ok : ℕ → ℕ → ℕ → Bool
fmla_ok K L C = ok K && ok L && ok (product_k K L + C) && ok (dekker_k K L + full_k (product_k K L) C) && ok (fmla_lo_k K L C + sum_k (product_k K L) C)

pub fmla_parts : (K L C : ℕ) → T (fmla_ok K L C) → T (ok K) × T (ok L) × T (ok (product_k K L + C)) × T (ok (dekker_k K L + full_k (product_k K L) C)) × T (ok (fmla_lo_k K L C + sum_k (product_k K L) C))
fmla_parts K L C g = search rules

pub fmla_bound : {μ ν π K L C : ℕ} {x y c : Float} → ProductScale μ ν π → Bound μ K x → Bound ν L y → Bound π C c → T (fmla_ok K L C) → Bound π (fmla_k K L C) (dd_fmla x y c)
unfolding dd_fmla full_add_f64
fmla_bound {μ} {ν} {π} {K} {L} {C} {x} {y} {c} t p q r g =
    let o = fmla_parts K L C g in
    let m = dekker_bounds t p q o.0 o.1 in
    let s = full_bounds m.hi r o.2 in
    add_bound (add_bound m.lo s.lo o.3) s.hi o.4

-- ---- a value that is known, by computing
abbrev pub within : ℕ → Float → Bool
within K x = fits binary64 x && finite x && leb (mag x) (K * 2 ^ 1021)

pub tested : (K : ℕ) (x : Float) → T (within K x) → Bound S K x
unfolding S
tested K x t = record {
  scale = unit;
  number = record { held = search rules; plain = search rules };
  size = leb→le (mag x) (K * 2 ^ 1021) (search rules);
}

-- ---- a difference that is known to be small, whatever its terms
pub sub_small_bound : {μ : ℕ} {x y : Float} (K : ℕ) → Scale μ → Number x → Number y → Small (plus x + less y) (less x + plus y) (K * μ) → T (ok K) → Bound μ (K + (K / 2 ^ 53 + 1)) (x ⊖ y)
sub_small_bound {μ} {x} {y} K s p q b t =
    let c = sub_near (K * μ) p q b (one_part (K * μ) limit (small_limit K μ t s.bounded)).0 in
    record { scale = s; number = c.number; size = rounded_up (mag (x ⊖ y)) K μ s.positive (close_mag (K * μ) c b) }

pub add_small_bound : {μ : ℕ} {x y : Float} (K : ℕ) → Scale μ → Number x → Number y → Small (plus x + plus y) (less x + less y) (K * μ) → T (ok K) → Bound μ (K + (K / 2 ^ 53 + 1)) (x ⊕ y)
add_small_bound {μ} {x} {y} K s p q b t =
    let c = add_near (K * μ) p q b (one_part (K * μ) limit (small_limit K μ t s.bounded)).0 in
    record { scale = s; number = c.number; size = rounded_up (mag (x ⊕ y)) K μ s.positive (close_mag (K * μ) c b) }

-- `dd_fmla` where the rounded product and c all but cancel: their sum is at most D
pub fmla_small : {μ ν π K L C : ℕ} {x y c : Float} (D : ℕ) → ProductScale μ ν π → Bound μ K x → Bound ν L y → Bound π C c → Small (plus (x ⊗ y) + plus c) (less (x ⊗ y) + less c) (D * π)
    → T (fmla_ok K L C) → T (ok D) → T (ok (fmla_lo_k K L C + (D + (D / 2 ^ 53 + 1)))) → Bound π (sum_k (fmla_lo_k K L C) (D + (D / 2 ^ 53 + 1))) (dd_fmla x y c)
unfolding dd_fmla full_add_f64 from_full_exact_add from_exact_mult
fmla_small {μ} {ν} {π} {K} {L} {C} {x} {y} {c} D t p q r b g d e =
    let o = fmla_parts K L C g in
    let m = dekker_bounds t p q o.0 o.1 in
    let s = full_bounds m.hi r o.2 in
    add_bound (add_bound m.lo s.lo o.3) (add_small_bound D t.scale m.hi.number r.number b d) e
