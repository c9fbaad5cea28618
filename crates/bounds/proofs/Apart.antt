-- Two evaluations side by side: where the terms are so far from each other, the sums are (`sum_apart`), the differences (`differences_apart`), the products (`product_apart`), and `dd_fmla` beside the plain
-- product and sum (`fmla_plain`, `fmla_aside`). The numbers are worked out from those of the terms, so that with literals a whole evaluation is compared by
-- computing. Assumes nothing.
use Rattle.std.proofs.Common.{rules}
use mathlib.Core.Path.{◌≡◌, subst}
use mathlib.Core.Bool.{Bool, ◌&&◌}
use Prim.Native.Nat.{ℕ, ◌+◌, ◌*◌, ◌/◌, ◌^◌, ◌≤◌, ◌<◌}
use native.Mathlib.Nat.{le_refl, le_trans, le_of_eq, le_of_mul-le-mul_right, mul-le-mul, mul-le-mul_right, add-le-add}
use native.Mathlib.Omega.{arith}
use lib.Dec.{T}
use lib.Ieee.{Float, neg, sub}
use Rattle.floats.specs.Operations.{◌⊕◌, ◌⊖◌, ◌⊗◌}
use Rattle.double_double.specs.DoubleDouble.{from_exact_mult, from_full_exact_add, full_add_f64, dd_fmla}
use Rattle.bounds.proofs.Values.{per_one, plus, less, mag}
use Rattle.bounds.proofs.Operation.{mul_near}
use Rattle.bounds.proofs.Dekker.{plus_times, less_times, off_product}
use Rattle.bounds.proofs.Scales.{S, S_pos, one_is, Bound, neg_bound, ok, sum_k, product_k, ProductScale, add_bound, mul_bound, mul_limit, dekker_bounds, full_bounds, fmla_lo_k, fmla_ok, fmla_parts}
use Rattle.bounds.proofs.Distances.{Apart, apart_through, sum_off, add_apart_right}

-- ---- the relation
-- the same
pub apart_same : {μ : ℕ} (x : Float) → Apart μ 0 x x
apart_same {μ} x = record { over = go (plus x) (less x) μ; under = go (plus x) (less x) μ }
  where
    go : (p n m : ℕ) → p + n ≤ n + p + 0 * m
    go p n m = omega arith

-- the other way round
pub apart_turned : {μ K : ℕ} {x y : Float} → Apart μ K x y → Apart μ K y x
apart_turned a = record { over = a.under; under = a.over }

-- ---- a sum
abbrev pub sum_apart_k : ℕ → ℕ → ℕ → ℕ → ℕ
sum_apart_k A B K L = A + B + ((K / 2 ^ 53 + 1) + (L / 2 ^ 53 + 1))

-- x + y and u + v, with A for the distance of x and u and B for that of y and v
pub sum_apart : {μ A B K L M N : ℕ} {x y u v : Float} → Apart μ A x u → Apart μ B y v → Bound μ K x → Bound μ L y → Bound μ M u → Bound μ N v → T (ok (K + L)) → T (ok (M + N))
    → Apart μ (sum_apart_k A B (K + L) (M + N)) (x ⊕ y) (u ⊕ v)
sum_apart {μ} {A} {B} {K} {L} {M} {N} {x} {y} {u} {v} a b p q r s g h =
    let o = sum_off p q g in
    let w = sum_off r s h in
    let k = (K + L) / 2 ^ 53 + 1 in
    let l = (M + N) / 2 ^ 53 + 1 in
    record {
      over = go (plus x) (less x) (plus y) (less y) (plus u) (less u) (plus v) (less v) (plus (x ⊕ y)) (less (x ⊕ y)) (plus (u ⊕ v)) (less (u ⊕ v)) (A * μ) (B * μ) (k * μ) (l * μ) (omega arith) a.over b.over o.upper w.lower;
      under = go (plus u) (less u) (plus v) (less v) (plus x) (less x) (plus y) (less y) (plus (u ⊕ v)) (less (u ⊕ v)) (plus (x ⊕ y)) (less (x ⊕ y)) (A * μ) (B * μ) (l * μ) (k * μ) (omega arith) a.under b.under w.upper o.lower;
    }
  where
    go : (px nx py ny pu nu pv nv ps ns pt nt a b k l : ℕ) {c : ℕ} → a + b + (k + l) ≡ c → px + nu ≤ nx + pu + a → py + nv ≤ ny + pv + b → ps + (nx + ny) ≤ ns + (px + py) + k → nt + (pu + pv) ≤ pt + (nu + nv) + l
        → ps + nt ≤ ns + pt + c
    go px nx py ny pu nu pv nv ps ns pt nt a b k l {c} e f g h i = omega (arith, e, f, g, h, i)

-- x - c and u - c
pub differences_apart : {μ A K M L : ℕ} {x u c : Float} → Apart μ A x u → Bound μ K x → Bound μ M u → Bound μ L c → T (ok (K + L)) → T (ok (M + L)) → Apart μ (sum_apart_k A 0 (K + L) (M + L)) (x ⊖ c) (u ⊖ c)
unfolding sub
differences_apart {c = c} a p r q g h = sum_apart a (apart_same (neg c)) p (neg_bound q) r (neg_bound q) g h

-- ---- a product
abbrev pub product_apart_k : ℕ → ℕ → ℕ → ℕ → ℕ → ℕ → ℕ
product_apart_k A B K L M N = ((A * L + B * M) * 2 ^ 53 + (K * L + M * N)) / 2 ^ 106 + 2

-- the exact products: x × y - u × v is (x - u) × y + u × (y - v)
exact_apart : (px nx py ny pu nu pv nv a b : ℕ) → px + nu ≤ nx + pu + a → pu + nx ≤ nu + px + a → py + nv ≤ ny + pv + b → pv + ny ≤ nv + py + b
    → px * py + nx * ny + (pu * nv + nu * pv) ≤ px * ny + nx * py + (pu * pv + nu * nv) + (a * (py + ny) + b * (pu + nu))
exact_apart px nx py ny pu nu pv nv a b f g h i = omega (arith, mul-le-mul_right py f, mul-le-mul_right ny g, mul-le-mul_right pu h, mul-le-mul_right nu i)

-- its size, on the scale of the product
distance_size : (A B L M μ ν π s y u : ℕ) → y ≤ L * ν → u ≤ M * μ → μ * ν ≤ s * π → A * μ * y + B * ν * u ≤ (A * L + B * M) * (s * π)
distance_size A B L M μ ν π s y u g h e =
    le_trans (add-le-add (mul-le-mul (le_refl (A * μ)) g) (mul-le-mul (le_refl (B * ν)) h)) (le_trans (le_of_eq (omega arith)) (mul-le-mul (le_refl (A * L + B * M)) e))

size_product : (K L μ ν π s x y : ℕ) → x ≤ K * μ → y ≤ L * ν → μ * ν ≤ s * π → x * y ≤ K * L * (s * π)
size_product K L μ ν π s x y g h e = le_trans (mul-le-mul g h) (le_trans (le_of_eq (omega arith)) (mul-le-mul (le_refl (K * L)) e))

-- both roundings and the exact distance, over 2^53 × 1
together : (pz nz pw nw P N Q O E k l W : ℕ) → (pz * W + N) * 2 ^ 53 ≤ (nz * W + P) * 2 ^ 53 + (k + W * 2 ^ 52) → (nw * W + Q) * 2 ^ 53 ≤ (pw * W + O) * 2 ^ 53 + (l + W * 2 ^ 52) → P + O ≤ N + Q + E
    → (pz + nw) * W * 2 ^ 53 ≤ (nz + pw) * W * 2 ^ 53 + (E * 2 ^ 53 + (k + l)) + W * 2 ^ 53
together pz nz pw nw P N Q O E k l W f g h = omega arith

-- a whole number of the scale
in_scale : (a b D s π : ℕ) → 0 < s → 0 < π → a * (s * 2 ^ 53) * 2 ^ 53 ≤ b * (s * 2 ^ 53) * 2 ^ 53 + D * (s * π) + s * 2 ^ 53 * 2 ^ 53 → a ≤ b + (D / 2 ^ 106 + 2) * π
in_scale a b D s π s0 π0 h =
    le_trans (down a b (D * π) (D / 2 ^ 106 * π + π) (le_of_mul-le-mul_right (le_trans (le_of_eq (left a s)) (le_trans h (le_of_eq (right b D s π)))) s0) (parts D π)) (more b (D / 2 ^ 106) π π0)
  where
    left : (a s : ℕ) → a * 2 ^ 106 * s ≡ a * (s * 2 ^ 53) * 2 ^ 53
    left a s = omega arith

    right : (b D s π : ℕ) → b * (s * 2 ^ 53) * 2 ^ 53 + D * (s * π) + s * 2 ^ 53 * 2 ^ 53 ≡ (b * 2 ^ 106 + D * π + 2 ^ 106) * s
    right b D s π = omega arith

    above : (D : ℕ) → D ≤ (D / 2 ^ 106 + 1) * 2 ^ 106
    above D = omega arith

    parts : (D π : ℕ) → D * π ≤ (D / 2 ^ 106 * π + π) * 2 ^ 106
    parts D π = le_trans (mul-le-mul_right π (above D)) (le_of_eq (move (D / 2 ^ 106) π))
      where
        move : (q π : ℕ) → (q + 1) * 2 ^ 106 * π ≡ (q * π + π) * 2 ^ 106
        move q π = omega arith

    down : (a b d c : ℕ) → a * 2 ^ 106 ≤ b * 2 ^ 106 + d + 2 ^ 106 → d ≤ c * 2 ^ 106 → a ≤ b + c + 1
    down a b d c g h = omega arith

    more : (b q π : ℕ) → 0 < π → b + (q * π + π) + 1 ≤ b + (q + 2) * π
    more b q π h = omega arith

-- z × w is p - n but for e, as above, over the parts
abbrev Off' : ℕ → ℕ → ℕ → ℕ → ℕ → Type 0
Off' pz nz P N k = (pz * per_one + N) * 2 ^ 53 ≤ (nz * per_one + P) * 2 ^ 53 + (k + per_one * 2 ^ 52)

one_way : {π : ℕ} (pz nz pw nw P N Q O E k l D : ℕ) → 0 < π → Off' pz nz P N k → Off' nw pw O Q l → P + O ≤ N + Q + E → E * 2 ^ 53 + (k + l) ≤ D * (S * π) → pz + nw ≤ nz + pw + (D / 2 ^ 106 + 2) * π
one_way {π} pz nz pw nw P N Q O E k l D π0 f g h e =
    in_scale (pz + nw) (nz + pw) D S π S_pos π0
    (le_trans (subst (λ (w : ℕ). (pz + nw) * w * 2 ^ 53 ≤ (nz + pw) * w * 2 ^ 53 + (E * 2 ^ 53 + (k + l)) + w * 2 ^ 53) one_is (together pz nz pw nw P N Q O E k l per_one f g h))
    (omega arith))

-- x × y and u × v
pub product_apart : {μ ν π A B K L M N : ℕ} {x y u v : Float} → ProductScale μ ν π → Apart μ A x u → Apart ν B y v → Bound μ K x → Bound ν L y → Bound μ M u → Bound ν N v → T (ok K && ok L && ok M && ok N)
    → Apart π (product_apart_k A B K L M N) (x ⊗ y) (u ⊗ v)
product_apart {μ} {ν} {π} {A} {B} {K} {L} {M} {N} {x} {y} {u} {v} t a b p q r s g =
    let z = off_product x y (x ⊗ y) (mul_near p.number q.number (mul_limit t p q (search rules) (search rules))) in
    let w = off_product u v (u ⊗ v) (mul_near r.number s.number (mul_limit t r s (search rules) (search rules))) in
    let E = A * μ * mag y + B * ν * mag u in
    let size = in_all E (mag x * mag y) (mag u * mag v) (A * L + B * M) (K * L) (M * N) (S * π) (distance_size A B L M μ ν π S (mag y) (mag u) q.size r.size t.le) (size_product K L μ ν π S (mag x) (mag y) p.size q.size t.le)
    (size_product M N μ ν π S (mag u) (mag v) r.size s.size t.le) in
    record {
      over = one_way (plus (x ⊗ y)) (less (x ⊗ y)) (plus (u ⊗ v)) (less (u ⊗ v)) (plus_times x y) (less_times x y) (plus_times u v) (less_times u v) E (mag x * mag y) (mag u * mag v) _ t.scale.positive z.most w.least
          (exact_apart (plus x) (less x) (plus y) (less y) (plus u) (less u) (plus v) (less v) (A * μ) (B * ν) a.over a.under b.over b.under) size;
      under = turned (plus (u ⊗ v)) (less (u ⊗ v)) (plus (x ⊗ y)) (less (x ⊗ y)) _
          (one_way (less (x ⊗ y)) (plus (x ⊗ y)) (less (u ⊗ v)) (plus (u ⊗ v)) (less_times x y) (plus_times x y) (less_times u v) (plus_times u v) E (mag x * mag y) (mag u * mag v) _ t.scale.positive z.least w.most
          (minus (plus x) (less x) (plus y) (less y) (plus u) (less u) (plus v) (less v) (A * μ) (B * ν) (exact_apart (less x) (plus x) (plus y) (less y) (less u) (plus u) (plus v) (less v) (A * μ) (B * ν) (turn (less x) (plus u) (plus x) (less u) (A * μ) a.under) (turn (less u) (plus x) (plus u) (less x) (A * μ) a.over) b.over b.under)) size);
    }
  where
    in_all : (E k l a b c s : ℕ) → E ≤ a * s → k ≤ b * s → l ≤ c * s → E * 2 ^ 53 + (k + l) ≤ (a * 2 ^ 53 + (b + c)) * s
    in_all E k l a b c s f g h = omega arith

    turn : (a b c d e : ℕ) → b + a ≤ d + c + e → a + b ≤ c + d + e
    turn a b c d e h = omega arith

    turned : (p n q m c : ℕ) → m + p ≤ q + n + c → p + m ≤ n + q + c
    turned p n q m c h = omega arith

    minus : (px nx py ny pu nu pv nv a b : ℕ) → nx * py + px * ny + (nu * nv + pu * pv) ≤ nx * ny + px * py + (nu * pv + pu * nv) + (a * (py + ny) + b * (nu + pu))
        → px * ny + nx * py + (pu * pv + nu * nv) ≤ px * py + nx * ny + (pu * nv + nu * pv) + (a * (py + ny) + b * (pu + nu))
    minus px nx py ny pu nu pv nv a b h = omega arith

-- ---- `dd_fmla`, and the plain product and sum
abbrev pub fmla_plain_k : ℕ → ℕ → ℕ → ℕ
fmla_plain_k K L C = fmla_lo_k K L C + ((fmla_lo_k K L C + sum_k (product_k K L) C) / 2 ^ 53 + 1)

-- of the same terms
pub fmla_plain : {μ ν π K L C : ℕ} {x y c : Float} → ProductScale μ ν π → Bound μ K x → Bound ν L y → Bound π C c → T (fmla_ok K L C) → Apart π (fmla_plain_k K L C) (dd_fmla x y c) (x ⊗ y ⊕ c)
unfolding dd_fmla full_add_f64 from_full_exact_add from_exact_mult
fmla_plain {μ} {ν} {π} {K} {L} {C} {x} {y} {c} t p q r g =
    let o = fmla_parts K L C g in
    let m = dekker_bounds t p q o.0 o.1 in
    let s = full_bounds m.hi r o.2 in
    add_apart_right (add_bound m.lo s.lo o.3) s.hi o.4

-- of terms that are so far from each other
abbrev pub fmla_aside_k : ℕ → ℕ → ℕ → ℕ → ℕ → ℕ → ℕ → ℕ → ℕ → ℕ
fmla_aside_k A B D K L C M N G = fmla_plain_k K L C + sum_apart_k (product_apart_k A B K L M N) D (product_k K L + C) (product_k M N + G)

abbrev pub aside_ok : ℕ → ℕ → ℕ → ℕ → ℕ → ℕ → Bool
aside_ok K L C M N G = fmla_ok K L C && ok K && ok L && ok M && ok N && ok (product_k K L + C) && ok (product_k M N + G)

pub fmla_aside : {μ ν π A B D K L C M N G : ℕ} {x y c u v d : Float} → ProductScale μ ν π → Apart μ A x u → Apart ν B y v → Apart π D c d → Bound μ K x → Bound ν L y → Bound π C c → Bound μ M u → Bound ν N v → Bound π G d
    → T (aside_ok K L C M N G) → Apart π (fmla_aside_k A B D K L C M N G) (dd_fmla x y c) (u ⊗ v ⊕ d)
fmla_aside {K = K} {L = L} {C = C} {M = M} {N = N} {G = G} t a b e p q r u v w g =
    apart_through (fmla_plain t p q r (search rules))
    (sum_apart (product_apart t a b p q u v (search rules)) e (mul_bound t p q (search rules) (search rules)) r (mul_bound t u v (search rules) (search rules)) w (search rules) (search rules))
