-- The same operations in another order, side by side, on the scale of 1: a sum of three terms (`sums_apart`), a product of three factors (`products_apart`), and a product with a sum beside the sum
-- of the products (`spread_apart`). Each is off the exact value by its roundings. Assumes nothing.
use Rattle.std.proofs.Common.{◌≡◌, ℕ, ◌+◌, ◌*◌, ◌/◌, ◌^◌, ◌<◌, ◌≤◌, subst, le_trans, le_of_eq, le_of_mul-le-mul_right, mul-le-mul, mul-le-mul_right, mul-le-mul_left, add-le-add, arith, T, lit≤}
use native.Mathlib.Nat.{mul-mul-mul_comm}
use lib.Ieee.{Float}
use Rattle.floats.specs.Operations.{◌⊕◌, ◌⊗◌}
use Rattle.bounds.proofs.Values.{per_one, plus, less, mag}
use Rattle.bounds.proofs.Operation.{mul_near}
use Rattle.bounds.proofs.Sums.{rounded_part}
use Rattle.bounds.proofs.Dekker.{plus_times, less_times, off_product}
use Rattle.bounds.proofs.Scales.{S, S_pos, one_is, unit, unit_left, Bound, ok, sum_k, product_k, add_bound, mul_bound, mul_limit}
use Rattle.bounds.proofs.Distances.{Apart, sum_off}

-- ---- three terms
abbrev pub sums_k : ℕ → ℕ → ℕ → ℕ
sums_k K L M = (sum_k K L + M) / 2 ^ 53 + 1 + ((K + L) / 2 ^ 53 + 1) + ((K + sum_k L M) / 2 ^ 53 + 1) + ((L + M) / 2 ^ 53 + 1)

-- the two sides of a bound the other way round
pub turned_sides : (p n q m c : ℕ) → m + p ≤ q + n + c → p + m ≤ n + q + c
turned_sides p n q m c h = omega arith

pub sums_apart : {K L M : ℕ} {x y z : Float} → Bound S K x → Bound S L y → Bound S M z → T (ok (K + L)) → T (ok (sum_k K L + M)) → T (ok (L + M)) → T (ok (K + sum_k L M)) → Apart S (sums_k K L M) (x ⊕ y ⊕ z) (x ⊕ (y ⊕ z))
sums_apart {x = x} {y = y} {z = z} p q r f g h i =
    let u = x ⊕ y in
    let v = y ⊕ z in
    let a = sum_off (add_bound p q f) r g in
    let b = sum_off p q f in
    let c = sum_off p (add_bound q r h) i in
    let d = sum_off q r h in
    record {
      over = go (plus x) (less x) (plus y) (less y) (plus z) (less z) (plus u) (less u) (plus (u ⊕ z)) (less (u ⊕ z)) (plus v) (less v) (plus (x ⊕ v)) (less (x ⊕ v)) S _ _ _ _ a.upper b.upper c.lower d.lower;
      under = turned_sides (plus (x ⊕ v)) (less (x ⊕ v)) (plus (u ⊕ z)) (less (u ⊕ z)) _
          (go (less x) (plus x) (less y) (plus y) (less z) (plus z) (less u) (plus u) (less (u ⊕ z)) (plus (u ⊕ z)) (less v) (plus v) (less (x ⊕ v)) (plus (x ⊕ v)) S _ _ _ _ a.lower b.lower c.upper d.upper);
    }
  where
    go : (px nx py ny pz nz pu nu pr nr pv nv pq nq s i j k l : ℕ) → pr + (nu + nz) ≤ nr + (pu + pz) + i * s → pu + (nx + ny) ≤ nu + (px + py) + j * s → nq + (px + pv) ≤ pq + (nx + nv) + k * s → nv + (py + pz) ≤ pv + (ny + nz) + l * s
        → pr + nq ≤ nr + pq + (i + j + k + l) * s
    go px nx py ny pz nz pu nu pr nr pv nv pq nq s i j k l a b c d = omega arith

-- ---- z is x × y but for E
record Exact (E : ℕ) (x y z : Float) : Type 0 where
  over : plus z * (S * 2 ^ 53) + less_times x y ≤ less z * (S * 2 ^ 53) + plus_times x y + E * (S * S)
  under : less z * (S * 2 ^ 53) + plus_times x y ≤ plus z * (S * 2 ^ 53) + less_times x y + E * (S * S)

-- a product is so
abbrev pub exact_k : ℕ → ℕ → ℕ
exact_k K L = K * L / 2 ^ 53 + 2

exact : {K L : ℕ} {x y : Float} → Bound S K x → Bound S L y → T (ok K) → T (ok L) → Exact (exact_k K L) x y (x ⊗ y)
exact {K} {L} {x} {y} p q k l =
    let o = off_product x y (x ⊗ y) (mul_near p.number q.number (mul_limit (unit_left unit) p q k l)) in
    let w : mag x * mag y ≤ K * L * (S * S) = le_trans (mul-le-mul p.size q.size) (le_of_eq (mul-mul-mul_comm K S L S)) in
    record {
      over = cut (plus (x ⊗ y)) (less_times x y) (less (x ⊗ y)) (plus_times x y) o.most w;
      under = cut (less (x ⊗ y)) (plus_times x y) (plus (x ⊗ y)) (less_times x y) o.least w;
    }
  where
    half : S * 2 ^ 53 * 2 ^ 52 ≤ S * S * 2 ^ 53
    half = unfold S in lit≤ tt

    go : (a b m w k c t : ℕ) → a * 2 ^ 53 ≤ b * 2 ^ 53 + (m + w) → m ≤ k * t → k * t ≤ (c + 1) * 2 ^ 53 * t → w ≤ t * 2 ^ 53 → a ≤ b + (c + 2) * t
    go a b m w k c t f g h i = omega arith

    cut : (a b c d : ℕ) → (a * per_one + b) * 2 ^ 53 ≤ (c * per_one + d) * 2 ^ 53 + (mag x * mag y + per_one * 2 ^ 52) → mag x * mag y ≤ K * L * (S * S) → a * (S * 2 ^ 53) + b ≤ c * (S * 2 ^ 53) + d + exact_k K L * (S * S)
    cut a b c d h g =
        go (a * (S * 2 ^ 53) + b) (c * (S * 2 ^ 53) + d) (mag x * mag y) (S * 2 ^ 53 * 2 ^ 52) (K * L) (K * L / 2 ^ 53) (S * S)
        (subst (λ (w : ℕ). (a * w + b) * 2 ^ 53 ≤ (c * w + d) * 2 ^ 53 + (mag x * mag y + w * 2 ^ 52)) one_is h) g (mul-le-mul_right (S * S) (rounded_part (K * L))) half

-- ---- a product with a sum
abbrev pub spread_k : ℕ → ℕ → ℕ → ℕ
spread_k A B Z = (((A + B) / 2 ^ 53 + 1) * Z + exact_k (sum_k A B) Z + exact_k A Z + exact_k B Z) / 2 ^ 53 + 1 + ((product_k A Z + product_k B Z) / 2 ^ 53 + 1)

-- one way: a, b, their sum s, z, the products with it in capitals, and their sum t
spread_way : (pa na pb nb ps ns pz nz pA nA pB nB pS nS pt nt k Z e f g l s : ℕ) → 0 < s → pz + nz ≤ Z * s → ps + (na + nb) ≤ ns + (pa + pb) + k * s → ns + (pa + pb) ≤ ps + (na + nb) + k * s
    → pS * (s * 2 ^ 53) + (ps * nz + ns * pz) ≤ nS * (s * 2 ^ 53) + (ps * pz + ns * nz) + e * (s * s) → nA * (s * 2 ^ 53) + (pa * pz + na * nz) ≤ pA * (s * 2 ^ 53) + (pa * nz + na * pz) + f * (s * s)
    → nB * (s * 2 ^ 53) + (pb * pz + nb * nz) ≤ pB * (s * 2 ^ 53) + (pb * nz + nb * pz) + g * (s * s) → nt + (pA + pB) ≤ pt + (nA + nB) + l * s
    → pS + nt ≤ nS + pt + ((k * Z + e + f + g) / 2 ^ 53 + 1 + l) * s
spread_way pa na pb nb ps ns pz nz pA nA pB nB pS nS pt nt k Z e f g l s s0 z over under hS hA hB t =
    let D = k * Z + e + f + g in
    let c = crossed pa na pb nb ps ns pz nz (k * s) (mul-le-mul_right pz over) (mul-le-mul_right nz under) in
    let d : k * s * (pz + nz) ≤ k * Z * (s * s) = le_trans (mul-le-mul_left (k * s) z) (le_of_eq (mul-mul-mul_comm k s Z s)) in
    let sum = join (ps * pz + ns * nz) (ps * nz + ns * pz) (pa * pz + na * nz) (pa * nz + na * pz) (pb * pz + nb * nz) (pb * nz + nb * pz) pA nA pB nB pS nS (k * s * (pz + nz)) (k * Z) e f g (s * 2 ^ 53) (s * s) c d hS hA hB in
    last pS nS pt nt pA nA pB nB D (D / 2 ^ 53) l s (le_of_mul-le-mul_right (le_trans (le_of_eq (left (pS + nA + nB) s)) (le_trans sum (le_of_eq (right (nS + pA + pB) D s)))) s0) (mul-le-mul_right s (rounded_part D)) t
  where
    crossed : (pa na pb nb ps ns pz nz k : ℕ) → (ps + (na + nb)) * pz ≤ (ns + (pa + pb) + k) * pz → (ns + (pa + pb)) * nz ≤ (ps + (na + nb) + k) * nz
        → ps * pz + ns * nz + (pa * nz + na * pz + (pb * nz + nb * pz)) ≤ ps * nz + ns * pz + (pa * pz + na * nz + (pb * pz + nb * nz)) + k * (pz + nz)
    crossed pa na pb nb ps ns pz nz k a b = omega (arith, a, b)

    join : (P N Q O R M pA nA pB nB pS nS d k e f g w t : ℕ) → P + (O + M) ≤ N + (Q + R) + d → d ≤ k * t → pS * w + N ≤ nS * w + P + e * t → nA * w + Q ≤ pA * w + O + f * t → nB * w + R ≤ pB * w + M + g * t
        → (pS + nA + nB) * w ≤ (nS + pA + pB) * w + (k + e + f + g) * t
    join P N Q O R M pA nA pB nB pS nS d k e f g w t a b c h i = omega (arith, a, b, c, h, i)

    left : (a s : ℕ) → a * 2 ^ 53 * s ≡ a * (s * 2 ^ 53)
    left a s = omega arith

    right : (a D s : ℕ) → a * (s * 2 ^ 53) + D * (s * s) ≡ (a * 2 ^ 53 + D * s) * s
    right a D s = omega arith

    last : (pS nS pt nt pA nA pB nB D c l s : ℕ) → (pS + nA + nB) * 2 ^ 53 ≤ (nS + pA + pB) * 2 ^ 53 + D * s → D * s ≤ (c + 1) * 2 ^ 53 * s → nt + (pA + pB) ≤ pt + (nA + nB) + l * s → pS + nt ≤ nS + pt + (c + 1 + l) * s
    last pS nS pt nt pA nA pB nB D c l s f g h = omega arith

-- the two terms of each side the other way round
turned_terms : (a b c d e f g : ℕ) → a + (b + c) ≤ d + (e + f) + g → a + (c + b) ≤ d + (f + e) + g
turned_terms a b c d e f g h = omega arith

pub spread_apart : {A B Z : ℕ} {a b z : Float} → Bound S A a → Bound S B b → Bound S Z z → T (ok A) → T (ok B) → T (ok Z) → T (ok (A + B)) → T (ok (sum_k A B)) → T (ok (product_k A Z + product_k B Z))
    → Apart S (spread_k A B Z) ((a ⊕ b) ⊗ z) (a ⊗ z ⊕ b ⊗ z)
spread_apart {A} {B} {Z} {a} {b} {z} p q r f g h i j k =
    let s = a ⊕ b in
    let t = a ⊗ z ⊕ b ⊗ z in
    let o = sum_off p q i in
    let x = exact (add_bound p q i) r j h in
    let y = exact p r f h in
    let w = exact q r g h in
    let u = sum_off (mul_bound (unit_left unit) p r f h) (mul_bound (unit_left unit) q r g h) k in
    record {
      over = spread_way (plus a) (less a) (plus b) (less b) (plus s) (less s) (plus z) (less z) (plus (a ⊗ z)) (less (a ⊗ z)) (plus (b ⊗ z)) (less (b ⊗ z)) (plus (s ⊗ z)) (less (s ⊗ z)) (plus t) (less t) _ Z _ _ _ _ S S_pos r.size o.upper o.lower
          x.over y.under w.under u.lower;
      under = turned_sides (plus t) (less t) (plus (s ⊗ z)) (less (s ⊗ z)) _
          (spread_way (less a) (plus a) (less b) (plus b) (less s) (plus s) (plus z) (less z) (less (a ⊗ z)) (plus (a ⊗ z)) (less (b ⊗ z)) (plus (b ⊗ z)) (less (s ⊗ z)) (plus (s ⊗ z)) (less t) (plus t) _ Z _ _ _ _ S S_pos r.size o.lower o.upper
          (turned_terms _ _ _ _ _ _ _ x.under) (turned_terms _ _ _ _ _ _ _ y.over) (turned_terms _ _ _ _ _ _ _ w.over) u.upper);
    }

-- ---- three factors
abbrev pub products_k : ℕ → ℕ → ℕ → ℕ
products_k X Y Z = ((exact_k (product_k X Y) Z + exact_k X (product_k Y Z)) * 2 ^ 53 + (exact_k X Y * Z + exact_k Y Z * X)) / 2 ^ 106 + 1

-- one way: u is x × y, v is y × z, r is u × z and q is x × v
products_way : (px nx py ny pz nz pu nu pv nv pr nr pq nq X Z e f g h s : ℕ) → 0 < s → px + nx ≤ X * s → pz + nz ≤ Z * s
    → pu * (s * 2 ^ 53) + (px * ny + nx * py) ≤ nu * (s * 2 ^ 53) + (px * py + nx * ny) + e * (s * s) → nu * (s * 2 ^ 53) + (px * py + nx * ny) ≤ pu * (s * 2 ^ 53) + (px * ny + nx * py) + e * (s * s)
    → pv * (s * 2 ^ 53) + (py * nz + ny * pz) ≤ nv * (s * 2 ^ 53) + (py * pz + ny * nz) + g * (s * s) → nv * (s * 2 ^ 53) + (py * pz + ny * nz) ≤ pv * (s * 2 ^ 53) + (py * nz + ny * pz) + g * (s * s)
    → pr * (s * 2 ^ 53) + (pu * nz + nu * pz) ≤ nr * (s * 2 ^ 53) + (pu * pz + nu * nz) + f * (s * s) → nq * (s * 2 ^ 53) + (px * pv + nx * nv) ≤ pq * (s * 2 ^ 53) + (px * nv + nx * pv) + h * (s * s)
    → pr + nq ≤ nr + pq + (((f + h) * 2 ^ 53 + (e * Z + g * X)) / 2 ^ 106 + 1) * s
products_way px nx py ny pz nz pu nu pv nv pr nr pq nq X Z e f g h s s0 hx hz u_over u_under v_over v_under r_over q_under =
    let D = (f + h) * 2 ^ 53 + (e * Z + g * X) in
    let w = s * 2 ^ 53 in
    let t = s * s in
    let left_side = crossed pu nu (px * py + nx * ny) (px * ny + nx * py) pz nz w (e * t) (mul-le-mul_right pz u_over) (mul-le-mul_right nz u_under) in
    let right_side = crossed nv pv (py * nz + ny * pz) (py * pz + ny * nz) px nx w (g * t) (mul-le-mul_right px v_under) (mul-le-mul_right nx v_over) in
    let both = join _ _ _ _ _ _ _ _ w _ _ (same px nx py ny pz nz) (same' px nx py ny pz nz) left_side right_side in
    let size : e * t * (pz + nz) + g * t * (px + nx) ≤ (e * Z + g * X) * s * t = le_trans (add-le-add (mul-le-mul_left (e * t) hz) (mul-le-mul_left (g * t) hx)) (le_of_eq (gather e g X Z s t)) in
    let sum = all _ _ _ _ pr nr pq nq _ _ (f * t) (h * t) w both size (mul-le-mul_right w r_over) (mul-le-mul_right w (commuted px nx pv nv (nq * w) (pq * w) (h * t) q_under)) in
    let cut = le_of_mul-le-mul_right (le_of_mul-le-mul_right (le_trans (le_of_eq (left (pr + nq) s)) (le_trans sum (le_of_eq (right (nr + pq) f h (e * Z + g * X) s)))) s0) s0 in
    last pr nr pq nq D (D / 2 ^ 106) s cut (mul-le-mul_right s (above D))
  where
    -- (p - n) × w is P - N but for d: both times z
    crossed : (p n P N pz nz w d : ℕ) → (p * w + N) * pz ≤ (n * w + P + d) * pz → (n * w + P) * nz ≤ (p * w + N + d) * nz → (p * pz + n * nz) * w + (N * pz + P * nz) ≤ (p * nz + n * pz) * w + (P * pz + N * nz) + d * (pz + nz)
    crossed p n P N pz nz w d a b = omega (arith, a, b)

    same : (px nx py ny pz nz : ℕ) → (px * ny + nx * py) * pz + (px * py + nx * ny) * nz ≡ (py * nz + ny * pz) * px + (py * pz + ny * nz) * nx
    same px nx py ny pz nz = omega arith

    same' : (px nx py ny pz nz : ℕ) → (px * py + nx * ny) * pz + (px * ny + nx * py) * nz ≡ (py * pz + ny * nz) * px + (py * nz + ny * pz) * nx
    same' px nx py ny pz nz = omega arith

    join : (A B C D i j k l w d c : ℕ) → i ≡ l → j ≡ k → A * w + i ≤ B * w + j + d → C * w + k ≤ D * w + l + c → A * w + C * w ≤ B * w + D * w + (d + c)
    join A B C D i j k l w d c e f g h = omega arith

    gather : (e g X Z s t : ℕ) → e * t * (Z * s) + g * t * (X * s) ≡ (e * Z + g * X) * s * t
    gather e g X Z s t = omega arith

    commuted : (px nx pv nv a b c : ℕ) → a + (px * pv + nx * nv) ≤ b + (px * nv + nx * pv) + c → a + (nv * nx + pv * px) ≤ b + (nv * px + pv * nx) + c
    commuted px nx pv nv a b c h = omega arith

    all : (A B C D pr nr pq nq d m f h w : ℕ) → A * w + C * w ≤ B * w + D * w + d → d ≤ m → (pr * w + B) * w ≤ (nr * w + A + f) * w → (nq * w + D) * w ≤ (pq * w + C + h) * w → (pr + nq) * w * w ≤ (nr + pq) * w * w + (f + h) * w + m
    all A B C D pr nr pq nq d m f h w a b c i = omega (arith, a, b, c, i)

    left : (a s : ℕ) → a * 2 ^ 106 * s * s ≡ a * (s * 2 ^ 53) * (s * 2 ^ 53)
    left a s = omega arith

    right : (b f h j s : ℕ) → b * (s * 2 ^ 53) * (s * 2 ^ 53) + (f * (s * s) + h * (s * s)) * (s * 2 ^ 53) + j * s * (s * s) ≡ (b * 2 ^ 106 + ((f + h) * 2 ^ 53 + j) * s) * s * s
    right b f h j s = omega arith

    above : (D : ℕ) → D ≤ (D / 2 ^ 106 + 1) * 2 ^ 106
    above D = omega arith

    last : (pr nr pq nq D c s : ℕ) → (pr + nq) * 2 ^ 106 ≤ (nr + pq) * 2 ^ 106 + D * s → D * s ≤ (c + 1) * 2 ^ 106 * s → pr + nq ≤ nr + pq + (c + 1) * s
    last pr nr pq nq D c s f g = omega arith

pub products_apart : {X Y Z : ℕ} {x y z : Float} → Bound S X x → Bound S Y y → Bound S Z z → T (ok X) → T (ok Y) → T (ok Z) → T (ok (product_k X Y)) → T (ok (product_k Y Z)) → Apart S (products_k X Y Z) (x ⊗ y ⊗ z) (x ⊗ (y ⊗ z))
products_apart {X} {Y} {Z} {x} {y} {z} p q r f g h i j =
    let u = x ⊗ y in
    let v = y ⊗ z in
    let a = exact p q f g in
    let b = exact q r g h in
    let c = exact (mul_bound (unit_left unit) p q f g) r i h in
    let d = exact p (mul_bound (unit_left unit) q r g h) f j in
    record {
      over = products_way (plus x) (less x) (plus y) (less y) (plus z) (less z) (plus u) (less u) (plus v) (less v) (plus (u ⊗ z)) (less (u ⊗ z)) (plus (x ⊗ v)) (less (x ⊗ v)) X Z _ _ _ _ S S_pos p.size r.size
          a.over a.under b.over b.under c.over d.under;
      under = turned_sides (plus (x ⊗ v)) (less (x ⊗ v)) (plus (u ⊗ z)) (less (u ⊗ z)) _
          (products_way (less x) (plus x) (plus y) (less y) (plus z) (less z) (less u) (plus u) (plus v) (less v) (less (u ⊗ z)) (plus (u ⊗ z)) (less (x ⊗ v)) (plus (x ⊗ v)) X Z _ _ _ _ S S_pos
          (le_trans (le_of_eq (swap (less x) (plus x))) p.size) r.size (turned_terms _ _ _ _ _ _ _ a.under) (turned_terms _ _ _ _ _ _ _ a.over) b.over b.under (turned_terms _ _ _ _ _ _ _ c.under) (turned_terms _ _ _ _ _ _ _ d.over));
    }
  where
    swap : (a b : ℕ) → a + b ≡ b + a
    swap a b = omega arith
