-- The two exact additions, from above: where nothing overflows, what they call the error is small. With |a| + |b| at most d, the error is at most
-- 4 × d / 2^53 for `from_exact_add` and 5 × d / 2^53 for `from_full_exact_add`, in whichever order of size (`fast_sum`, `full_sum`). That it is the error
-- exactly is not claimed here. Assumes nothing.
use mathlib.Core.Path.{◌≡◌}
use mathlib.Core.Logic.{◌⊎◌, inl, inr}
use Prim.Native.Nat.{ℕ, ◌+◌, ◌*◌, ◌/◌, ◌^◌, ◌≤◌}
use native.Mathlib.Omega.{arith}
use lib.Ieee.{Float}
use Rattle.floats.specs.Operations.{◌⊕◌, ◌⊖◌}
use Rattle.double_double.specs.declared.DoubleDouble.{DoubleDouble}
use Rattle.double_double.specs.DoubleDouble.{from_exact_add, from_full_exact_add}
use Rattle.bounds.proofs.Values.{plus, less, mag, one_side, Number}
use Rattle.bounds.proofs.Operation.{limit, Close, Small, add_near, sub_near}

-- ---- parts of 2^53
-- an excess of at most k
pub past : (x y D k : ℕ) → x * 2 ^ 53 ≤ y * 2 ^ 53 + D → D ≤ k * 2 ^ 53 → x ≤ y + k
past x y D k h g = omega arith

-- a is at most 2^53 times the next whole number to a / 2^53
pub rounded_part : (a : ℕ) → a ≤ (a / 2 ^ 53 + 1) * 2 ^ 53
rounded_part a = omega arith

-- ---- the size of what is close to p - n
-- of two parts one is 0
pub sides : (p n d : ℕ) → (p ≡ 0) ⊎ (n ≡ 0) → p ≤ n + d → n ≤ p + d → p + n ≤ d
sides p n d (inl e) h g = omega arith
sides p n d (inr e) h g = omega arith

pub close_mag : {p n e : ℕ} {z : Float} (d : ℕ) → Close p n e z → Small p n d → mag z * 2 ^ 53 ≤ d * 2 ^ 53 + e
close_mag {p} {n} {e} {z} d c b = go (plus z) (less z) (one_side z) c.most c.least b.upper b.lower
  where
    go : (q m : ℕ) → (q ≡ 0) ⊎ (m ≡ 0) → (q + n) * 2 ^ 53 ≤ (m + p) * 2 ^ 53 + e → (m + p) * 2 ^ 53 ≤ (q + n) * 2 ^ 53 + e → p ≤ n + d → n ≤ p + d → (q + m) * 2 ^ 53 ≤ d * 2 ^ 53 + e
    go q m (inl z) g h u l = omega arith
    go q m (inr z) g h u l = omega arith

-- sizes bound a sum and a difference
pub sum_small : (x y : Float) (d : ℕ) → mag x + mag y ≤ d → Small (plus x + plus y) (less x + less y) d
sum_small x y d h = go (plus x) (less x) (plus y) (less y) h
  where
    go : (p n q m : ℕ) → p + n + (q + m) ≤ d → Small (p + q) (n + m) d
    go p n q m h = record { upper = omega arith; lower = omega arith }

pub difference_small : (x y : Float) (d : ℕ) → mag x + mag y ≤ d → Small (plus x + less y) (less x + plus y) d
difference_small x y d h = go (plus x) (less x) (plus y) (less y) h
  where
    go : (p n q m : ℕ) → p + n + (q + m) ≤ d → Small (p + m) (n + q) d
    go p n q m h = record { upper = omega arith; lower = omega arith }

-- so that of a float sum or difference is bounded
pub add_mag : {x y : Float} (d : ℕ) → Number x → Number y → mag x + mag y ≤ d → d ≤ limit → mag (x ⊕ y) * 2 ^ 53 ≤ d * 2 ^ 53 + d
add_mag {x} {y} d p q h l = close_mag d (add_near d p q (sum_small x y d h) l) (sum_small x y d h)

-- ---- a sum r in two parts: hi is a + b but for d / 2^53, and lo at most c × d / 2^53
pub record InParts (a b : Float) (d c : ℕ) (r : DoubleDouble) : Type 0 where
  pub hi : Close (plus a + plus b) (less a + less b) d r.hi
  pub lo_number : Number r.lo
  pub lo_small : mag r.lo * 2 ^ 53 ≤ c * d

-- ---- `from_exact_add`

-- hi - a is b but for the first rounding
fast_t : (pa na pb nb ph nh d : ℕ) → pa + na + (pb + nb) ≤ d → (ph + (na + nb)) * 2 ^ 53 ≤ (nh + (pa + pb)) * 2 ^ 53 + d → (nh + (pa + pb)) * 2 ^ 53 ≤ (ph + (na + nb)) * 2 ^ 53 + d
    → Small (ph + na) (nh + pa) (2 * d)
fast_t pa na pb nb ph nh d s g h = record { upper = omega arith; lower = omega arith }

-- and b less that is the two roundings
fast_lo : (pa na pb nb ph nh pt nt d : ℕ) → (ph + (na + nb)) * 2 ^ 53 ≤ (nh + (pa + pb)) * 2 ^ 53 + d → (nh + (pa + pb)) * 2 ^ 53 ≤ (ph + (na + nb)) * 2 ^ 53 + d
    → (pt + (nh + pa)) * 2 ^ 53 ≤ (nt + (ph + na)) * 2 ^ 53 + 2 * d → (nt + (ph + na)) * 2 ^ 53 ≤ (pt + (nh + pa)) * 2 ^ 53 + 2 * d
    → Small (pb + nt) (nb + pt) (3 * d / 2 ^ 53)
fast_lo pa na pb nb ph nh pt nt d g h k l = record { upper = omega arith; lower = omega arith }

three_and : (m d : ℕ) → m * 2 ^ 53 ≤ 3 * d / 2 ^ 53 * 2 ^ 53 + 3 * d / 2 ^ 53 → m * 2 ^ 53 ≤ 4 * d
three_and m d h = omega arith

less_than : (d l : ℕ) → 2 * d ≤ l → (d ≤ l) × (2 * d ≤ l) × (3 * d / 2 ^ 53 ≤ l) × (4 * d / 2 ^ 53 ≤ l)
less_than d l h = (omega arith, omega arith, omega arith, omega arith)

pub fast_sum : {a b : Float} (d : ℕ) → Number a → Number b → mag a + mag b ≤ d → 2 * d ≤ limit → InParts a b d 4 (from_exact_add a b)
unfolding from_exact_add
fast_sum {a} {b} d p q s l =
    let w = less_than d limit l in
    let hi = add_near d p q (sum_small a b d s) w.0 in
    let t = sub_near (2 * d) hi.number p (fast_t (plus a) (less a) (plus b) (less b) (plus (a ⊕ b)) (less (a ⊕ b)) d s hi.most hi.least) w.1 in
    let small = fast_lo (plus a) (less a) (plus b) (less b) (plus (a ⊕ b)) (less (a ⊕ b)) (plus (a ⊕ b ⊖ a)) (less (a ⊕ b ⊖ a)) d hi.most hi.least t.most t.least in
    let lo = sub_near (3 * d / 2 ^ 53) q t.number small w.2 in
    record { hi = hi; lo_number = lo.number; lo_small = three_and (mag (b ⊖ (a ⊕ b ⊖ a))) d (close_mag (3 * d / 2 ^ 53) lo small) }

-- ---- `from_full_exact_add`
-- hi - t1 is a but for the second rounding
full_t2 : (pa na pb nb ph nh p1 n1 d : ℕ) → pa + na + (pb + nb) ≤ d → (p1 + (nh + pa)) * 2 ^ 53 ≤ (n1 + (ph + na)) * 2 ^ 53 + 2 * d → (n1 + (ph + na)) * 2 ^ 53 ≤ (p1 + (nh + pa)) * 2 ^ 53 + 2 * d
    → Small (ph + n1) (nh + p1) (2 * d)
full_t2 pa na pb nb ph nh p1 n1 d s g h = record { upper = omega arith; lower = omega arith }

-- a less that is the second and the third
full_t4 : (pa na ph nh p1 n1 p2 n2 d : ℕ) → (p1 + (nh + pa)) * 2 ^ 53 ≤ (n1 + (ph + na)) * 2 ^ 53 + 2 * d → (n1 + (ph + na)) * 2 ^ 53 ≤ (p1 + (nh + pa)) * 2 ^ 53 + 2 * d
    → (p2 + (nh + p1)) * 2 ^ 53 ≤ (n2 + (ph + n1)) * 2 ^ 53 + 2 * d → (n2 + (ph + n1)) * 2 ^ 53 ≤ (p2 + (nh + p1)) * 2 ^ 53 + 2 * d
    → Small (pa + n2) (na + p2) (4 * d / 2 ^ 53)
full_t4 pa na ph nh p1 n1 p2 n2 d g h k l = record { upper = omega arith; lower = omega arith }

-- t3 + t4 is the first and the third, and those of t3 and t4 themselves
full_over : (pa na pb nb ph nh p1 n1 p2 n2 p3 n3 p4 n4 d e f : ℕ) → (nh + (pa + pb)) * 2 ^ 53 ≤ (ph + (na + nb)) * 2 ^ 53 + d → (n2 + (ph + n1)) * 2 ^ 53 ≤ (p2 + (nh + p1)) * 2 ^ 53 + 2 * d
    → (p3 + (nb + p1)) * 2 ^ 53 ≤ (n3 + (pb + n1)) * 2 ^ 53 + e → (p4 + (na + p2)) * 2 ^ 53 ≤ (n4 + (pa + n2)) * 2 ^ 53 + f
    → (p3 + p4) * 2 ^ 53 ≤ (n3 + n4) * 2 ^ 53 + (3 * d + (e + f))
full_over pa na pb nb ph nh p1 n1 p2 n2 p3 n3 p4 n4 d e f g h k l = omega arith

little : (e f d : ℕ) → e * 2 ^ 53 ≤ 3 * d → f * 2 ^ 53 ≤ 4 * d → e + f ≤ d
little e f d E F = omega arith

within : (p n d r : ℕ) → r ≤ d → p * 2 ^ 53 ≤ n * 2 ^ 53 + (3 * d + r) → p ≤ n + 4 * d / 2 ^ 53
within p n d r R h = omega arith

full_lo : (pa na pb nb ph nh p1 n1 p2 n2 p3 n3 p4 n4 d e f : ℕ) → (ph + (na + nb)) * 2 ^ 53 ≤ (nh + (pa + pb)) * 2 ^ 53 + d → (nh + (pa + pb)) * 2 ^ 53 ≤ (ph + (na + nb)) * 2 ^ 53 + d
    → (p2 + (nh + p1)) * 2 ^ 53 ≤ (n2 + (ph + n1)) * 2 ^ 53 + 2 * d → (n2 + (ph + n1)) * 2 ^ 53 ≤ (p2 + (nh + p1)) * 2 ^ 53 + 2 * d
    → (p3 + (nb + p1)) * 2 ^ 53 ≤ (n3 + (pb + n1)) * 2 ^ 53 + e → (n3 + (pb + n1)) * 2 ^ 53 ≤ (p3 + (nb + p1)) * 2 ^ 53 + e
    → (p4 + (na + p2)) * 2 ^ 53 ≤ (n4 + (pa + n2)) * 2 ^ 53 + f → (n4 + (pa + n2)) * 2 ^ 53 ≤ (p4 + (na + p2)) * 2 ^ 53 + f
    → e * 2 ^ 53 ≤ 3 * d → f * 2 ^ 53 ≤ 4 * d → Small (p3 + p4) (n3 + n4) (4 * d / 2 ^ 53)
full_lo pa na pb nb ph nh p1 n1 p2 n2 p3 n3 p4 n4 d e f g h g2 h2 g3 h3 g4 h4 E F =
    let r = little e f d E F in
    record {
      upper = within (p3 + p4) (n3 + n4) d (e + f) r (full_over pa na pb nb ph nh p1 n1 p2 n2 p3 n3 p4 n4 d e f h h2 g3 g4);
      lower = within (n3 + n4) (p3 + p4) d (e + f) r (full_over na pa nb pb nh ph n1 p1 n2 p2 n3 p3 n4 p4 d e f g g2 h3 h4);
    }

four_and : (m d : ℕ) → m * 2 ^ 53 ≤ 4 * d / 2 ^ 53 * 2 ^ 53 + 4 * d / 2 ^ 53 → m * 2 ^ 53 ≤ 5 * d
four_and m d h = omega arith

parts : (d : ℕ) → (3 * d / 2 ^ 53 * 2 ^ 53 ≤ 3 * d) × (4 * d / 2 ^ 53 * 2 ^ 53 ≤ 4 * d)
parts d = (omega arith, omega arith)

pub full_sum : {a b : Float} (d : ℕ) → Number a → Number b → mag a + mag b ≤ d → 2 * d ≤ limit → InParts a b d 5 (from_full_exact_add a b)
unfolding from_full_exact_add
full_sum {a} {b} d p q s l =
    let w = less_than d limit l in
    let h = a ⊕ b in
    let t1 = h ⊖ a in
    let t2 = h ⊖ t1 in
    let t3 = b ⊖ t1 in
    let t4 = a ⊖ t2 in
    let hi = add_near d p q (sum_small a b d s) w.0 in
    let one = sub_near (2 * d) hi.number p (fast_t (plus a) (less a) (plus b) (less b) (plus h) (less h) d s hi.most hi.least) w.1 in
    let two = sub_near (2 * d) hi.number one.number (full_t2 (plus a) (less a) (plus b) (less b) (plus h) (less h) (plus t1) (less t1) d s one.most one.least) w.1 in
    let three = sub_near (3 * d / 2 ^ 53) q one.number (fast_lo (plus a) (less a) (plus b) (less b) (plus h) (less h) (plus t1) (less t1) d hi.most hi.least one.most one.least) w.2 in
    let four = sub_near (4 * d / 2 ^ 53) p two.number (full_t4 (plus a) (less a) (plus h) (less h) (plus t1) (less t1) (plus t2) (less t2) d one.most one.least two.most two.least) w.3 in
    let small = full_lo (plus a) (less a) (plus b) (less b) (plus h) (less h) (plus t1) (less t1) (plus t2) (less t2) (plus t3) (less t3) (plus t4) (less t4) d (3 * d / 2 ^ 53) (4 * d / 2 ^ 53)
    hi.most hi.least two.most two.least three.most three.least four.most four.least (parts d).0 (parts d).1 in
    let lo = add_near (4 * d / 2 ^ 53) three.number four.number small w.3 in
    record { hi = hi; lo_number = lo.number; lo_small = four_and (mag (t3 ⊕ t4)) d (close_mag (4 * d / 2 ^ 53) lo small) }
