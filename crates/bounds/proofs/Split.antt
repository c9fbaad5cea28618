-- `split`, from above, where nothing overflows: hi is within 2^-25 of a, relatively, lo at most 2^-25 of a, and their sum within 2^-78 of it (`split_near`). Assumes
-- nothing.
use mathlib.Core.Path.{◌≡◌, refl, sym, subst}
use Prim.Native.Nat.{ℕ, zero, suc, ◌+◌, ◌*◌, ◌/◌, ◌^◌, ◌≤◌, ◌<◌}
use native.Mathlib.Nat.{le_trans, le_of_eq, le_of_mul-le-mul_right, mul-le-mul_right}
use native.Mathlib.Omega.{arith}
use lib.Ieee.{Float, fits}
use Rattle.floats.specs.Operations.{◌⊕◌, ◌⊖◌, ◌⊗◌}
use Rattle.double_double.specs.DoubleDouble.{splitter, split}
use Rattle.bounds.proofs.Values.{per_one, per_one_pos, plus, less, mag, Number}
use Rattle.bounds.proofs.Operation.{limit, Small, add_near, sub_near, mul_near}
use Rattle.bounds.proofs.Sums.{past, close_mag, difference_small}

-- ---- `split`
splitter_number : Number splitter
splitter_number = record { held = unfold fits in tt; plain = tt }

splitter_mag : mag splitter ≡ 134217729 * per_one
unfolding per_one
splitter_mag = refl

-- 2^27 + 1 times a, for an a of A units
first : (m A w : ℕ) → 0 < w → m * w * 2 ^ 53 ≤ 134217729 * w * A * 2 ^ 53 + 134217729 * w * A + w * 2 ^ 52 → m ≤ 134217730 * A + 1
first m A w W h = bring m A (le_of_mul-le-mul_right g W)
  where
    g : m * 2 ^ 53 * w ≤ (134217729 * A * 2 ^ 53 + 134217729 * A + 2 ^ 52) * w
    g = omega arith

    more : (A X m : ℕ) → X ≤ A * 2 ^ 28 → m * 2 ^ 53 ≤ X * 2 ^ 53 + X + 2 ^ 52 → m ≤ X + (A + 1)
    more A X m x h = omega arith

    bring : (m A : ℕ) → m * 2 ^ 53 ≤ 134217729 * A * 2 ^ 53 + 134217729 * A + 2 ^ 52 → m ≤ 134217730 * A + 1
    bring m A h = le_trans (more A (134217729 * A) m (omega arith) h) (le_of_eq (joined A))
      where
        joined : (A : ℕ) → 134217729 * A + (A + 1) ≡ 134217730 * A + 1
        joined A = omega arith

second : (A m : ℕ) → m ≤ 134217730 * A + 1 → A + m ≤ 134217731 * A + 1
second A m h = omega arith

-- t1 + t2 is a but for the rounding of t2
third : (pa na p1 n1 p2 n2 : ℕ) → (p2 + (na + p1)) * 2 ^ 53 ≤ (n2 + (pa + n1)) * 2 ^ 53 + (134217731 * (pa + na) + 1) → (n2 + (pa + n1)) * 2 ^ 53 ≤ (p2 + (na + p1)) * 2 ^ 53 + (134217731 * (pa + na) + 1)
    → Small (p1 + p2) (n1 + n2) (2 * (pa + na) + 1)
third pa na p1 n1 p2 n2 g h = record {
  upper = go (pa + na) pa na p1 n1 p2 n2 (omega arith) (past (p2 + (na + p1)) (n2 + (pa + n1)) _ (pa + na + 1) g (under (pa + na)));
  lower = go (pa + na) na pa n1 p1 n2 p2 (omega arith) (past (n2 + (pa + n1)) (p2 + (na + p1)) _ (pa + na + 1) h (under (pa + na)));
}
  where
    under : (A : ℕ) → 134217731 * A + 1 ≤ (A + 1) * 2 ^ 53
    under A = omega arith

    go : (A pa na p1 n1 p2 n2 : ℕ) → pa ≤ A → p2 + (na + p1) ≤ n2 + (pa + n1) + (A + 1) → p1 + p2 ≤ n1 + n2 + (2 * A + 1)
    go A pa na p1 n1 p2 n2 g h = omega arith

-- a less hi is the two roundings
fourth : (pa na p1 n1 p2 n2 ph nh : ℕ) → (p2 + (na + p1)) * 2 ^ 53 ≤ (n2 + (pa + n1)) * 2 ^ 53 + (134217731 * (pa + na) + 1) → (n2 + (pa + n1)) * 2 ^ 53 ≤ (p2 + (na + p1)) * 2 ^ 53 + (134217731 * (pa + na) + 1)
    → (ph + (n1 + n2)) * 2 ^ 53 ≤ (nh + (p1 + p2)) * 2 ^ 53 + (2 * (pa + na) + 1) → (nh + (p1 + p2)) * 2 ^ 53 ≤ (ph + (n1 + n2)) * 2 ^ 53 + (2 * (pa + na) + 1)
    → Small (pa + nh) (na + ph) ((134217733 * (pa + na) + 2) / 2 ^ 53)
fourth pa na p1 n1 p2 n2 ph nh g h k l = record { upper = omega arith; lower = omega arith }

-- which is less than 2^-25 of a, where a is not 0, and 0 where it is
share : (A x : ℕ) → x ≤ (134217733 * A + 2) / 2 ^ 53 → x * 50331648 ≤ A
share zero x h = omega arith
share (suc A) x h = omega arith

share_hi : (A x : ℕ) → x * 50331648 ≤ A → x * 2 ^ 25 ≤ A
share_hi A x h = omega arith

share_lo : (A m x : ℕ) → x * 50331648 ≤ A → m * 2 ^ 53 ≤ x * 2 ^ 53 + x → m * 2 ^ 25 ≤ A
share_lo A m x g h = omega (arith, twice m x h)
  where
    twice : (m x : ℕ) → m * 2 ^ 53 ≤ x * 2 ^ 53 + x → m * 2 ≤ 3 * x
    twice m x h = omega arith

apart : (p n x A : ℕ) → p ≤ n + x → x * 2 ^ 25 ≤ A → p * 2 ^ 25 ≤ n * 2 ^ 25 + A
apart p n x A h g = omega arith

room : (A l : ℕ) → (A + 1) * 2 ^ 28 ≤ l → (134217731 * A + 1 ≤ l) × (2 * A + 1 ≤ l) × ((134217733 * A + 2) / 2 ^ 53 ≤ l)
room A l h = (omega arith, omega arith, le_trans (cut (134217733 * A + 2)) (omega arith))
  where
    cut : (x : ℕ) → x / 2 ^ 53 ≤ x
    cut x = omega arith

pub record Halves (a : Float) : Type 0 where
  pub hi_number : Number (split a).hi
  pub lo_number : Number (split a).lo
  pub hi_most : (plus (split a).hi + less a) * 2 ^ 25 ≤ (less (split a).hi + plus a) * 2 ^ 25 + mag a
  pub hi_least : (less (split a).hi + plus a) * 2 ^ 25 ≤ (plus (split a).hi + less a) * 2 ^ 25 + mag a
  pub lo_small : mag (split a).lo * 2 ^ 25 ≤ mag a
  pub sum_most : (plus (split a).hi + plus (split a).lo + less a) * 2 ^ 78 ≤ (less (split a).hi + less (split a).lo + plus a) * 2 ^ 78 + mag a
  pub sum_least : (less (split a).hi + less (split a).lo + plus a) * 2 ^ 78 ≤ (plus (split a).hi + plus (split a).lo + less a) * 2 ^ 78 + mag a

-- lo is a - hi but for a rounding
sum_off : (p n q m r l d A : ℕ) → (r + (n + q)) * 2 ^ 53 ≤ (l + (p + m)) * 2 ^ 53 + d → d * 2 ^ 25 ≤ A → (q + r + n) * 2 ^ 78 ≤ (m + l + p) * 2 ^ 78 + A
sum_off p n q m r l d A h g = omega arith

fits_product : (A l w : ℕ) → (A + 1) * 2 ^ 28 ≤ l → 134217729 * w * A ≤ l * w
fits_product A l w h = le_trans (le_of_eq (move w A)) (mul-le-mul_right w (under A l h))
  where
    move : (w A : ℕ) → 134217729 * w * A ≡ 134217729 * A * w
    move w A = omega arith

    under : (A l : ℕ) → (A + 1) * 2 ^ 28 ≤ l → 134217729 * A ≤ l
    under A l h = omega arith

pub split_near : {a : Float} → Number a → (mag a + 1) * 2 ^ 28 ≤ limit → Halves a
unfolding split
split_near {a} p l =
    let w = room (mag a) limit l in
    let t1 = splitter ⊗ a in
    let t2 = a ⊖ t1 in
    let h = t1 ⊕ t2 in
    let one = mul_near splitter_number p (subst (λ (k : ℕ). k * mag a ≤ limit * per_one) (sym splitter_mag) (fits_product (mag a) limit per_one l)) in
    let m1 : mag t1 ≤ 134217730 * mag a + 1 = first (mag t1) (mag a) per_one per_one_pos (subst (λ (k : ℕ). mag t1 * per_one * 2 ^ 53 ≤ k * mag a * 2 ^ 53 + k * mag a + per_one * 2 ^ 52) splitter_mag one.most) in
    let two = sub_near (134217731 * mag a + 1) p one.number (difference_small a t1 (134217731 * mag a + 1) (second (mag a) (mag t1) m1)) w.0 in
    let three = add_near (2 * mag a + 1) one.number two.number (third (plus a) (less a) (plus t1) (less t1) (plus t2) (less t2) two.most two.least) w.1 in
    let small = fourth (plus a) (less a) (plus t1) (less t1) (plus t2) (less t2) (plus h) (less h) two.most two.least three.most three.least in
    let four = sub_near ((134217733 * mag a + 2) / 2 ^ 53) p three.number small w.2 in
    let y = share (mag a) ((134217733 * mag a + 2) / 2 ^ 53) (le_of_eq refl) in
    let x = share_hi (mag a) ((134217733 * mag a + 2) / 2 ^ 53) y in
    record {
      hi_number = three.number;
      lo_number = four.number;
      hi_most = swapped (plus a) (less a) (plus h) (less h) (mag a) (apart (less a + plus h) (plus a + less h) ((134217733 * mag a + 2) / 2 ^ 53) (mag a) small.lower x);
      hi_least = swapped (less a) (plus a) (less h) (plus h) (mag a) (apart (plus a + less h) (less a + plus h) ((134217733 * mag a + 2) / 2 ^ 53) (mag a) small.upper x);
      lo_small = share_lo (mag a) (mag (a ⊖ h)) ((134217733 * mag a + 2) / 2 ^ 53) y (close_mag ((134217733 * mag a + 2) / 2 ^ 53) four small);
      sum_most = sum_off (plus a) (less a) (plus h) (less h) (plus (a ⊖ h)) (less (a ⊖ h)) ((134217733 * mag a + 2) / 2 ^ 53) (mag a) four.most x;
      sum_least = sum_off (less a) (plus a) (less h) (plus h) (less (a ⊖ h)) (plus (a ⊖ h)) ((134217733 * mag a + 2) / 2 ^ 53) (mag a) four.least x;
    }
  where
    swapped : (p n q m A : ℕ) → (n + q) * 2 ^ 25 ≤ (p + m) * 2 ^ 25 + A → (q + n) * 2 ^ 25 ≤ (m + p) * 2 ^ 25 + A
    swapped p n q m A h = omega arith
