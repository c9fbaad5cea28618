-- `from_exact_add` for a second term that is small beside the first: lo is one rounding at most and a little, and hi and lo together are the exact sum but for a little (`small_term`). With
-- K and L for the sizes of the terms on a scale, a little is a 2^53th of L, and a few. The sum of such a pair is near that of the terms, or of near ones (`sums_near`). Assumes nothing.
use Rattle.std.proofs.Common.{ℕ, ◌+◌, ◌*◌, ◌/◌, ◌^◌, ◌≤◌, le_refl, le_trans, le_of_eq, add-le-add, mul-le-mul_right, mul_right_comm, arith, T, leb, leb→le}
use lib.Ieee.{Float}
use Rattle.floats.specs.Operations.{◌⊕◌, ◌⊖◌}
use Rattle.double_double.specs.declared.DoubleDouble.{DoubleDouble}
use Rattle.double_double.specs.DoubleDouble.{from_exact_add}
use Rattle.bounds.proofs.Values.{plus, less, Number}
use Rattle.bounds.proofs.Operation.{limit, Small, sub_near}
use Rattle.bounds.proofs.Sums.{past, rounded_part}
use Rattle.bounds.proofs.Scales.{Scale, Bound, at, ok, sum_k, one_part, small_limit, add_bound, sub_small_bound}
use Rattle.bounds.proofs.Distances.{Apart, sum_off, add_apart_right}
use Rattle.bounds.proofs.Apart.{apart_same}
use Rattle.slow_filter.proofs.Regrouped.{turned_sides}

-- ---- a difference that is small is off the exact one by a rounding of it
sub_off : {μ : ℕ} {x y : Float} (K : ℕ) → Scale μ → Number x → Number y → Small (plus x + less y) (less x + plus y) (K * μ) → T (ok K)
    → Small (plus (x ⊖ y) + (less x + plus y)) (less (x ⊖ y) + (plus x + less y)) ((K / 2 ^ 53 + 1) * μ)
sub_off {μ} {x} {y} K s p q b t =
    let z = x ⊖ y in
    let c = sub_near (K * μ) p q b (one_part (K * μ) limit (small_limit K μ t s.bounded)).0 in
    let E : K * μ ≤ (K / 2 ^ 53 + 1) * μ * 2 ^ 53 = le_trans (mul-le-mul_right μ (rounded_part K)) (le_of_eq (mul_right_comm (K / 2 ^ 53 + 1) (2 ^ 53) μ)) in
    record {
      upper = past (plus z + (less x + plus y)) (less z + (plus x + less y)) (K * μ) ((K / 2 ^ 53 + 1) * μ) c.most E;
      lower = past (less z + (plus x + less y)) (plus z + (less x + plus y)) (K * μ) ((K / 2 ^ 53 + 1) * μ) c.least E;
    }

-- ---- the three roundings: of the sum, of what is taken from it, and of lo
abbrev pub first_k : ℕ → ℕ → ℕ
first_k K L = (K + L) / 2 ^ 53 + 1

abbrev pub second_k : ℕ → ℕ → ℕ
second_k K L = (L + first_k K L) / 2 ^ 53 + 1

abbrev pub third_k : ℕ → ℕ → ℕ
third_k K L = (first_k K L + second_k K L) / 2 ^ 53 + 1

pub record Parts (μ E D : ℕ) (a b : Float) (r : DoubleDouble) : Type 0 where
  pub low : Bound μ E r.lo
  pub over : plus r.hi + plus r.lo + (less a + less b) ≤ less r.hi + less r.lo + (plus a + plus b) + D * μ
  pub under : less r.hi + less r.lo + (plus a + plus b) ≤ plus r.hi + plus r.lo + (less a + less b) + D * μ

-- larger numbers do as well
pub parts_at : {μ E D : ℕ} {a b : Float} {r : DoubleDouble} (F G : ℕ) → Parts μ E D a b r → T (leb E F) → T (leb D G) → Parts μ F G a b r
parts_at {μ} {E} {D} F G p t u = record { low = at F p.low t; over = wider _ _ p.over; under = wider _ _ p.under }
  where
    wider : (x y : ℕ) → x ≤ y + D * μ → x ≤ y + G * μ
    wider x y h = le_trans h (add-le-add (le_refl y) (mul-le-mul_right μ (leb→le D G u)))

pub small_term : {μ K L : ℕ} {a b : Float} → Bound μ K a → Bound μ L b → T (ok (K + L)) → T (ok (L + first_k K L)) → T (ok (first_k K L + second_k K L))
    → Parts μ (first_k K L + second_k K L + third_k K L) (second_k K L + third_k K L) a b (from_exact_add a b)
unfolding from_exact_add
small_term {μ} {K} {L} {a} {b} p q f g h =
    let h1 = a ⊕ b in
    let t = h1 ⊖ a in
    let l = b ⊖ t in
    let n1 = (add_bound p q f).number in
    let one = sum_off p q f in
    let taken = second_small (plus a) (less a) (plus b) (less b) (plus h1) (less h1) L (first_k K L) μ q.size one.upper one.lower in
    let n2 = (sub_small_bound (L + first_k K L) p.scale n1 p.number taken g).number in
    let two = sub_off (L + first_k K L) p.scale n1 p.number taken g in
    let left = third_small (plus a) (less a) (plus b) (less b) (plus h1) (less h1) (plus t) (less t) (first_k K L) (second_k K L) μ one.upper one.lower two.upper two.lower in
    let three = sub_off (first_k K L + second_k K L) p.scale q.number n2 left h in
    record {
      low = sub_small_bound (first_k K L + second_k K L) p.scale q.number n2 left h;
      over = all (plus a) (less a) (plus b) (less b) (plus h1) (less h1) (plus t) (less t) (plus l) (less l) (second_k K L) (third_k K L) μ two.lower three.upper;
      under = all (less a) (plus a) (less b) (plus b) (less h1) (plus h1) (less t) (plus t) (less l) (plus l) (second_k K L) (third_k K L) μ two.upper three.lower;
    }
  where
    second_small : (pa na pb nb ph nh L E μ : ℕ) → pb + nb ≤ L * μ → ph + (na + nb) ≤ nh + (pa + pb) + E * μ → nh + (pa + pb) ≤ ph + (na + nb) + E * μ → Small (ph + na) (nh + pa) ((L + E) * μ)
    second_small pa na pb nb ph nh L E μ s g h = record { upper = omega arith; lower = omega arith }

    third_small : (pa na pb nb ph nh pt nt E F μ : ℕ) → ph + (na + nb) ≤ nh + (pa + pb) + E * μ → nh + (pa + pb) ≤ ph + (na + nb) + E * μ → pt + (nh + pa) ≤ nt + (ph + na) + F * μ → nt + (ph + na) ≤ pt + (nh + pa) + F * μ
        → Small (pb + nt) (nb + pt) ((E + F) * μ)
    third_small pa na pb nb ph nh pt nt E F μ g h i j = record { upper = omega arith; lower = omega arith }

    all : (pa na pb nb ph nh pt nt pl nl F G μ : ℕ) → nt + (ph + na) ≤ pt + (nh + pa) + F * μ → pl + (nb + pt) ≤ nl + (pb + nt) + G * μ → ph + pl + (na + nb) ≤ nh + nl + (pa + pb) + (F + G) * μ
    all pa na pb nb ph nh pt nt pl nl F G μ g h = omega arith

-- ---- a pair that is near one that is a + b
pub near_parts : {μ E D F H K : ℕ} {a b h l : Float} {r : DoubleDouble} → Parts μ E D a b r → Apart μ H h r.hi → Apart μ K l r.lo → Bound μ F l → Parts μ F (D + (H + K)) a b (record { lo = l; hi = h })
near_parts {μ} {E} {D} {F} {H} {K} {a} {b} {h} {l} {r} p f g c = record {
  low = c;
  over = go (plus r.hi) (less r.hi) (plus r.lo) (less r.lo) (plus h) (less h) (plus l) (less l) (less a + less b) (plus a + plus b) D H K μ p.over f.over g.over;
  under = go (less r.hi) (plus r.hi) (less r.lo) (plus r.lo) (less h) (plus h) (less l) (plus l) (plus a + plus b) (less a + less b) D H K μ p.under (turned_sides (less h) (plus h) (less r.hi) (plus r.hi) _ f.under)
      (turned_sides (less l) (plus l) (less r.lo) (plus r.lo) _ g.under);
}
  where
    go : (ph nh pl nl pi ni pm nm x y D H K μ : ℕ) → ph + pl + x ≤ nh + nl + y + D * μ → pi + nh ≤ ni + ph + H * μ → pm + nl ≤ nm + pl + K * μ → pi + pm + x ≤ ni + nm + y + (D + (H + K)) * μ
    go ph nh pl nl pi ni pm nm x y D H K μ f g h = omega arith

-- a term that is added to lo
pub more_low : {μ K E D : ℕ} {a b l : Float} {r : DoubleDouble} → Bound μ K l → Parts μ E D a b r → T (ok (K + E)) → Parts μ (sum_k K E) (D + (0 + (K + ((K + E) / 2 ^ 53 + 1)))) a b (record { lo = l ⊕ r.lo; hi = r.hi })
more_low {r = r} k p t = near_parts p (apart_same r.hi) (add_apart_right k p.low t) (add_bound k p.low t)

-- the parts of the parts
pub parts_through : {μ E D F G : ℕ} {a b : Float} {q r : DoubleDouble} → Parts μ E D a b r → Parts μ F G r.hi r.lo q → Parts μ F (D + G) a b q
parts_through {μ} {E} {D} {F} {G} {a} {b} {q} {r} p s = record {
  low = s.low;
  over = go (plus q.hi + plus q.lo) (less q.hi + less q.lo) (plus r.hi + plus r.lo) (less r.hi + less r.lo) (plus a + plus b) (less a + less b) D G μ p.over s.over;
  under = go (less q.hi + less q.lo) (plus q.hi + plus q.lo) (less r.hi + less r.lo) (plus r.hi + plus r.lo) (less a + less b) (plus a + plus b) D G μ p.under s.under;
}
  where
    go : (x y u v m n D G μ : ℕ) → u + n ≤ v + m + D * μ → x + v ≤ y + u + G * μ → x + n ≤ y + m + (D + G) * μ
    go x y u v m n D G μ g h = omega arith

-- hi + lo and a + c, for a c that is near b: the two roundings, and the distances
pub sums_near : {μ E D H K L A : ℕ} {a b c : Float} {r : DoubleDouble} → Parts μ E D a b r → Bound μ H r.hi → Bound μ K a → Bound μ L c → Apart μ A b c → T (ok (H + E)) → T (ok (K + L))
    → Apart μ ((H + E) / 2 ^ 53 + 1 + D + A + ((K + L) / 2 ^ 53 + 1)) (r.hi ⊕ r.lo) (a ⊕ c)
sums_near {μ} {E} {D} {H} {K} {L} {A} {a} {b} {c} {r} p h k l d f g =
    let x = r.hi ⊕ r.lo in
    let y = a ⊕ c in
    let o = sum_off h p.low f in
    let w = sum_off k l g in
    record {
      over = go (plus x) (less x) (plus r.hi) (less r.hi) (plus r.lo) (less r.lo) (plus a) (less a) (plus b) (less b) (plus c) (less c) (plus y) (less y) ((H + E) / 2 ^ 53 + 1) D A ((K + L) / 2 ^ 53 + 1) μ o.upper p.over d.over w.lower;
      under = turned_sides (plus y) (less y) (plus x) (less x) _
          (go (less x) (plus x) (less r.hi) (plus r.hi) (less r.lo) (plus r.lo) (less a) (plus a) (less b) (plus b) (less c) (plus c) (less y) (plus y) ((H + E) / 2 ^ 53 + 1) D A ((K + L) / 2 ^ 53 + 1) μ o.lower p.under (turned_sides (less b) (plus b) (less c) (plus c) _ d.under) w.upper);
    }
  where
    go : (px nx ph nh pl nl pa na pb nb pc nc py ny R D A T μ : ℕ) → px + (nh + nl) ≤ nx + (ph + pl) + R * μ → ph + pl + (na + nb) ≤ nh + nl + (pa + pb) + D * μ → pb + nc ≤ nb + pc + A * μ → ny + (pa + pc) ≤ py + (na + nc) + T * μ
        → px + ny ≤ nx + py + (R + D + A + T) * μ
    go px nx ph nh pl nl pa na pb nb pc nc py ny R D A T μ f g h i = omega arith
