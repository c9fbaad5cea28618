-- What the filter's tests say of a value: between two numbers it is bounded on the scale of 1 (`between_bound`), and a bounded value is between the edges (`inside_edges`). Assumes
-- nothing.
use Rattle.std.proofs.Common.{◌≡◌, ℕ, ◌+◌, ◌-◌, ◌*◌, ◌^◌, ◌<◌, ◌≤◌, true, false, ◌⊎◌, pos, negsuc, sym, refl, subst, inl, inr, arith, lit<}
use lib.Ieee.{Float, fin, binary64, fits, of_bits, sub, neg, le, lt}
use Rattle.bounds.proofs.Values.{plus, less, one_side, Number}
use Rattle.bounds.proofs.Scales.{S, unit, Bound, neg_bound, tested}
use Rattle.bounds.proofs.Compared.{lt_true, units_of_le}
use Rattle.fast_path.specs.Edges.{lower_edge, upper_edge}
use Rattle.filter.specs.Plain.{fast_switch_gap, part_end, rest_end}

-- between a and b, both at most K
pub between_bound : {a b x : Float} (K : ℕ) → Bound S K a → Bound S K b → Number x → le a x ≡ true → le x b ≡ true → Bound S K x
between_bound {a} {b} {x} K p q n g h = record {
  scale = unit;
  number = n;
  size = go (plus a) (less a) (plus b) (less b) (plus x) (less x) (K * S) (one_side x) p.size q.size (units_of_le p.number n g) (units_of_le n q.number h);
}
  where
    go : (pa na pb nb px nx k : ℕ) → (px ≡ 0) ⊎ (nx ≡ 0) → pa + na ≤ k → pb + nb ≤ k → pa + nx ≤ px + na → px + nb ≤ pb + nx → px + nx ≤ k
    go pa na pb nb px nx k (inl e) p q g h = omega arith
    go pa na pb nb px nx k (inr e) p q g h = omega arith

-- below a number c that is larger, and above one that is smaller
pub under_limit : {x c : Float} (K : ℕ) → Bound S K x → Number c → less c ≡ 0 → K * S < plus c → lt x c ≡ true
under_limit {x} {c} K b n e h = lt_true b.number n (omega arith)

pub over_limit : {x c : Float} (K : ℕ) → Bound S K x → Number c → plus c ≡ 0 → K * S < less c → lt c x ≡ true
over_limit {x} {c} K b n e h = lt_true n b.number (omega arith)

-- ---- the numbers of the code
pub is_minus_151 : of_bits binary64 0xc062e00000000000 ≡ fin true 151 (pos 0)
unfolding of_bits
is_minus_151 = refl

pub is_minus_299_halves : of_bits binary64 0xc062b00000000000 ≡ fin true 299 (negsuc 0)
unfolding of_bits
is_minus_299_halves = refl

pub is_minus_128 : of_bits binary64 0xc060000000000000 ≡ fin true 1 (pos 7)
unfolding of_bits
is_minus_128 = refl

pub is_129 : of_bits binary64 0x4060200000000000 ≡ fin false 129 (pos 0)
unfolding of_bits
is_129 = refl

pub is_minus_124 : of_bits binary64 0xc05f000000000000 ≡ fin true 31 (pos 2)
unfolding of_bits
is_minus_124 = refl

pub is_124 : of_bits binary64 0x405f000000000000 ≡ fin false 31 (pos 2)
unfolding of_bits
is_124 = refl

pub is_minus_1 : of_bits binary64 0xbff0000000000000 ≡ fin true 1 (pos 0)
unfolding of_bits
is_minus_1 = refl

-- what proves `low_found` and `high_found`
pub ruleset edges = (is_minus_151, is_minus_299_halves, is_minus_128, is_129)

-- ---- the numbers of the tests
-- -150 and 128
pub lower_edge_units : Number lower_edge × (plus lower_edge ≡ 0) × (less lower_edge ≡ 150 * 2 ^ 53 * S)
unfolding fits S
lower_edge_units = (record { held = tt; plain = tt }, refl, refl)

pub upper_edge_units : Number upper_edge × (less upper_edge ≡ 0) × (plus upper_edge ≡ 128 * 2 ^ 53 * S)
unfolding fits S
upper_edge_units = (record { held = tt; plain = tt }, refl, refl)

-- what is 125 at most in size is between them
pub record InsideEdges (t : Float) : Type 0 where
  pub above : lt lower_edge t ≡ true
  pub below : lt t upper_edge ≡ true

pub inside_edges : {t : Float} → Bound S (125 * 2 ^ 53) t → InsideEdges t
unfolding S
inside_edges b = record {
  above = over_limit (125 * 2 ^ 53) b lower_edge_units.0 lower_edge_units.1 (subst (λ (k : ℕ). 125 * 2 ^ 53 * S < k) (sym lower_edge_units.2) (lit< tt));
  below = under_limit (125 * 2 ^ 53) b upper_edge_units.0 upper_edge_units.1 (subst (λ (k : ℕ). 125 * 2 ^ 53 * S < k) (sym upper_edge_units.2) (lit< tt));
}

-- ±124, ±(1/2 - 2^-30) and ±(1/64 - 2^-30)
pub middle_bound : {t : Float} → Number t → le (fin true 31 (pos 2)) t ≡ true → le t (fin false 31 (pos 2)) ≡ true → Bound S (124 * 2 ^ 53) t
middle_bound n g h = between_bound (124 * 2 ^ 53) low high n g h
  where
    low : Bound S (124 * 2 ^ 53) (fin true 31 (pos 2))
    low = unfold fits in tested (124 * 2 ^ 53) (fin true 31 (pos 2)) tt

    high : Bound S (124 * 2 ^ 53) (fin false 31 (pos 2))
    high = unfold fits in tested (124 * 2 ^ 53) (fin false 31 (pos 2)) tt

-- between -c and c
pub end_bound : {t : Float} (K : ℕ) (c : Float) → Bound S K c → Number t → le t c ≡ true → le (neg c) t ≡ true → Bound S K t
end_bound K c b n g h = between_bound K (neg_bound b) b n h g

pub part_bound : {t : Float} → Number t → le t (part_end fast_switch_gap) ≡ true → le (neg (part_end fast_switch_gap)) t ≡ true → Bound S (2 ^ 52 - 2 ^ 23) t
part_bound n g h = end_bound (2 ^ 52 - 2 ^ 23) (part_end fast_switch_gap) (unfold of_bits fits sub in tested (2 ^ 52 - 2 ^ 23) (part_end fast_switch_gap) tt) n g h

pub rest_bound : {t : Float} → Number t → le t (rest_end fast_switch_gap) ≡ true → le (neg (rest_end fast_switch_gap)) t ≡ true → Bound S (2 ^ 47 - 2 ^ 23) t
rest_bound n g h = end_bound (2 ^ 47 - 2 ^ 23) (rest_end fast_switch_gap) (unfold of_bits fits sub in tested (2 ^ 47 - 2 ^ 23) (rest_end fast_switch_gap) tt) n g h
