-- Operations that lose nothing. u - 1 is exact for a u from 1/2 to 3/2, as a plain difference (`minus_one_lem`, `times_minus_one`) and by `dd_fmla` (`fmla_minus_one`), whose product with 1 is exact
-- (`one_times`, `dekker_one`) and whose full add of an exact sum leaves no error (`full_exact`), as the fast one does (`fast_exact`). Assumes nothing.
use mathlib.Core.Path.{◌≡◌, refl, sym, ap, ap₂, ◌∙◌, subst}
use mathlib.Core.Logic.{◌⊎◌, inl, inr}
use mathlib.Core.Bool.{Bool, true, false, not}
use Prim.Native.Nat.{ℕ, zero, suc, ◌+◌, ◌-◌, ◌*◌, ◌^◌, ◌≤◌, ◌<◌}
use native.Mathlib.Nat.{le_refl, le_trans, le_of_eq, lt_of_lt_of_le, lt_irrefl, le_of_mul-le-mul_right, mul_comm, mul_assoc, mul-le-mul_right, mul-pos, add-le-add, add_comm, add_assoc, zero-mul, add-zero, zero-lt-suc}
use native.Mathlib.Omega.{arith}
use lib.Dec.{lit≤, lit<}
use lib.IntN.{pos}
use lib.Ieee.{Float, fin, binary64, round, neg, add, sub, mul, fits}
use lib.Ieee.Scale.{round_same}
use Rattle.floats.specs.Operations.{◌⊕◌, ◌⊖◌, ◌⊗◌}
use Rattle.floats.proofs.Laws.Rounding.{neg_round}
use Rattle.floats.proofs.Laws.Sums.{above, under, Signed, Rounded}
use Rattle.double_double.specs.declared.DoubleDouble.{DoubleDouble}
use Rattle.double_double.specs.DoubleDouble.{split, from_exact_mult, from_exact_add, from_full_exact_add, full_add_f64, dd_fmla}
use Rattle.bounds.proofs.Values.{per_one, per_one_pos, plus, less, mag, Number, neg_plus, neg_less, neg_number, Units, sum_in_units, Along, Product, product_in_units}
use Rattle.bounds.proofs.Operation.{limit, round_held, Same, add_exact, sub_exact, nothing, mul_near, units_mag}
use Rattle.bounds.proofs.Split.{split_near}
use Rattle.bounds.proofs.Dekker.{direction}
use Rattle.bounds.proofs.Scales.{S, S_pos}
use Rattle.bounds.proofs.Grids.{grid53, Count, rounded_count, count_as, count_same, count_size, round_few, count_sum, on_grid_clear}
use Rattle.bounds.proofs.Compared.{Positive, positive_bound}

-- ---- 1, -1 and 0
abbrev one : Float
one = fin false 1 (pos 0)

abbrev minus_one : Float
minus_one = fin true 1 (pos 0)

abbrev nought : Float
nought = fin false 0 (pos 0)

one_number : Number one
one_number = record { held = unfold fits in tt; plain = tt }

minus_one_number : Number minus_one
minus_one_number = record { held = unfold fits in tt; plain = tt }

nought_number : Number nought
nought_number = record { held = unfold fits in tt; plain = tt }

one_mag : mag one ≡ per_one
unfolding per_one
one_mag = refl

minus_one_less : less minus_one ≡ 2 ^ 53 * S
unfolding S
minus_one_less = refl

pub minus_one_count : Count S 0 (2 ^ 53) minus_one
unfolding S
minus_one_count = record { number = minus_one_number; is = refl }

-- ---- from 1/2 to 3/2 an f64 is a whole number of 2^-53
pub record Around (u : Float) : Type 0 where
  pub parts : ℕ
  pub is : plus u ≡ parts * S
  pub count : Count S parts 0 u
  pub least : 2 ^ 52 ≤ parts
  pub most : parts ≤ 3 * 2 ^ 52

pub around : {u : Float} → Positive (2 ^ 52) (3 * 2 ^ 52) u → Around u
around {u} p =
    let c = on_grid_clear grid53 p.number p.clear p.least in
    record {
      parts = c.parts;
      is = c.is;
      count = c.count;
      least = le_of_mul-le-mul_right (le_trans p.least (le_of_eq c.is)) S_pos;
      most = le_of_mul-le-mul_right (le_trans (le_of_eq (sym c.is)) p.most) S_pos;
    }

-- z is u - 1, exactly, and a whole number of 2^-53
pub record Off (u z : Float) : Type 0 where
  pub number : Number z
  pub is : plus z + 2 ^ 53 * S ≡ less z + plus u
  pub parts : ℕ
  pub grid : mag z ≡ parts * S

-- the sum of -1 and r, the same number as u
off : {u : Float} (r : Float) → Positive (2 ^ 52) (3 * 2 ^ 52) u → Same r u → Off u (r ⊕ minus_one)
off {u} r p same =
    let a = around p in
    let w = range a.parts a.least a.most in
    let c = count_as a.parts (2 ^ 53) (count_sum grid53 (count_same same a.count) minus_one_count w.0 w.1) (omega arith) in
    record { number = c.number; is = c.is ∙ ap (λ (k : ℕ). less (r ⊕ minus_one) + k) (sym a.is); parts = a.parts - 2 ^ 53 + (2 ^ 53 - a.parts); grid = count_size grid53 c }
  where
    range : (U : ℕ) → 2 ^ 52 ≤ U → U ≤ 3 * 2 ^ 52 → (U + 0 < 0 + 2 ^ 53 + 2 ^ 53) × (0 + 2 ^ 53 < U + 0 + 2 ^ 53)
    range U l m = (omega arith, omega arith)

itself : {u : Float} → Number u → Same u u
itself n = record { number = n; plus_same = refl; less_same = refl }

pub minus_one_lem : (u : Float) → Positive (2 ^ 52) (3 * 2 ^ 52) u → Off u (u ⊖ one)
unfolding sub neg
minus_one_lem u p = off u p (itself p.number)

-- ---- 1 × x is x
-- a value along the sign s, and 0 with any sign
along_parts : (s : Bool) (p m : ℕ) → under s p + above s m ≡ 0 → (above s (p + m) ≡ p) × (under s (p + m) ≡ m)
along_parts false p m h = (omega arith, omega arith)
along_parts true p m h = (omega arith, omega arith)

no_parts : (s : Bool) (p m : ℕ) → p + m ≡ 0 → (above s (p + m) ≡ p) × (under s (p + m) ≡ m)
no_parts false p m h = (omega arith, omega arith)
no_parts true p m h = (omega arith, omega arith)

no_factor : (w a : ℕ) → 0 < w → w * a ≡ 0 → a ≡ 0
no_factor w zero h e = refl
no_factor w (suc a) h e = absurd (lt_irrefl 0 (lt_of_lt_of_le (mul-pos h (zero-lt-suc a)) (le_of_eq e)))

pub one_times : (x : Float) → Number x → Same (one ⊗ x) x
one_times x n = go (direction x)
  where
    P : Product one x
    P = product_in_units one x one_number n

    move : (a w : ℕ) → w * a * w ≡ a * (w * w)
    move a w = ap (λ (z : ℕ). z * w) (mul_comm w a) ∙ mul_assoc a w w

    is : one ⊗ x ≡ round binary64 P.sign (mag x) per_one
    is =
        P.is
        ∙ ap (λ (k : ℕ). round binary64 P.sign (k * mag x) (per_one * per_one)) one_mag
        ∙ round_same binary64 P.sign (per_one * mag x) (per_one * per_one) (mag x) per_one (mul-pos per_one_pos per_one_pos) per_one_pos (move (mag x) per_one)

    units : Units P.sign (mag x) (one ⊗ x)
    units = subst (Units P.sign (mag x)) (sym is) (round_held P.sign x n)

    parts : (t : Bool) → Along t x → (P.sign ≡ t) ⊎ (mag one * mag x ≡ 0) → (above P.sign (mag x) ≡ plus x) × (under P.sign (mag x) ≡ less x)
    parts t a (inl e) = subst (λ (s : Bool). (above s (mag x) ≡ plus x) × (under s (mag x) ≡ less x)) (sym e) (along_parts t (plus x) (less x) a)
    parts t a (inr e) = no_parts P.sign (plus x) (less x) (no_factor per_one (mag x) per_one_pos (ap (λ (k : ℕ). k * mag x) (sym one_mag) ∙ e))

    same : (above P.sign (mag x) ≡ plus x) × (under P.sign (mag x) ≡ less x) → Same (one ⊗ x) x
    same e = record { number = units.number; plus_same = units.plus_is ∙ e.0; less_same = units.less_is ∙ e.1 }

    go : Along true x ⊎ Along false x → Same (one ⊗ x) x
    go (inl a) = same (parts true a (P.toward false true refl a))
    go (inr a) = same (parts false a (P.toward false false refl a))

-- so 1 × u less 1 is exact
pub times_minus_one : (u : Float) → Positive (2 ^ 52) (3 * 2 ^ 52) u → Off u (one ⊗ u ⊕ minus_one)
times_minus_one u p = off (one ⊗ u) p (one_times u p.number)

-- ---- 0 × x is 0, and 0 + 0
no_size : (p n : ℕ) → p + n ≡ 0 → (p ≡ 0) × (n ≡ 0)
no_size p n h = (omega arith, omega arith)

nought_times : (x : Float) → Number x → Same (nought ⊗ x) nought
nought_times x n =
    let no_product : mag nought * mag x ≡ 0 = zero-mul (mag x) in
    let m = mul_near nought_number n (subst (λ (k : ℕ). k ≤ limit * per_one) (sym no_product) (omega arith)) in
    let e = no_size (plus (nought ⊗ x)) (less (nought ⊗ x)) (nothing (mag (nought ⊗ x)) (mag nought * mag x) per_one per_one_pos no_product m.most) in
    record { number = m.number; plus_same = e.0; less_same = e.1 }

nought_sum : {x y : Float} → Same x nought → Same y nought → Same (x ⊕ y) nought
nought_sum {x} {y} a b =
    add_exact a.number b.number nought_number (ap₂ (λ (i j : ℕ). i + j + 0) a.plus_same b.plus_same ∙ sym (ap₂ (λ (i j : ℕ). i + j + 0) a.less_same b.less_same))

-- ---- p - n and n - p round to opposite values
record Opposite (z w : Float) : Type 0 where
  number : Number w
  plus_is : plus w ≡ less z
  less_is : less w ≡ plus z

negated : (s : Bool) (k l : ℕ) → k ≡ l → Number (round binary64 s k per_one) → Opposite (round binary64 s k per_one) (round binary64 (not s) l per_one)
negated s k l e h =
    subst (λ (j : ℕ). Opposite (round binary64 s k per_one) (round binary64 (not s) j per_one)) e
    (subst (Opposite (round binary64 s k per_one)) (neg_round binary64 s k per_one)
    (record { number = neg_number h; plus_is = neg_plus (round binary64 s k per_one); less_is = neg_less (round binary64 s k per_one) }))

both_none : (s t : Bool) (k l : ℕ) → k ≡ 0 → l ≡ 0 → Opposite (round binary64 s k per_one) (round binary64 t l per_one)
both_none s t k l e d =
    let z = round binary64 s k per_one in
    let w = round binary64 t l per_one in
    let u = round_few grid53 t l 0 (lit< tt) (d ∙ sym (zero-mul S)) in
    let i = no_size (plus z) (less z) (units_mag (round_few grid53 s k 0 (lit< tt) (e ∙ sym (zero-mul S))) ∙ e) in
    let j = no_size (plus w) (less w) (units_mag u ∙ d) in
    record { number = u.number; plus_is = j.0 ∙ sym i.1; less_is = j.1 ∙ sym i.0 }

level : (k l n p : ℕ) → k + n ≡ p → l + n ≡ p → k ≡ l
level k l n p e d = omega arith

none : (k l p n : ℕ) → k + n ≡ p → l + p ≡ n → (k ≡ 0) × (l ≡ 0)
none k l p n e d = (omega arith, omega arith)

round_opposite : (s t : Bool) (k l p n : ℕ) → Signed s k p n → Signed t l n p → Number (round binary64 s k per_one) → Opposite (round binary64 s k per_one) (round binary64 t l per_one)
round_opposite false true k l p n e d h = negated false k l (level k l n p e d) h
round_opposite true false k l p n e d h = negated true k l (level k l p n e d) h
round_opposite false false k l p n e d h = both_none false false k l (none k l p n e d).0 (none k l p n e d).1
round_opposite true true k l p n e d h = both_none true true k l (none k l n p e d).0 (none k l n p e d).1

rounded_opposite : {p n : ℕ} {z w : Float} → Rounded binary64 p n per_one z → Rounded binary64 n p per_one w → Number z → Opposite z w
rounded_opposite {p} {n} {z} {w} R Q h =
    subst (λ (y : Float). Opposite y w) (sym R.is)
    (subst (Opposite (round binary64 R.sign R.digits per_one)) (sym Q.is)
    (round_opposite R.sign Q.sign R.digits Q.digits p n R.exact Q.exact (subst Number R.is h)))

-- x - y, rounded
difference_in_units : (x y : Float) → Number x → Number y → Rounded binary64 (plus x + less y) (less x + plus y) per_one (x ⊖ y)
unfolding sub
difference_in_units x y p q =
    subst (λ (k : ℕ). Rounded binary64 (plus x + k) (less x + plus y) per_one (x ⊕ neg y)) (neg_plus y)
    (subst (λ (k : ℕ). Rounded binary64 (plus x + plus (neg y)) (less x + k) per_one (x ⊕ neg y)) (neg_less y) (sum_in_units x (neg y) p (neg_number q)))

-- y' - x' is the opposite of x - y, for the same numbers
turned_difference : (x y : Float) {v w : Float} → Number x → Number y → Same v x → Same w y → Number (x ⊖ y) → Opposite (x ⊖ y) (w ⊖ v)
turned_difference x y {v} {w} p q a b n =
    let R : Rounded binary64 (less x + plus y) (plus x + less y) per_one (w ⊖ v) =
    subst (λ (k : ℕ). Rounded binary64 k (plus x + less y) per_one (w ⊖ v)) (ap₂ ◌+◌ b.plus_same a.less_same ∙ add_comm (plus y) (less x))
    (subst (λ (k : ℕ). Rounded binary64 (plus w + less v) k per_one (w ⊖ v)) (ap₂ ◌+◌ b.less_same a.plus_same ∙ add_comm (less y) (plus x)) (difference_in_units w v b.number a.number)) in
    rounded_opposite (difference_in_units x y p q) R n

-- ---- Dekker's product of 1 and u: u, and no error
split_one : split one ≡ record { lo = nought; hi = one }
unfolding split sub add mul
split_one = refl

error_of_one : (u h r : Float) → Number u → Number h → Number (u ⊖ h) → Same r u → Same (nought ⊗ (u ⊖ h) ⊕ (nought ⊗ h ⊕ (one ⊗ (u ⊖ h) ⊕ (one ⊗ h ⊖ r)))) nought
error_of_one u h r p q n same =
    let l = one_times (u ⊖ h) n in
    let t = turned_difference u h p q same (one_times h q) n in
    let t2 = add_exact l.number t.number nought_number
    (ap₂ (λ (i j : ℕ). i + j + 0) l.plus_same t.plus_is ∙ ap (λ (i : ℕ). i + 0) (add_comm (plus (u ⊖ h)) (less (u ⊖ h))) ∙ sym (ap₂ (λ (i j : ℕ). i + j + 0) l.less_same t.less_is)) in
    nought_sum (nought_times (u ⊖ h) n) (nought_sum (nought_times h q) t2)

pub record TimesOne (u : Float) (r : DoubleDouble) : Type 0 where
  pub hi : Same r.hi u
  pub lo : Same r.lo nought

pub dekker_one : (u : Float) → Number u → (mag u + 1) * 2 ^ 28 ≤ limit → TimesOne u (from_exact_mult one u)
unfolding from_exact_mult split
dekker_one u p l =
    let h = split_near p l in
    let same = one_times u p in
    record {
      hi = same;
      lo = subst (λ (s : DoubleDouble). Same (s.lo ⊗ (split u).lo ⊕ (s.lo ⊗ (split u).hi ⊕ (s.hi ⊗ (split u).lo ⊕ (s.hi ⊗ (split u).hi ⊖ one ⊗ u)))) nought) (sym split_one)
          (error_of_one u (split u).hi (one ⊗ u) p h.hi_number h.lo_number same);
    }

-- ---- the full add of an exact sum has no error
level_difference : {x y : Float} → Number x → Same y x → Same (x ⊖ y) nought
level_difference {x} {y} p same = sub_exact p same.number nought_number (ap (λ (i : ℕ). i + 0) (ap (λ (i : ℕ). plus x + i) same.less_same ∙ add_comm (plus x) (less x) ∙ ap (λ (i : ℕ). less x + i) (sym same.plus_same)))

-- a sum that is exact, as one of fewer than 2^53 of a power of two is
pub record ExactSum (x y : Float) : Type 0 where
  pub number : Number (x ⊕ y)
  pub is : plus (x ⊕ y) + less x + less y ≡ less (x ⊕ y) + plus x + plus y

pub exact_sum : {x y : Float} (j P N : ℕ) → j ≤ 1900 → Number x → Number y → plus x + plus y ≡ P * 2 ^ j → less x + less y ≡ N * 2 ^ j → P < N + 2 ^ 53 → N < P + 2 ^ 53 → ExactSum x y
exact_sum {x} {y} j P N l p q e d h g =
    let c = rounded_count (record { digits = j; is = refl; low = l }) (sum_in_units x y p q) (omega arith) h g in
    record { number = c.number; is = add_assoc (plus (x ⊕ y)) (less x) (less y) ∙ ap (λ (k : ℕ). plus (x ⊕ y) + k) d ∙ c.is ∙ ap (λ (k : ℕ). less (x ⊕ y) + k) (sym e) ∙ sym (add_assoc (less (x ⊕ y)) (plus x) (plus y)) }

pub fast_exact : {a b : Float} → Number a → Number b → ExactSum a b → Same (from_exact_add a b).lo nought
unfolding from_exact_add
fast_exact p q s = level_difference q (sub_exact s.number p q s.is)

pub full_exact : {a b : Float} → Number a → Number b → Number (a ⊕ b) → plus (a ⊕ b) + less a + less b ≡ less (a ⊕ b) + plus a + plus b → Same (from_full_exact_add a b).lo nought
unfolding from_full_exact_add
full_exact {a} {b} p q n e =
    let t1 : Same (a ⊕ b ⊖ a) b = sub_exact n p q e in
    let t2 : Same (a ⊕ b ⊖ (a ⊕ b ⊖ a)) a = sub_exact n t1.number p
    (ap (λ (i : ℕ). plus (a ⊕ b) + i + less a) t1.less_same ∙ last (plus (a ⊕ b)) (less b) (less a) ∙ e ∙ last (less (a ⊕ b)) (plus a) (plus b) ∙ ap (λ (i : ℕ). less (a ⊕ b) + i + plus a) (sym t1.plus_same)) in
    nought_sum (level_difference q t1) (level_difference p t2)
  where
    last : (x y z : ℕ) → x + y + z ≡ x + z + y
    last x y z = omega arith

-- ---- `dd_fmla` of 1, u and -1
same_off : {u h z : Float} → Off u h → Same z h → Off u z
same_off {u} {h} {z} o s = record {
  number = s.number;
  is = ap (λ (i : ℕ). i + 2 ^ 53 * S) s.plus_same ∙ o.is ∙ ap (λ (i : ℕ). i + plus u) (sym s.less_same);
  parts = o.parts;
  grid = ap₂ ◌+◌ s.plus_same s.less_same ∙ o.grid;
}

-- nothing plus h
nought_plus : {l h : Float} → Same l nought → Number h → Same (l ⊕ h) h
nought_plus {l} {h} s n = add_exact s.number n n (ap (λ (i : ℕ). i + plus h + less h) s.plus_same ∙ (omega arith) ∙ ap (λ (i : ℕ). i + less h + plus h) (sym s.less_same))

-- what is at most 3/2 splits
in_limit : (m : ℕ) → m ≤ 3 * 2 ^ 52 * S → (m + 1) * 2 ^ 28 ≤ limit
unfolding S limit
in_limit m h = le_trans (mul-le-mul_right (2 ^ 28) (add-le-add h (le_refl 1))) (lit≤ tt)

off_exact : {u r : Float} → Positive (2 ^ 52) (3 * 2 ^ 52) u → Same r u → Off u (r ⊕ minus_one) → plus (r ⊕ minus_one) + less r + less minus_one ≡ less (r ⊕ minus_one) + plus r + plus minus_one
off_exact {u} {r} p s o =
    ap₂ (λ (i j : ℕ). plus (r ⊕ minus_one) + i + j) (s.less_same ∙ p.clear) minus_one_less
    ∙ ap (λ (i : ℕ). i + 2 ^ 53 * S) (add-zero (plus (r ⊕ minus_one)))
    ∙ o.is
    ∙ ap (λ (i : ℕ). less (r ⊕ minus_one) + i) (sym s.plus_same)
    ∙ sym (add-zero (less (r ⊕ minus_one) + plus r))

pub fmla_minus_one : (u : Float) → Positive (2 ^ 52) (3 * 2 ^ 52) u → Off u (dd_fmla one u minus_one)
unfolding dd_fmla full_add_f64 from_full_exact_add
fmla_minus_one u p =
    let m = dekker_one u p.number (in_limit (mag u) (positive_bound p).size) in
    let r = (from_exact_mult one u).hi in
    let o = off r p m.hi in
    let e = full_exact m.hi.number minus_one_number o.number (off_exact p m.hi o) in
    same_off o (nought_plus (nought_sum m.lo e) o.number)
