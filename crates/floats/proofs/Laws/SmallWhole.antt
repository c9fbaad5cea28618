-- Why the nearest whole value of an x of either sign, below 2 ^ 51 in size, comes out of one addition: the sum with 3 * 2 ^ 51 is from 2 ^ 52
-- to 2 ^ 53, where the f64s are the whole numbers, and 3 * 2 ^ 51 - 2 ^ 52 is even, so a tie goes where that of x does. Taking 3 * 2 ^ 51 off again
-- is exact, and a zero that is left is +0 (`small_whole`). What is left of x over it is what is left over the nearest whole value, but where x
-- is -0 (`left_over`). Assumes nothing.
use Rattle.std.proofs.Common.{◌≡◌, ℕ, zero, suc, ◌+◌, ◌-◌, ◌*◌, ◌^◌, ◌<◌, ◌≤◌, Bool, true, false, T, ltb, ◌⊎◌, ℤ, pos, sym, refl, ap, ◌∙◌, subst, ap₂, inl, inr, le_trans, le_of_eq, lt_of_le_of_lt, le_of_lt, eq-zero-or-pos, mul-lt-mul_of_pos_right, mul-pos, zero-mul, mul-one, not-le_of_lt, arith, lit<, lit≤, ltb→lt, lt→ltb, lt-ltb}
use lib.Arith.{le→nltb}
use lib.Ieee.{Float, nan, inf, fin, binary64, up, down, round, neg, add, sub, sum, lt, fits}
use lib.Ieee.Bits.{cond_no}
use lib.Ieee.Exact.{HasValue}
use lib.Ieee.Fits.{up_pos, down_pos, round-fits}
use lib.Ieee.Nearest.{closest, closest_mono}
use lib.Ieee.Scale.{round_same}
use Rattle.floats.specs.Narrowing.{nearest_whole}
use Rattle.floats.specs.OnBits.{absolute}
use Rattle.floats.proofs.Laws.Tests.{first}
use Rattle.floats.proofs.Laws.Closest.{closest_one, closest_add_even, closest_from_even}
use Rattle.floats.proofs.Laws.Order.{round_zero}
use Rattle.floats.proofs.Laws.Sums.{SizeAtMost}
use Rattle.floats.proofs.Laws.Whole.{sum_value, in_wholes, less_whole, nearest_whole_exact}
use Rattle.floats.proofs.Laws.Cast.{add_plus_zero}

abbrev pub plus_zero : Float
plus_zero = fin false 0 (pos 0)

-- ---- +0 more changes a value only where it is -0
not_minus_zero : (y : Float) (s : Bool) (k : ℕ) → T (fits binary64 y) → HasValue y s k 1 → (s ≡ false) ⊎ (0 < k) → add binary64 y plus_zero ≡ y
not_minus_zero nan s k t v h = absurd v
not_minus_zero (inf u) s k t v h = absurd v
not_minus_zero (fin false zero e) s k t v h = add_plus_zero binary64 false zero e t
not_minus_zero (fin false (suc m) e) s k t v h = add_plus_zero binary64 false (suc m) e t
not_minus_zero (fin true (suc m) e) s k t v h = add_plus_zero binary64 true (suc m) e t
not_minus_zero (fin true zero e) s k t v (inl c) = absurd (subst T (v.0 ∙ c) tt)
not_minus_zero (fin true zero e) s k t v (inr p) = absurd (not-le_of_lt (mul-pos p (down_pos e)) (le_of_eq (sym v.1 ∙ ap (λ (n : ℕ). n * 1) (zero-mul (up e)))))

-- ---- n * 2 ^ l taken off a value that is less leaves a negative one
under_whole : (n l : ℕ) (y : Float) (q : ℕ) → 0 < q → q ≤ n * 2 ^ l → HasValue y false ((n * 2 ^ l - q) * 2 ^ 1074) (2 ^ 1074) → sub binary64 y (fin false n (pos l)) ≡ round binary64 true q 1
unfolding sub add sum neg
under_whole n l nan q p g v = absurd v
under_whole n l (inf s) q p g v = absurd v
under_whole n l (fin t m e) q p g v = subst (λ (s : Bool). sub binary64 (fin s m e) (fin false n (pos l)) ≡ round binary64 true q 1) (sym v.0) at_clear
  where
    x_is : m * up e ≡ (n * 2 ^ l - q) * down e
    x_is = in_wholes (m * up e) (n * 2 ^ l - q) (down e) v.1

    -- k - q written with r, so that nothing is cut
    less : (x q k d r : ℕ) → 0 < d → 0 < q → k ≡ q + r → x ≡ r * d → x * 1 < k * d
    less x q k d r D Q z e =
        let w : k * d ≡ (q + r) * d = ap (λ (i : ℕ). i * d) z in
        let y : 0 < q * d = mul-pos Q D in
        omega arith

    left : (x q k d r : ℕ) → k ≡ q + r → x ≡ r * d → (k * d - x * 1) * 1 ≡ q * (d * 1)
    left x q k d r z e = let w : k * d ≡ (q + r) * d = ap (λ (i : ℕ). i * d) z in omega arith

    parts : (q k : ℕ) → q ≤ k → k ≡ q + (k - q)
    parts q k h = omega arith

    at_clear : sub binary64 (fin false m e) (fin false n (pos l)) ≡ round binary64 true q 1
    at_clear =
        let z = parts q (n * 2 ^ l) g in
        sym (first (ltb (m * up e * 1) (n * 2 ^ l * down e)) (round binary64 true (n * 2 ^ l * down e - m * up e * 1) (down e * 1)) (round binary64 false (m * up e * 1 - n * 2 ^ l * down e) (down e * 1))
        (lt-ltb (m * up e * 1) (n * 2 ^ l * down e) (less (m * up e) q (n * 2 ^ l) (down e) (n * 2 ^ l - q) (down_pos e) p z x_is)))
        ∙ round_same binary64 true (n * 2 ^ l * down e - m * up e * 1) (down e * 1) q 1 (mul-pos (down_pos e) (lit< tt)) (lit< tt) (left (m * up e) q (n * 2 ^ l) (down e) (n * 2 ^ l - q) z x_is)

-- ---- the sum of a / c, with either sign, and 3 * 2 ^ 51, rounded
module _ (a c : ℕ) (C : 0 < c) (small : a < 2 ^ 51 * c) where
  pub nearest_le : closest a c ≤ 2 ^ 51
  nearest_le = le_trans (closest_mono a c (2 ^ 51) 1 C (lit< tt) (le_trans (le_of_eq (mul-one a)) (le_of_lt small))) (le_of_eq (closest_one (2 ^ 51)))

  pub more_value : HasValue (round binary64 false (a + 2 ^ 51 * c + 2 ^ 52 * c) c) false ((closest a c + 3 * 2 ^ 51) * 2 ^ 1074) (2 ^ 1074)
  more_value =
      subst (λ (n : ℕ). HasValue (round binary64 false (a + 2 ^ 51 * c + 2 ^ 52 * c) c) false (n * 2 ^ 1074) (2 ^ 1074)) (ap (λ (n : ℕ). n + 2 ^ 52) (closest_add_even a c (2 ^ 51) C refl) ∙ joined (closest a c))
      (sum_value (a + 2 ^ 51 * c) c C (under a c small))
    where
      joined : (k : ℕ) → k + 2 ^ 51 + 2 ^ 52 ≡ k + 3 * 2 ^ 51
      joined k = omega arith

      under : (a c : ℕ) → a < 2 ^ 51 * c → a + 2 ^ 51 * c < 2 ^ 52 * c
      under a c h = omega arith

  pub less_value : HasValue (round binary64 false (2 ^ 51 * c - a + 2 ^ 52 * c) c) false ((3 * 2 ^ 51 - closest a c) * 2 ^ 1074) (2 ^ 1074)
  less_value =
      subst (λ (n : ℕ). HasValue (round binary64 false (2 ^ 51 * c - a + 2 ^ 52 * c) c) false (n * 2 ^ 1074) (2 ^ 1074))
      (ap (λ (n : ℕ). n + 2 ^ 52) (closest_from_even a c (2 ^ 51) C refl (le_of_lt small)) ∙ joined (closest a c) nearest_le)
      (sum_value (2 ^ 51 * c - a) c C (under a c C))
    where
      joined : (k : ℕ) → k ≤ 2 ^ 51 → 2 ^ 51 - k + 2 ^ 52 ≡ 3 * 2 ^ 51 - k
      joined k h = omega arith

      under : (a c : ℕ) → 0 < c → 2 ^ 51 * c - a < 2 ^ 52 * c
      under a c C = omega arith

-- ---- and 3 * 2 ^ 51 taken off again: the nearest whole value, and +0 for -0
abbrev pub ByAdding : Float → Type 0
ByAdding x = sub binary64 (add binary64 x (fin false 3 (pos 51))) (fin false 3 (pos 51)) ≡ add binary64 (nearest_whole x) plus_zero

clear_whole : (m : ℕ) (e : ℤ) → T (fits binary64 (fin false m e)) → m * up e < 2 ^ 51 * down e → ByAdding (fin false m e)
unfolding add sum nearest_whole
clear_whole m e t h =
    let a = m * up e in
    let c = down e in
    let k = closest a c in
    ap (λ (y : Float). sub binary64 y (fin false 3 (pos 51))) (round_same binary64 false (a * 1 + 3 * 2 ^ 51 * c) (c * 1) (a + 2 ^ 51 * c + 2 ^ 52 * c) c (mul-pos (down_pos e) (lit< tt)) (down_pos e) (cross a c))
    ∙ less_whole 3 51 (round binary64 false (a + 2 ^ 51 * c + 2 ^ 52 * c) c) k (more_value a c (down_pos e) h)
    ∙ sym (not_minus_zero (round binary64 false k 1) false k (round-fits binary64 false k 1) (nearest_whole_exact false m e t) (inl refl))
  where
    cross : (a c : ℕ) → (a * 1 + 3 * 2 ^ 51 * c) * c ≡ (a + 2 ^ 51 * c + 2 ^ 52 * c) * (c * 1)
    cross a c = omega arith

set_whole : (m : ℕ) (e : ℤ) → T (fits binary64 (fin true m e)) → m * up e < 2 ^ 51 * down e → ByAdding (fin true m e)
unfolding add sum nearest_whole
set_whole m e t h =
    let a = m * up e in
    let c = down e in
    ap (λ (y : Float). sub binary64 y (fin false 3 (pos 51)))
    (sym (first (ltb (a * 1) (3 * 2 ^ 51 * c)) (round binary64 false (3 * 2 ^ 51 * c - a * 1) (c * 1)) _ (lt-ltb (a * 1) (3 * 2 ^ 51 * c) (under a c h)))
    ∙ round_same binary64 false (3 * 2 ^ 51 * c - a * 1) (c * 1) (2 ^ 51 * c - a + 2 ^ 52 * c) c (mul-pos (down_pos e) (lit< tt)) (down_pos e) (cross a c h))
    ∙ go (closest a c) (nearest_le a c (down_pos e) h) (less_value a c (down_pos e) h) (nearest_whole_exact true m e t) (eq-zero-or-pos (closest a c))
  where
    under : (a c : ℕ) → a < 2 ^ 51 * c → a * 1 < 3 * 2 ^ 51 * c
    under a c h = omega arith

    -- 2 ^ 51 * c - a written as r, so that nothing is cut
    apart : (a c r : ℕ) → 2 ^ 51 * c ≡ a + r → (3 * 2 ^ 51 * c - a * 1) * c ≡ (r + 2 ^ 52 * c) * (c * 1)
    apart a c r e = ap (λ (n : ℕ). n * c) (taken a c r e) ∙ ap (λ (n : ℕ). (r + 2 ^ 52 * c) * n) (sym (mul-one c))
      where
        taken : (a c r : ℕ) → 2 ^ 51 * c ≡ a + r → 3 * 2 ^ 51 * c - a * 1 ≡ r + 2 ^ 52 * c
        taken a c r e = omega arith

    cross : (a c : ℕ) → a < 2 ^ 51 * c → (3 * 2 ^ 51 * c - a * 1) * c ≡ (2 ^ 51 * c - a + 2 ^ 52 * c) * (c * 1)
    cross a c h = apart a c (2 ^ 51 * c - a) (parts a (2 ^ 51 * c) h)
      where
        parts : (a b : ℕ) → a < b → b ≡ a + (b - a)
        parts a b h = omega arith

    go : (k : ℕ) → k ≤ 2 ^ 51 → HasValue (round binary64 false (2 ^ 51 * down e - m * up e + 2 ^ 52 * down e) (down e)) false ((3 * 2 ^ 51 - k) * 2 ^ 1074) (2 ^ 1074) → HasValue (round binary64 true k 1) true k 1 → (k ≡ 0) ⊎ (0 < k)
        → sub binary64 (round binary64 false (2 ^ 51 * down e - m * up e + 2 ^ 52 * down e) (down e)) (fin false 3 (pos 51)) ≡ add binary64 (round binary64 true k 1) plus_zero
    go k l v w (inl z) =
        less_whole 3 51 _ 0 (subst (λ (n : ℕ). HasValue (round binary64 false (2 ^ 51 * down e - m * up e + 2 ^ 52 * down e) (down e)) false ((3 * 2 ^ 51 - n) * 2 ^ 1074) (2 ^ 1074)) z v)
        ∙ round_zero binary64 false 1 (lit< tt)
        ∙ sym (add_plus_zero binary64 true 0 (pos 0) (unfold fits in tt))
        ∙ ap (λ (y : Float). add binary64 y plus_zero) (sym (ap (λ (n : ℕ). round binary64 true n 1) z ∙ round_zero binary64 true 1 (lit< tt)))
    go k l v w (inr p) =
        under_whole 3 51 _ k p (le_trans l (lit≤ tt)) v ∙ sym (not_minus_zero (round binary64 true k 1) true k (round-fits binary64 true k 1) w (inr p))

below : (a c : ℕ) → T (ltb (a * 1) (1 * 2 ^ 51 * c)) → a < 2 ^ 51 * c
below a c h = go (ltb→lt (a * 1) (1 * 2 ^ 51 * c) h)
  where
    go : a * 1 < 1 * 2 ^ 51 * c → a < 2 ^ 51 * c
    go h = omega arith

pub small_whole : (x : Float) → T (fits binary64 x) → T (lt (absolute x) (fin false 1 (pos 51))) → ByAdding x
unfolding lt absolute
small_whole nan t h = absurd h
small_whole (inf s) t h = absurd h
small_whole (fin false m e) t h = clear_whole m e t (below (m * up e) (down e) h)
small_whole (fin true m e) t h = set_whole m e t (below (m * up e) (down e) h)

-- the bound, from one on the size
pub small_of_size : (b : ℕ) (x : Float) → b < 2 ^ 51 → SizeAtMost b x → T (lt (absolute x) (fin false 1 (pos 51)))
unfolding lt absolute
small_of_size b nan g h = absurd h
small_of_size b (inf s) g h = absurd h
small_of_size b (fin s m e) g h = lt→ltb (m * up e * 1) (1 * 2 ^ 51 * down e) (lt_of_le_of_lt (le_trans (le_of_eq (mul-one (m * up e))) h) (mul-lt-mul_of_pos_right g (down_pos e)))

-- ---- what is left of x over k is the same over k + 0, but where x is -0
none_off : (a : ℕ) → a - 0 ≡ a + 0
none_off a = omega arith

-- x + -0 and x + 0, for an x that is not a zero, or has its sign clear
either_zero : (u : Bool) (a c : ℕ) → (u ≡ false) ⊎ (0 < a) → sum binary64 u a true 0 c ≡ sum binary64 u a false 0 c
unfolding sum
either_zero false a c h =
    cond_no (ltb a 0) (round binary64 true (0 - a) c) (round binary64 false (a - 0) c) (le→nltb a 0 (omega arith)) ∙ ap (λ (n : ℕ). round binary64 false n c) (none_off a)
either_zero true a c (inl e) = absurd (subst T e tt)
either_zero true a c (inr p) =
    sym (cond_no (ltb a 0) (round binary64 false (0 - a) c) (round binary64 (ltb 0 a) (a - 0) c) (le→nltb a 0 (omega arith)) ∙ ap₂ (λ (v : Bool) (n : ℕ). round binary64 v n c) (lt-ltb 0 a p) (none_off a))

-- x is not -0
abbrev pub NotMinusZero : Float → Type 0
NotMinusZero nan = Unit
NotMinusZero (inf s) = Unit
NotMinusZero (fin s m e) = (s ≡ false) ⊎ (0 < m)

over_zero : (x : Float) (e : ℤ) → NotMinusZero x → sub binary64 x (fin false 0 e) ≡ sub binary64 x (fin true 0 e)
unfolding sub add neg
over_zero nan e h = refl
over_zero (inf s) e h = refl
over_zero (fin s m d) e h =
    let a = m * up d * down e in
    let c = down d * down e in
    let z : 0 * up e * down d ≡ 0 = ap (λ (n : ℕ). n * down d) (zero-mul (up e)) ∙ zero-mul (down d) in
    ap (λ (n : ℕ). sum binary64 s a true n c) z ∙ either_zero s a c (go h) ∙ ap (λ (n : ℕ). sum binary64 s a false n c) (sym z)
  where
    go : (s ≡ false) ⊎ (0 < m) → (s ≡ false) ⊎ (0 < m * up d * down e)
    go (inl e) = inl e
    go (inr p) = inr (mul-pos (mul-pos p (up_pos d)) (down_pos e))

pub left_over : (x k : Float) → T (fits binary64 k) → NotMinusZero x → sub binary64 x (add binary64 k plus_zero) ≡ sub binary64 x k
unfolding add
left_over x nan t h = refl
left_over x (inf s) t h = refl
left_over x (fin s (suc m) e) t h = ap (sub binary64 x) (add_plus_zero binary64 s (suc m) e t)
left_over x (fin false zero e) t h = ap (sub binary64 x) (add_plus_zero binary64 false zero e t)
left_over x (fin true zero e) t h = ap (sub binary64 x) (add_plus_zero binary64 true zero e t) ∙ over_zero x e h
