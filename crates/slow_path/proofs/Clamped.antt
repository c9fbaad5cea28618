-- The index and the power of two of the slow path, which are cut to their ranges: the index is inside its table, and the power is one that an i64
-- holds, and its cast is defined. Inside the ranges nothing is cut (`index_unclamped`, `k_unclamped`). Assumes nothing.
use Rattle.std.proofs.Common.{◌≡◌, ℕ, ◌+◌, ◌*◌, ◌^◌, ◌<◌, ◌≤◌, min, Bool, true, false, cond, not, T, ltb, pos, negsuc, sym, refl, ap, subst, ap₂, true≢false, arith, lit≤, nltb→le}
use Rattle.std.specs.Float.{float_clamp}
use lib.Ieee.{Float, nan, inf, fin, binary64, up, down, round, lt, to_signed, is_nan, fits}
use Rattle.floats.specs.Narrowing.{nearest_whole}
use Rattle.floats.proofs.Laws.Sums.{SizeAtMost}
use Rattle.fast_path.proofs.Lifted.{Within}
use Rattle.fast_path.specs.Fast.{power_index}
use Rattle.slow_path.specs.Slow.{clamped_index, clamped_k}
use Rattle.bounds.proofs.Values.{plus, less, Number}
use Rattle.bounds.proofs.Scales.{S, Bound}
use Rattle.bounds.proofs.Compared.{lt_false}
use Rattle.fast_path.proofs.Index.{within_of_size, Castable, castable, size_under}

test_failed : (a d : ℕ) → ltb (1000 * d) (a * 1) ≡ false → a ≤ 1000 * d
test_failed a d e = size_under a 1000 d (lit≤ tt) (nltb→le (1000 * d) (a * 1) (subst (λ (b : Bool). T (not b)) (sym e) tt))

-- a k that is neither above 1000 nor below -1000, whole or not
clamped_size : (k : Float) → lt (fin false 125 (pos 3)) k ≡ false → lt k (fin true 125 (pos 3)) ≡ false → T (not (is_nan k)) → SizeAtMost 1000 k
unfolding lt is_nan
clamped_size nan g h n = absurd n
clamped_size (inf true) g h n = absurd (true≢false h)
clamped_size (inf false) g h n = absurd (true≢false g)
clamped_size (fin true m e) g h n = test_failed (m * up e) (down e) h
clamped_size (fin false m e) g h n = test_failed (m * up e) (down e) g

-- an index that is cut to 32 is below 33
pub clamped_index_below : (r : Float) → clamped_index r < 33
unfolding clamped_index
clamped_index_below r = go (power_index r)
  where
    go : (i : ℕ) → min i 32 < 33
    go i = omega arith

-- and one that is below 33 is not cut
pub index_unclamped : (r : Float) → power_index r < 33 → power_index r ≡ clamped_index r
unfolding clamped_index
index_unclamped r h = go (power_index r) h
  where
    go : (i : ℕ) → i < 33 → i ≡ min i 32
    go i h = omega arith

-- a k of at most 1000 in size is not cut
pub k_unclamped : {k : Float} → Bound S (1000 * 2 ^ 53) k → clamped_k k ≡ to_signed 63 k
unfolding clamped_k
k_unclamped {k} b = ap₂ (λ (x y : Bool). cond y (negsuc 999) (cond x (pos 1000) (to_signed 63 k)))
    (lt_false high.0 b.number (over (plus k) (less k) (plus (fin false 125 (pos 3))) (less (fin false 125 (pos 3))) (1000 * 2 ^ 53 * S) high.1 high.2 b.size))
    (lt_false b.number low.0 (under (plus k) (less k) (plus (fin true 125 (pos 3))) (less (fin true 125 (pos 3))) (1000 * 2 ^ 53 * S) low.1 low.2 b.size))
  where
    high : Number (fin false 125 (pos 3)) × (less (fin false 125 (pos 3)) ≡ 0) × (plus (fin false 125 (pos 3)) ≡ 1000 * 2 ^ 53 * S)
    high = unfold fits S in (record { held = tt; plain = tt }, refl, refl)

    low : Number (fin true 125 (pos 3)) × (plus (fin true 125 (pos 3)) ≡ 0) × (less (fin true 125 (pos 3)) ≡ 1000 * 2 ^ 53 * S)
    low = unfold fits S in (record { held = tt; plain = tt }, refl, refl)

    over : (p n q m k : ℕ) → m ≡ 0 → q ≡ k → p + n ≤ k → p + m ≤ q + n
    over p n q m k e f h = omega arith

    under : (p n q m k : ℕ) → q ≡ 0 → m ≡ k → p + n ≤ k → q + n ≤ p + m
    under p n q m k e f h = omega arith

-- a k that is cut to ±1000 is within them
pub clamped_k_within : (k : Float) → Within 1000 (clamped_k k)
unfolding clamped_k lt to_signed is_nan
clamped_k_within nan = lit≤ tt
clamped_k_within (inf true) = lit≤ tt
clamped_k_within (inf false) = lit≤ tt
clamped_k_within (fin s m e) = go (fin s m e) tt (lt (fin s m e) (fin true 125 (pos 3))) (lt (fin false 125 (pos 3)) (fin s m e)) refl refl
  where
    go : (k : Float) → T (not (is_nan k)) → (a b : Bool) → lt k (fin true 125 (pos 3)) ≡ a → lt (fin false 125 (pos 3)) k ≡ b
        → Within 1000 (cond a (negsuc 999) (cond b (pos 1000) (to_signed 63 k)))
    go k n true b h g = lit≤ tt
    go k n false true h g = lit≤ tt
    go k n false false h g = within_of_size 1000 k (clamped_size k g h n)

-- the library's clamp and cast are the definition
pub clamp_is : (k : Float) → to_signed 63 (float_clamp k (fin true 125 (pos 3)) (fin false 125 (pos 3))) ≡ clamped_k k
unfolding clamped_k to_signed
clamp_is k = go (lt k (fin true 125 (pos 3))) (lt (fin false 125 (pos 3)) k)
  where
    go : (a b : Bool) → to_signed 63 (cond a (fin true 125 (pos 3)) (cond b (fin false 125 (pos 3)) k)) ≡ cond a (negsuc 999) (cond b (pos 1000) (to_signed 63 k))
    go true b = refl
    go false true = refl
    go false false = refl

-- and the cast is defined where k is whole
pub clamped_castable : (k : Float) → T (fits binary64 k) → nearest_whole k ≡ k → T (not (is_nan k)) → Castable (float_clamp k (fin true 125 (pos 3)) (fin false 125 (pos 3)))
clamped_castable k t w n = go (lt k (fin true 125 (pos 3))) refl (lt (fin false 125 (pos 3)) k) refl
  where
    low : Castable (fin true 125 (pos 3))
    low = unfold fits nearest_whole round in castable (fin true 125 (pos 3)) tt refl (lit≤ tt)

    high : Castable (fin false 125 (pos 3))
    high = unfold fits nearest_whole round in castable (fin false 125 (pos 3)) tt refl (lit≤ tt)

    go : (a : Bool) → lt k (fin true 125 (pos 3)) ≡ a → (b : Bool) → lt (fin false 125 (pos 3)) k ≡ b → Castable (cond a (fin true 125 (pos 3)) (cond b (fin false 125 (pos 3)) k))
    go true g b h = low
    go false g true h = high
    go false g false h = castable k t w (clamped_size k h g n)

-- a NaN counts as 0
pub clamped_nan : (k : Float) → k ≡ nan → pos 0 ≡ clamped_k k
unfolding clamped_k lt to_signed
clamped_nan k e = ap clamped_k (sym e)
