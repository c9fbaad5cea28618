-- For t from -150 to -127, k is from -150 to -127 (`below_normal`). Assumes nothing.
use Rattle.std.proofs.Common.{◌≡◌, ℕ, zero, suc, ◌+◌, ◌*◌, ◌/◌, ◌^◌, ◌<◌, ◌≤◌, sym, ap, ◌∙◌, subst, true, false, min, le_trans, le_of_eq, le_of_suc-le-suc, not-le_of_lt, mul-one, mul-div_cancel, mul-le-mul_right, arith, T, lit<, ℤ, pos, neg_ℤ}
use lib.IntN.{negsuc}
use mathlib.Core.Bool.{false≢true}
use Rattle.fast_path.proofs.Lifted.{Within}
use lib.Ieee.{Float, nan, inf, fin, binary64, up, down, fits, le, to_signed}
use lib.Ieee.Exact.{HasValue}
use lib.Ieee.Fits.{down_pos}
use lib.Ieee.Nearest.{closest, closest_mono}
use lib.Ieee.Scale.{finite}
use Rattle.floats.specs.Narrowing.{nearest_whole}
use Rattle.floats.proofs.Laws.Closest.{closest_one}
use Rattle.floats.proofs.Laws.Sums.{le_says, whole_at_most}
use Rattle.floats.proofs.Laws.Whole.{nearest_whole_exact}
use Rattle.fast_path.proofs.Index.{within_of_size}
use Rattle.bounds.proofs.Values.{per_one}
use Rattle.bounds.proofs.Scales.{S, one_is, Bound}
use Rattle.bounds.proofs.Compared.{units_in_size}

-- k is from -150 to -127: a value from 1/2 to 2 times 2^k is from 2^-151 to 2^-126
abbrev pub BelowNormal : ℤ → Type 0
BelowNormal (pos n) = ⊥
BelowNormal (negsuc n) = (126 ≤ n) × (n < 150)

-- the nearest whole number to what is -127 or less is -127 or less
whole_below : (m : ℕ) (e : ℤ) → T (fits binary64 (fin true m e)) → 127 * down e ≤ m * up e → Within 150 (to_signed 63 (nearest_whole (fin true m e))) → BelowNormal (to_signed 63 (nearest_whole (fin true m e)))
unfolding to_signed
whole_below m e t h = go (nearest_whole (fin true m e)) (nearest_whole_exact true m e t)
  where
    least : 127 ≤ closest (m * up e) (down e)
    least = le_trans (le_of_eq (sym (closest_one 127))) (closest_mono 127 1 (m * up e) (down e) (lit< tt) (down_pos e) (le_trans h (le_of_eq (sym (mul-one (m * up e))))))

    negative : (n : ℕ) → 127 ≤ n → Within 150 (neg_ℤ (pos n)) → BelowNormal (neg_ℤ (pos n))
    negative zero g w = absurd (not-le_of_lt (lit< tt) g)
    negative (suc n) g w = (le_of_suc-le-suc g, w)

    both : (n c : ℕ) → n ≡ c → 127 ≤ c → 127 ≤ min n (2 ^ 63)
    both n c e g = omega arith

    go : (k : Float) → HasValue k true (closest (m * up e) (down e)) 1 → Within 150 (to_signed 63 k) → BelowNormal (to_signed 63 k)
    go nan v = absurd v
    go (inf u) v = absurd v
    go (fin false n d) v = absurd (false≢true v.0)
    go (fin true n d) v =
        negative (min (n * up d / down d) (2 ^ 63))
        (both (n * up d / down d) (closest (m * up e) (down e)) (ap (λ (z : ℕ). z / down d) (sym (mul-one (n * up d)) ∙ v.1) ∙ mul-div_cancel (closest (m * up e) (down e)) (down_pos d)) least)

-- t is at most -c×2^i, which is -127 or less
pub below_normal : {t : Float} (c i : ℕ) → 127 ≤ c * 2 ^ i → Bound S (150 * 2 ^ 53) t → le t (fin true c (pos i)) ≡ true → BelowNormal (to_signed 63 (nearest_whole t))
below_normal {t} c i g b h = go t b.number.held b.number.plain (subst T (sym h) tt) within
  where
    scale : (s w : ℕ) → w ≡ s * 2 ^ 53 → 150 * 2 ^ 53 * s ≡ 150 * w
    scale s w e = omega arith

    within : Within 150 (to_signed 63 (nearest_whole t))
    within = within_of_size 150 (nearest_whole t) (whole_at_most t b.number.held 150 (units_in_size 150 t b.number (le_trans b.size (le_of_eq (scale S per_one one_is)))))

    none : (a p d : ℕ) → 0 < d → 127 * d ≤ p → a * 1 + p ≤ 0 * d + 0 * 1 → ⊥
    none a p d D g h = omega arith

    some : (a p d : ℕ) → 127 * d ≤ p → 0 * 1 + p ≤ 0 * d + a * 1 → 127 * d ≤ a
    some a p d g h = omega arith

    go : (t : Float) → T (fits binary64 t) → T (finite t) → T (le t (fin true c (pos i))) → Within 150 (to_signed 63 (nearest_whole t)) → BelowNormal (to_signed 63 (nearest_whole t))
    go nan f p h w = absurd p
    go (inf s) f p h w = absurd p
    go (fin false m e) f p h w = absurd (none (m * up e) (c * 2 ^ i * down e) (down e) (down_pos e) (mul-le-mul_right (down e) g) (le_says false m e true c (pos i) h))
    go (fin true m e) f p h w = whole_below m e f (some (m * up e) (c * 2 ^ i * down e) (down e) (mul-le-mul_right (down e) g) (le_says true m e true c (pos i) h)) w
