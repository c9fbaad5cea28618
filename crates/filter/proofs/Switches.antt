-- Where t' is clear of the switches of k and of the index, what is near it has the same: the same nearest whole number (`same_whole`) and, for what is left of it, the same index of the
-- power (`same_index`). Assumes nothing.
use Rattle.std.proofs.Common.{◌≡◌, ℕ, ◌+◌, ◌-◌, ◌*◌, ◌/◌, ◌^◌, ◌<◌, Bool, T, ltb, leb}
use lib.Ieee.{Float}
use Rattle.floats.specs.Narrowing.{nearest_whole}
use Rattle.floats.proofs.Laws.Units.{HasSign}
use Rattle.fast_path.specs.Fast.{power_index}
use Rattle.bounds.proofs.Values.{Number}
use Rattle.bounds.proofs.Scales.{S, Bound, at, ok}
use Rattle.bounds.proofs.Distances.{Apart, apart_at, apart_through, sub_apart}
use Rattle.bounds.proofs.Nearest.{whole_bound, whole_shared}
use Rattle.fast_path.proofs.Coefficients.{exponent_size}
use Rattle.fast_path.proofs.PowerSlot.{power_slot, power_nearest}
use Rattle.filter.specs.Plain.{part_of, rest_of}

-- t and t' have the sign s: a nearest whole value that is 0 has the sign of what it is nearest to
pub same_whole : {A P : ℕ} (B : ℕ) (s : Bool) (t t' : Float) → HasSign s t → HasSign s t' → Number t → Apart S A t t' → Bound S (B * 2 ^ 53) t' → Bound S P (part_of t') → T (ok (B * 2 ^ 53 + B * 2 ^ 53))
    → T (ltb (A + (P + ((B * 2 ^ 53 + B * 2 ^ 53) / 2 ^ 53 + 1))) (2 ^ 52)) → nearest_whole t ≡ nearest_whole t'
unfolding part_of
same_whole B s t t' sign sign' n a b p g h = whole_shared s t t' n b.number sign sign' (apart_through a (sub_apart b (whole_bound B b) p g)) h

-- what is left of t' has an index
pub index_inside : {P : ℕ} (t' : Float) → Bound S P (part_of t') → T (leb P (65 * 2 ^ 46)) → power_index (part_of t') < 33
index_inside t' p g = (power_slot (part_of t') (at (65 * 2 ^ 46) p g)).inside

-- and what is near it has the same
pub same_index : {A P R : ℕ} (x t' : Float) → Bound S (65 * 2 ^ 46) x → Apart S A x (part_of t') → Bound S P (part_of t') → Bound S R (rest_of t') → T (leb P (65 * 2 ^ 46)) → T (ok (P + 2 ^ 52))
    → T (leb (A + (R + ((P + 2 ^ 52) / 2 ^ 53 + 1))) (2 ^ 47 - 8)) → power_index x ≡ power_index (part_of t')
unfolding rest_of
same_index x t' b a p r f g h =
    let inside = index_inside t' p f in
    power_nearest x b (power_index (part_of t')) inside (apart_at (2 ^ 47 - 8) (apart_through a (sub_apart p (exponent_size (power_index (part_of t')) inside) r g)) h)
