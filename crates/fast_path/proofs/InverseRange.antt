-- What has an inverse is from 5/8 to 3/2 (`inverse_range`): t + 2 would lie outside the table otherwise, since adding 2 keeps the order and so do the patterns. Assumes nothing.
use Rattle.std.proofs.Common.{◌≡◌, ℕ, ◌+◌, ◌-◌, ◌*◌, ◌/◌, ◌^◌, ◌<◌, ◌≤◌, Bool, true, false, not, T, leb, ◌⊎◌, negsuc, sym, refl, subst, inl, inr, not-le_of_lt, arith, lit≤, leb→le}
use lib.Dec.{nleb→lt}
use lib.Ieee.{Float, nan, inf, fin, binary64, add, le, fits, to_bits, of_bits}
use lib.Ieee.Fits.{add-fits}
use lib.Ieee.Scale.{finite}
use Rattle.floats.specs.Operations.{◌⊕◌, f64}
use Rattle.floats.proofs.Laws.Order.{pattern_mono}
use Rattle.floats.proofs.Laws.Sums.{add_mono_left}
use Rattle.floats.proofs.Laws.Units.{bits_of_sign}
use Rattle.bounds.proofs.Values.{plus, less, one_side, Number}
use Rattle.bounds.proofs.Scales.{S, S_pos}
use Rattle.bounds.proofs.Compared.{Positive, le_of_units}
use Rattle.fast_path.specs.Fast.{inverse_index, HasInverse}
use Rattle.fast_path.proofs.Index.{above_clear}

-- the pattern of t + 2, for a t that has an inverse
abbrev Inside : ℕ → Type 0
Inside v = (0x2002d ≤ v / 2 ^ 45) × (v / 2 ^ 45 - 0x2002d < 46)

too_high : (v : ℕ) → 0x400c000000000000 ≤ v → Inside v → ⊥
too_high v h i = go v h i.1
  where
    go : (v : ℕ) → 0x400c000000000000 ≤ v → v / 35184372088832 - 0x2002d < 46 → ⊥
    go v h i = omega arith

too_low : (v : ℕ) → v ≤ 0x4005000000000000 → Inside v → ⊥
too_low v h i = go v h i.0
  where
    go : (v : ℕ) → v ≤ 0x4005000000000000 → 0x2002d ≤ v / 35184372088832 → ⊥
    go v h i = omega arith

-- 5/8 and 3/2, and with 2 added
abbrev low : Float
low = fin false 5 (negsuc 2)

abbrev high : Float
high = fin false 3 (negsuc 0)

abbrev two : Float
two = f64 0x4000000000000000

above_high : (t : Float) → T (finite t) → T (le high t) → Inside (to_bits binary64 (t ⊕ two)) → ⊥
unfolding add of_bits fits to_bits
above_high t p h i =
    let l : T (le (fin false 7 (negsuc 0)) (t ⊕ two)) = add_mono_left binary64 two high t tt tt p h in
    too_high (to_bits binary64 (t ⊕ two)) (pattern_mono binary64 (fin false 7 (negsuc 0)) (t ⊕ two) tt (above_clear 6 (negsuc 0) (t ⊕ two) l) tt (add-fits binary64 t two) l) i

below_low : (w : Float) → T (fits binary64 w) → T (le w (fin false 21 (negsuc 2))) → Inside (to_bits binary64 w) → ⊥
unfolding le fits to_bits
below_low nan f h i = absurd h
below_low (inf true) f h i = absurd (not-le_of_lt i.1 (lit≤ tt))
below_low (inf false) f h i = absurd h
below_low (fin true m e) f h i = too_high (to_bits binary64 (fin true m e)) (subst (λ (k : ℕ). 0x400c000000000000 ≤ k) (sym (bits_of_sign binary64 true m e f)) (over (to_bits binary64 (fin false m e)))) i
  where
    over : (k : ℕ) → 0x400c000000000000 ≤ 2 ^ 63 + k
    over k = omega arith
below_low (fin false m e) f h i = too_low (to_bits binary64 (fin false m e)) (pattern_mono binary64 (fin false m e) (fin false 21 (negsuc 2)) tt tt f tt h) i

module _ (t : Float) (n : Number t) (i : Inside (to_bits binary64 (t ⊕ two))) where
  low_number : Number low
  low_number = record { held = unfold fits in tt; plain = tt }

  high_number : Number high
  high_number = record { held = unfold fits in tt; plain = tt }

  low_plus : plus low ≡ 5 * 2 ^ 50 * S
  unfolding S
  low_plus = refl

  high_plus : plus high ≡ 3 * 2 ^ 52 * S
  unfolding S
  high_plus = refl

  least : 5 * 2 ^ 50 * S ≤ plus t
  unfolding add of_bits
  least = go (leb (5 * 2 ^ 50 * S) (plus t)) (leb→le (5 * 2 ^ 50 * S) (plus t)) (nleb→lt (5 * 2 ^ 50 * S) (plus t))
    where
      under : (p n q a : ℕ) → q ≡ a → p < a → p + 0 ≤ q + n
      under p n q a e h = omega arith

      go : (b : Bool) → (T b → 5 * 2 ^ 50 * S ≤ plus t) → (T (not b) → plus t < 5 * 2 ^ 50 * S) → 5 * 2 ^ 50 * S ≤ plus t
      go true y l = y tt
      go false y l =
          absurd (below_low (t ⊕ two) (add-fits binary64 t two)
          (add_mono_left binary64 two t low tt n.plain tt (le_of_units t low n low_number (under (plus t) (less t) (plus low) (5 * 2 ^ 50 * S) low_plus (l tt)))) i)

  none_below : less t ≡ 0
  none_below = go (plus t) (less t) S (one_side t) S_pos least
    where
      go : (p n s : ℕ) → (p ≡ 0) ⊎ (n ≡ 0) → 0 < s → 5 * 2 ^ 50 * s ≤ p → n ≡ 0
      go p n s (inl e) h l = omega arith
      go p n s (inr e) h l = e

  most : plus t ≤ 3 * 2 ^ 52 * S
  most = go (leb (plus t) (3 * 2 ^ 52 * S)) (leb→le (plus t) (3 * 2 ^ 52 * S)) (nleb→lt (plus t) (3 * 2 ^ 52 * S))
    where
      over : (p n q a : ℕ) → n ≡ 0 → q ≡ a → a < p → q + n ≤ p + 0
      over p n q a z e h = omega arith

      go : (b : Bool) → (T b → plus t ≤ 3 * 2 ^ 52 * S) → (T (not b) → 3 * 2 ^ 52 * S < plus t) → plus t ≤ 3 * 2 ^ 52 * S
      go true y l = y tt
      go false y l = absurd (above_high t n.plain (le_of_units high t high_number n (over (plus t) (less t) (plus high) (3 * 2 ^ 52 * S) none_below high_plus (l tt))) i)

pub inverse_range : (t : Float) → T (fits binary64 t) → HasInverse t → Positive (5 * 2 ^ 50) (3 * 2 ^ 52) t
unfolding inverse_index add to_bits of_bits
inverse_range nan f h = absurd (not-le_of_lt h.1 (lit≤ tt))
inverse_range (inf true) f h = absurd (not-le_of_lt h.1 (lit≤ tt))
inverse_range (inf false) f h = absurd (not-le_of_lt h.1 (lit≤ tt))
inverse_range (fin s m e) f h =
    let t = fin s m e in
    let n : Number t = record { held = f; plain = tt } in
    record { number = n; clear = none_below t n h; least = least t n h; most = most t n h }
