-- Which values and which patterns are a NaN's: a pattern without its sign is compared with the infinity's. Assumes nothing.
use Rattle.std.proofs.Common.{◌≡◌, ℕ, ◌*◌, ◌%◌, ◌<◌, ◌≤◌, Bool, not, T, sym, refl, ◌∙◌, subst, lt→ltb}
use lib.Arith.{le→nltb}
use lib.Ieee.{Float, nan, inf, fin, Format, hid, ones, top, is_nan, nan_bits, of_bits}
use lib.Ieee.Bits.{nan_bits_is, nan_bits_above}

pub only_nan : (x : Float) → T (is_nan x) → x ≡ nan
unfolding is_nan
only_nan nan t = refl
only_nan (inf s) t = absurd t
only_nan (fin s m d) t = absurd t

pub nan_of_above : (f : Format) (n : ℕ) → ones f * hid f < n % top f → of_bits f n ≡ nan
nan_of_above f n h =
    only_nan (of_bits f n) (subst T (sym (nan_bits_above f n) ∙ nan_bits_is f n) (lt→ltb (ones f * hid f) (n % top f) h))

pub number_of_below : (f : Format) (n : ℕ) → n % top f ≤ ones f * hid f → T (not (nan_bits f n))
number_of_below f n h = subst (λ (b : Bool). T (not b)) (sym (nan_bits_above f n)) (le→nltb (ones f * hid f) (n % top f) h)
