-- The f32s whose sign is clear, NaN left out (`Plain`): constants among them, and what narrowing gives. An answer is to be a NaN or such a value, by a
-- test (`NanOrPlain`), and each of the two claims on NaN and sign follows from that. Assumes nothing.
use mathlib.Core.Path.{◌≡◌, refl, ap, subst}
use mathlib.Core.Bool.{Bool, true, false, not, cond}
use Prim.Native.Nat.{◌*◌, ◌^◌, ◌<◌}
use lib.Dec.{T}
use lib.Ieee.{Float, nan, inf, fin, binary32, up, down, fits, is_nan, to_bits}
use Rattle.floats.specs.Narrowing.{narrowed}
use Rattle.floats.proofs.Laws.Magnitude.{inf_under_top}
use Rattle.floats.proofs.Laws.Narrow.{narrowed_fits}
use Rattle.floats.proofs.Laws.Order.{clear, round_clear}
use Rattle.floats.proofs.Laws.Units.{bits_under_top}
use Rattle.compound.specs.Answer.{Outcome}
use Rattle.special.specs.Special.{zero, one, +infinity}

pub record Plain (r : Float) : Type 0 where
  pub in_f32 : T (fits binary32 r)
  pub is_clear : T (clear r)

-- an outcome with such a value
abbrev pub PlainValue : Outcome → Type 0
PlainValue o = Plain o.value

-- a NaN where the test is true, and such a value where it is false
abbrev pub NanOrPlain : Bool → Float → Type 0
NanOrPlain true r = r ≡ nan
NanOrPlain false r = Plain r

-- so the test tells whether the answer is a NaN
pub nan_by_test : (b : Bool) (r : Float) → NanOrPlain b r → is_nan r ≡ b
unfolding is_nan
nan_by_test true r e = ap is_nan e
nan_by_test false nan p = absurd p.is_clear
nan_by_test false (inf s) p = refl
nan_by_test false (fin s m e) p = refl

-- and any other answer has 0 for its highest bit
pub clear_sign : (b : Bool) (r : Float) → NanOrPlain b r → T (not (is_nan r)) → to_bits binary32 r < 2 ^ 31
unfolding is_nan to_bits
clear_sign true r e n = absurd (subst (λ (x : Float). T (not (is_nan x))) e n)
clear_sign false nan p n = absurd n
clear_sign false (inf true) p n = absurd p.is_clear
clear_sign false (inf false) p n = inf_under_top binary32
clear_sign false (fin true m e) p n = absurd p.is_clear
clear_sign false (fin false m e) p n = bits_under_top binary32 m e p.in_f32

-- the three constants that are answers
pub plain_zero : Plain zero
unfolding fits
plain_zero = record { in_f32 = tt; is_clear = tt }

pub plain_one : Plain one
unfolding fits
plain_one = record { in_f32 = tt; is_clear = tt }

pub plain_infinity : Plain +infinity
unfolding fits
plain_infinity = record { in_f32 = tt; is_clear = tt }

-- a value narrowed
narrowed_clear : (v : Float) → T (clear v) → T (clear (narrowed v))
unfolding narrowed
narrowed_clear nan c = absurd c
narrowed_clear (inf s) c = c
narrowed_clear (fin true m e) c = absurd c
narrowed_clear (fin false m e) c = round_clear binary32 (m * up e) (down e)

pub plain_narrowed : (v : Float) → T (clear v) → Plain (narrowed v)
plain_narrowed v c = record { in_f32 = narrowed_fits v; is_clear = narrowed_clear v c }

-- one of two values
pub either {ℓ} : (P : Float → Type ℓ) (b : Bool) (x y : Float) → P x → P y → P (cond b x y)
either P true x y p q = p
either P false x y p q = q
