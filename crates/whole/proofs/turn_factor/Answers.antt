-- `turn_factor` meets its contract: where n is odd the difference is added to the pattern of 1 and wraps back to that of s, and where n is even nothing is. Assumes nothing.
use Rattle.std.proofs.Common.{◌≡◌, ℕ, ◌+◌, ◌*◌, ◌%◌, ◌^◌, ◌<◌, Bool, true, false, cond, not, T, eqb, sym, refl, ap, ◌∙◌, subst, mul-zero, mul-one, arith, eqb-true}
use borrow.Author.Tests.{eqb-false}
use lib.Ieee.{Float, binary64, fits, is_nan, nan_bits, to_bits, of_bits}
use lib.Ieee.Bits.{nan_bits_is, of_bits-to_bits, to_bits-lt}
use denote.Floats.{passes}
use Rattle.special.specs.Special.{one}
use Rattle.floats.proofs.Laws.Tests.{first, second}
use Rattle.whole.proofs.Squaring.{turn_factor}
use Rattle.whole.proofs.turn_factor.Goals as goal

-- what the pattern of s has over that of 1, and the pattern that is chosen
abbrev more : ℕ → ℕ
more w = (w + 0xc010000000000000) % 2 ^ 64

abbrev chosen : ℕ → ℕ → ℕ
chosen w n = (0x3ff0000000000000 + more w * (n % 2)) % 2 ^ 64

chosen_odd : (w n : ℕ) → w < 2 ^ 64 → n % 2 ≡ 1 → chosen w n ≡ w
chosen_odd w n h e = rw (e, mul-one (more w)) (omega (arith, h))

chosen_even : (w n : ℕ) → n % 2 ≡ 0 → chosen w n ≡ 0x3ff0000000000000
chosen_even w n e = rw (e, mul-zero (more w)) refl

-- its value
module _ (s : Float) (fit : T (fits binary64 s)) (n : ℕ) where
  is : of_bits binary64 (chosen (to_bits binary64 s) n) ≡ turn_factor n s
  unfolding of_bits
  is = go (eqb (n % 2) 1) refl
    where
      go : (t : Bool) → eqb (n % 2) 1 ≡ t → of_bits binary64 (chosen (to_bits binary64 s) n) ≡ turn_factor n s
      go true e =
          ap (of_bits binary64) (chosen_odd (to_bits binary64 s) n (to_bits-lt binary64 s fit) (eqb-true (n % 2) 1 e))
          ∙ of_bits-to_bits binary64 s fit ∙ first (eqb (n % 2) 1) s one e
      go false e = ap (of_bits binary64) (chosen_even (to_bits binary64 s) n (omega (arith, eqb-false (n % 2) 1 e))) ∙ second (eqb (n % 2) 1) s one e

  number : T (not (is_nan s)) → T (not (nan_bits binary64 (chosen (to_bits binary64 s) n)))
  unfolding is_nan
  number h = subst (λ (b : Bool). T (not b)) (sym (ap is_nan is) ∙ sym (nan_bits_is binary64 (chosen (to_bits binary64 s) n))) (go (eqb (n % 2) 1))
    where
      go : (t : Bool) → T (not (is_nan (cond t s one)))
      go true = h
      go false = tt

pub float_from_bits-result : goal.float_from_bits-result
float_from_bits-result c = number c.args.s (passes _ c.well_formed.0.1) c.args.n c.requires

pub returns : goal.returns
returns c = is c.args.s (passes _ c.well_formed.0.1) c.args.n
