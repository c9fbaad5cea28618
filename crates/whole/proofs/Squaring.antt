-- The squarings of the route `whole` without a branch: every turn multiplies, by the square where the bit is 1 and by 1 where it is not, and goes on
-- past the last bit. That is the definition's power (`factors_power`), and its 4 turns are enough (`enough`). Assumes nothing.
use Rattle.std.proofs.Common.{◌≡◌, ℕ, zero, suc, ◌*◌, ◌/◌, ◌%◌, ◌^◌, ◌<◌, ◌≤◌, Bool, true, false, cond, T, eqb, leb, sym, refl, ap, ◌∙◌, subst, le_of_suc-le-suc, not-suc-le-zero, arith, le-leb, leb-true}
use native.Mathlib.Nat.{pow-succ'}
use lib.Ieee.{Float, binary64, fits}
use lib.Ieee.Fits.{mul-fits}
use Rattle.floats.specs.Operations.{◌⊗◌}
use Rattle.floats.proofs.Laws.Powers.{mul_one}
use Rattle.special.specs.Special.{one}
use Rattle.whole.specs.Whole.{squarings, whole_power}
use Rattle.floats.proofs.Laws.Tests.{first, second}

-- what a turn multiplies by
abbrev pub turn_factor : ℕ → Float → Float
turn_factor n s = cond (eqb (n % 2) 1) s one

-- the turns that are left
abbrev pub factors : ℕ → ℕ → Float → Float → Float
factors zero n s acc = acc
factors (suc turns) n s acc = factors turns (n / 2) (s ⊗ s) (acc ⊗ turn_factor (n / 2) (s ⊗ s))

-- with no bit left they change nothing
idle : (turns : ℕ) (s acc : Float) → T (fits binary64 acc) → factors turns 0 s acc ≡ acc
idle zero s acc t = refl
idle (suc turns) s acc t = ap (factors turns 0 (s ⊗ s)) (mul_one binary64 acc t) ∙ idle turns (s ⊗ s) acc t

-- a turn of the definition, and that it fits
turn : (b : Bool) (s acc : Float) → T (fits binary64 acc) → acc ⊗ cond b s one ≡ cond b (acc ⊗ s) acc
turn true s acc t = refl
turn false s acc t = mul_one binary64 acc t

turn_fits : (b : Bool) (s acc : Float) → T (fits binary64 acc) → T (fits binary64 (cond b (acc ⊗ s) acc))
turn_fits true s acc t = mul-fits binary64 acc s
turn_fits false s acc t = t

same : (turns n : ℕ) (s acc : Float) → T (fits binary64 acc) → factors turns n s acc ≡ squarings turns n s acc
unfolding squarings
same zero n s acc t = refl
same (suc turns) n s acc t = go (leb n 1) refl (λ a u. same turns (n / 2) (s ⊗ s) a u)
  where
    bit : Bool
    bit = eqb (n / 2 % 2) 1

    go : (b : Bool) → leb n 1 ≡ b → ((a : Float) → T (fits binary64 a) → factors turns (n / 2) (s ⊗ s) a ≡ squarings turns (n / 2) (s ⊗ s) a) → factors (suc turns) n s acc ≡ squarings (suc turns) n s acc
    go true e rest =
        let h : n / 2 ≡ 0 = omega (arith, leb-true n 1 e) in
        ap (λ (k : ℕ). factors turns k (s ⊗ s) (acc ⊗ turn_factor k (s ⊗ s))) h ∙ idle (suc turns) s acc t ∙ first (leb n 1) acc _ e
    go false e rest =
        ap (factors turns (n / 2) (s ⊗ s)) (turn bit (s ⊗ s) acc t) ∙ rest (cond bit (acc ⊗ (s ⊗ s)) acc) (turn_fits bit (s ⊗ s) acc t) ∙ second (leb n 1) acc _ e

-- the power, from its first factor
pub factors_power : (n : ℕ) (s : Float) → T (fits binary64 (turn_factor n s)) → factors 4 n s (turn_factor n s) ≡ whole_power s n
unfolding whole_power
factors_power n s t = same 4 n s (turn_factor n s) t

-- ---- n below 2^(turns + 1): further turns have no bit left
spare : (turns more n : ℕ) (s acc : Float) → turns ≤ more → n < 2 ^ suc turns → squarings more n s acc ≡ squarings turns n s acc
unfolding squarings
spare zero zero n s acc h l = refl
spare zero (suc more) n s acc h l = sym (first (leb n 1) acc _ (le-leb n 1 (omega (arith, l))))
spare (suc turns) zero n s acc h l = absurd (not-suc-le-zero h)
spare (suc turns) (suc more) n s acc h l =
    let next = cond (eqb (n / 2 % 2) 1) (acc ⊗ (s ⊗ s)) acc in
    ap (cond (leb n 1) acc) (spare turns more (n / 2) (s ⊗ s) next (le_of_suc-le-suc h) (halved n (2 ^ suc turns) (subst (λ (k : ℕ). n < k) (pow-succ' 2 (suc turns)) l)))
  where
    halved : (n k : ℕ) → n < 2 * k → n / 2 < k
    halved n k h = omega (arith, h)

pub enough : (turns n : ℕ) (s acc : Float) → n ≤ 16 → 4 ≤ turns → squarings turns n s acc ≡ squarings 4 n s acc
enough turns n s acc h g = spare 4 turns n s acc g (omega (arith, h))
