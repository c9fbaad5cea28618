-- No pair comes to a NaN t, to an index that is cut or to a k that is cut: the three statements of specs/Reached.antt, for every pair of patterns. An answer of the route `slow` has
-- failed the tests of the other four, which is what the theorems of Slow/SlowSign.antt ask. Assumes nothing.
use mathlib.Core.Path.{◌≡◌, refl}
use mathlib.Core.Bool.{Bool, true, false, cond}
use Prim.Native.Nat.{ℕ, ◌-◌, ◌*◌, ◌≤◌, ◌<◌}
use native.Mathlib.Nat.{le_trans, le_of_eq, mul-one}
use native.Mathlib.Omega.{arith}
use lib.Dec.{T}
use lib.IntN.{pos}
use lib.Ieee.{Float, nan, inf, fin, binary32, up, down, fits, lt, le, eq, of_bits}
use lib.Ieee.Bits.{of_bits-fits}
use Rattle.filter.specs.Right.{Inside}
use Rattle.filter.proofs.Settled.{t_number}
use Rattle.fast_path.specs.Edges.{gives_zero, gives_infinity, gives_one}
use Rattle.compound.specs.Answer.{Outcome}
use Rattle.floats.specs.Operations.{◌⊗◌}
use Rattle.floats.specs.OnBits.{absolute}
use Rattle.floats.proofs.Laws.Sums.{SizeAtMost}
use Rattle.bounds.proofs.Compared.{at_most}
use Rattle.compound.specs.declared.Route.TheVariants.{Slow as slow}
use Rattle.special.specs.Special.{is_rule}
use Rattle.whole.specs.Whole as Whole
use Rattle.fast_path.specs.Fast.{compoundf_log2p1_fast, power_place, power_index, HasPower}
use Rattle.compound.specs.Route.{from_logarithm, table_path, compound}
use Rattle.special.proofs.Tabled.{tabled}
use Rattle.answers.specs.Reached.{TNumber, slow_k, slow_rest, IndexInside, KInside, Reached}
use Rattle.answers.proofs.Slow.SlowSign.{slow_index, slow_k_lem}

-- ---- the tests that an answer of the route `slow` has failed
record Tests (x y : Float) : Type 0 where
  off : is_rule x y ≡ false
  inside : Inside (compoundf_log2p1_fast x ⊗ y)

-- where the chosen outcome is of the route `slow` and the first of two is not, the test fails
past : (b : Bool) (o q : Outcome) → (o.via ≡ slow → ⊥) → (cond b o q).via ≡ slow → (b ≡ false) × (q.via ≡ slow)
past true o q n e = absurd (n e)
past false o q n e = (refl, e)

tests : (x y : Float) → (compound x y).via ≡ slow → Tests x y
unfolding compound table_path from_logarithm
tests x y e =
    let t = compoundf_log2p1_fast x ⊗ y in
    let r = past (is_rule x y) _ _ (λ h. cc) e in
    let w = past (Whole.is_whole x y) _ _ (λ h. cc) r.1 in
    let a = past (gives_zero t) _ _ (λ h. cc) w.1 in
    let b = past (gives_infinity t) _ _ (λ h. cc) a.1 in
    let c = past (gives_one t) _ _ (λ h. cc) b.1 in
    record { off = r.0; inside = record { above = a.0; below = b.0; apart = c.0 } }

-- ---- from the theorems to the statements
not_past : (r : Float) → HasPower r → power_place r ≤ 0x10030
unfolding power_index
not_past r p = go (power_place r) p.1
  where
    go : (n : ℕ) → n - 0x10010 < 33 → n ≤ 0x10030
    go n h = omega arith

at_most_1000 : (k : Float) → SizeAtMost 1000 k → T (le (absolute k) (fin false 125 (pos 3)))
unfolding le lt eq absolute
at_most_1000 nan h = absurd h
at_most_1000 (inf s) h = absurd h
at_most_1000 (fin s m e) h = at_most (m * up e * 1) (1000 * down e) (le_trans (le_of_eq (mul-one (m * up e))) h)

module _ (x y : Float) (x_fits : T (fits binary32 x)) (y_fits : T (fits binary32 y)) where
  t_is : TNumber x y
  unfolding TNumber
  t_is e = t_number x y (tabled x y x_fits y_fits e)

  index_is : IndexInside x y
  unfolding IndexInside
  index_is e =
      let s = tests x y e in
      let p = slow_index x y (tabled x y x_fits y_fits s.off) s.inside in
      (p.0, not_past (slow_rest x y) p)

  k_is : KInside x y
  unfolding KInside
  k_is e =
      let s = tests x y e in
      at_most_1000 (slow_k x y) (slow_k_lem x y (tabled x y x_fits y_fits s.off) s.inside).0

pub reached : (nx ny : ℕ) → Reached nx ny
reached nx ny =
    let x = of_bits binary32 nx in
    let y = of_bits binary32 ny in
    let f = of_bits-fits binary32 nx in
    let g = of_bits-fits binary32 ny in
    record { t_number = t_is x y f g; index_inside = index_is x y f g; k_inside = k_is x y f g }
