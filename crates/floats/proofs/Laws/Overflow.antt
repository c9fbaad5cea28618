-- Where rounding overflows: from halfway between the largest value and the next power of two up, 2 ^ (emax + 1) - 2 ^ (emax - prec), the result is an
-- infinity (`round_overflows`), and below it is finite (`round_stays`). In binary32 that is 2 ^ 128 - 2 ^ 103. Assumes nothing.
use Rattle.std.proofs.Common.{◌≡◌, ℕ, suc, ◌+◌, ◌-◌, ◌*◌, ◌/◌, ◌^◌, ◌<◌, ◌≤◌, Bool, true, false, T, ◌⊎◌, sym, refl, ap, ◌∙◌, subst, inl, inr, le_trans, le_of_eq, lt_of_lt_of_le, lt_of_le_of_lt, mul-le-mul_right, div-lt_iff_lt-mul, eq-or-lt_of_le, mul-lt-mul_of_pos_right, lt_of_not-le, mul-one, mul_right_comm, arith, lit≤, pow_pos, pow-add}
use lib.Dec.{lit<}
use lib.Pow.{pow-lt}
use lib.Ieee.{Float, nan, inf, fin, Format, binary32, binary64, prec, emax, low, size, round, neg, le, of_bits}
use lib.Ieee.Digits.{size-le}
use lib.Ieee.Nearest.{closest}
use lib.Ieee.Order.{drop, round_mono}
use lib.Ieee.Exact.{HasValue}
use lib.Ieee.Scale.{grid, overflow, finite}
use Rattle.floats.specs.Narrowing.{nearest_f32, infinite_from, NearestF32Ends}
use Rattle.floats.proofs.Laws.Closest.{closest_above}
use Rattle.floats.proofs.Laws.Place.{kept_le}
use Rattle.floats.proofs.Laws.Rounding.{round_value, neg_round}

abbrev pub halfway : Format → ℕ
halfway f = 2 ^ suc (emax f) - 2 ^ (emax f - prec f)

-- ---- from there up
at_halfway : (f : Format) → round f false (halfway f) 1 ≡ inf false
unfolding round
at_halfway binary32 = refl
at_halfway binary64 = refl

only_inf : (y : Float) → T (le (inf false) y) → y ≡ inf false
unfolding le
only_inf nan t = absurd t
only_inf (inf true) t = absurd t
only_inf (inf false) t = refl
only_inf (fin s m e) t = absurd t

clear_overflows : (f : Format) (a c : ℕ) → 0 < c → halfway f * c ≤ a → round f false a c ≡ inf false
clear_overflows f a c C h =
    only_inf (round f false a c) (subst (λ (x : Float). T (le x (round f false a c))) (at_halfway f) (round_mono f (halfway f) 1 a c (pow_pos 0) C (le_trans h (le_of_eq (sym (mul-one a))))))

pub round_overflows : (f : Format) (s : Bool) (a c : ℕ) → 0 < c → halfway f * c ≤ a → round f s a c ≡ inf s
unfolding neg
round_overflows f false a c C h = clear_overflows f a c C h
round_overflows f true a c C h = sym (neg_round f false a c) ∙ ap neg (clear_overflows f a c C h)

-- ---- below it: at most `most` digits are dropped, and where all those are, the kept number stays below 2 ^ prec
abbrev most : Format → ℕ
most f = low f + suc (emax f) - prec f

top_is : (f : Format) → overflow f ≡ 2 ^ prec f * 2 ^ most f
top_is binary32 = refl
top_is binary64 = refl

-- halfway is half a last place below the overflow
halfway_is : (f : Format) → halfway f * 2 ^ low f * 2 + 2 ^ most f ≡ 2 ^ prec f * 2 ^ most f * 2
halfway_is binary32 = refl
halfway_is binary64 = refl

halfway_under : (f : Format) → halfway f * 2 ^ low f ≤ 2 ^ (prec f + most f)
halfway_under binary32 = lit≤ tt
halfway_under binary64 = lit≤ tt

spare : (z p d : ℕ) → z ≤ p + d → z - p ≤ d
spare z p d h = omega arith

more : (p x y : ℕ) → x < y → p + x < p + y
more p x y h = omega arith

-- kept * u ≤ n + u / 2 with n below 2 ^ prec * u - u / 2, for u = c * 2 ^ most
too_much : (k w d c n H : ℕ) → H * 2 + d ≡ w * d * 2 → n < H * c → k * (c * d) * 2 ≤ n * 2 + c * d → w ≤ k → ⊥
too_much k w d c n H e l h g = omega (arith, mul-le-mul_right (c * d) g, ap (λ (x : ℕ). x * c) e)

module _ (f : Format) (a c : ℕ) (C : 0 < c) (small : a < halfway f * c) where
  small_units : a * 2 ^ low f < halfway f * 2 ^ low f * c
  small_units = lt_of_lt_of_le (mul-lt-mul_of_pos_right small (pow_pos (low f))) (le_of_eq (mul_right_comm (halfway f) c (2 ^ low f)))

  drop_most : drop (prec f) (a * 2 ^ low f) c ≤ most f
  drop_most =
      spare (size (a * 2 ^ low f / c)) (prec f) (most f)
      (size-le (a * 2 ^ low f / c) (prec f + most f) ((div-lt_iff_lt-mul C).1 (lt_of_lt_of_le small_units (mul-le-mul_right c (halfway_under f)))))

  pub round_stays : grid f a c < overflow f
  round_stays = go (eq-or-lt_of_le drop_most)
    where
      at_most : closest (a * 2 ^ low f) (c * 2 ^ most f) * 2 ^ most f < overflow f
      at_most =
          lt_of_lt_of_le
          (mul-lt-mul_of_pos_right
          (lt_of_not-le
          (λ (g : 2 ^ prec f ≤ closest (a * 2 ^ low f) (c * 2 ^ most f)).
          too_much (closest (a * 2 ^ low f) (c * 2 ^ most f)) (2 ^ prec f) (2 ^ most f) c (a * 2 ^ low f) (halfway f * 2 ^ low f) (halfway_is f) small_units (closest_above (a * 2 ^ low f) (c * 2 ^ most f)) g))
          (pow_pos (most f)))
          (le_of_eq (sym (top_is f)))

      go : (drop (prec f) (a * 2 ^ low f) c ≡ most f) ⊎ (drop (prec f) (a * 2 ^ low f) c < most f) → grid f a c < overflow f
      go (inl e) = subst (λ (k : ℕ). closest (a * 2 ^ low f) (c * 2 ^ k) * 2 ^ k < overflow f) (sym e) at_most
      go (inr l) =
          lt_of_le_of_lt (mul-le-mul_right (2 ^ drop (prec f) (a * 2 ^ low f) c) (kept_le (prec f) (a * 2 ^ low f) c))
          (lt_of_lt_of_le (subst (λ (x : ℕ). x < 2 ^ (prec f + most f)) (pow-add 2 (prec f) (drop (prec f) (a * 2 ^ low f) c)) (pow-lt (more (prec f) (drop (prec f) (a * 2 ^ low f) c) (most f) l))) (le_of_eq (pow-add 2 (prec f) (most f) ∙ sym (top_is f))))

-- ---- the nearest f32 to a fraction, in document 01's numbers
finite_of_value : (x : Float) (s : Bool) (a c : ℕ) → HasValue x s a c → T (finite x)
finite_of_value nan s a c v = absurd v
finite_of_value (inf t) s a c v = absurd v
finite_of_value (fin t m e) s a c v = tt

pub nearest_f32_infinite : (a c : ℕ) → 0 < c → infinite_from * c ≤ a → nearest_f32 a c ≡ inf false
unfolding nearest_f32
nearest_f32_infinite a c C h = round_overflows binary32 false a c C h

pub nearest_f32_finite : (a c : ℕ) → 0 < c → a < infinite_from * c → T (finite (nearest_f32 a c))
unfolding nearest_f32
nearest_f32_finite a c C h =
    finite_of_value (round binary32 false a c) false (grid binary32 a c) (2 ^ 149) (round_value binary32 false a c (round_stays binary32 a c C h))

pub nearest_f32_ends : NearestF32Ends
unfolding nearest_f32 round of_bits
nearest_f32_ends = record {
  infinite = λ a c h. nearest_f32_infinite a c h.0 h.1;
  finite_below = λ a c h. nearest_f32_finite a c h.0 h.1;
  from_end = ((lit< tt, lit≤ tt), (lit< tt, lit≤ tt), (lit< tt, lit≤ tt));
  below_end = ((lit< tt, lit< tt), (lit< tt, lit< tt), (lit< tt, lit< tt));
  largest = refl;
}
