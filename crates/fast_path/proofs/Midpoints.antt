-- Why the rounding test of the fast path can be read off the patterns: v has 29 digits more than an f32, and where no midpoint of two f32s has its
-- pattern from 2^14 below v's to 2^13 above it, every f64 with a pattern from there to there narrows to the same f32. An error that is 2^40 times
-- smaller than v by the exponents is below 2^13 last places of v, so v less it and v plus it are among them (`clear_of_midpoints`). And where v is
-- from 1/2 to 2 and a midpoint has its pattern at most 2112 from v's, the two are on both sides of it and narrow to two f32s (`near_midpoint_lem`).
-- Assumes nothing.
use Rattle.std.proofs.Common.{◌≡◌, ℕ, suc, ◌+◌, ◌-◌, ◌*◌, ◌/◌, ◌%◌, ◌^◌, ◌<◌, ◌≤◌, min, Bool, true, false, cond, not, T, eqb, ltb, Some, None, sym, refl, ap, ◌∙◌, subst, ap₂, le_trans, le_of_eq, lt_of_lt_of_le, add-zero, add-mul, mul-le-mul, le_antisymm, arith, lit≤, ltb→lt, nltb→le, pow_mono, pow-add, le-ltb, lt-ltb, eq-eqb, ne_eqb}
use lib.Ieee.{Float, binary32, binary64, neg, sub, lt, eq, ne, fits, is_nan, to_bits, of_bits}
use lib.Ieee.Bits.{of_bits-fits, of_bits-to_bits, to_bits-of_bits}
use lib.Ieee.Exact.{HasValue}
use lib.Ieee.Fits.{add-fits, sub-fits}
use Rattle.floats.specs.Operations.{◌⊕◌, ◌⊖◌, f64}
use Rattle.floats.specs.Narrowing.{narrowed}
use Rattle.floats.proofs.Laws.Magnitude.{below_infinity}
use Rattle.floats.proofs.Laws.Compare.{key, key_clear, eq_by_key, number_of_bits, lt_of_bits}
use Rattle.floats.proofs.Laws.Nearby.{UnitsAtMost, units_of_neg, units_of_pattern, Between, add_nearby}
pub use Rattle.floats.proofs.Laws.Nan.{number_of_below}
use Rattle.floats.proofs.Laws.Narrow.{normal_magnitude, narrowed_number, narrowed_fits}
use Rattle.fast_path.specs.Fast.{rounding_test}
use Rattle.floats.proofs.Laws.Powers.{normal_value}
use Rattle.floats.proofs.Laws.Tests.{first, second}
use Rattle.bounds.proofs.Values.{per_one, plus, less, Units, by_value}
use Rattle.bounds.proofs.Operation.{Same, add_exact, sub_exact}
use Rattle.bounds.proofs.Scales.{S}
use Rattle.bounds.proofs.Distances.{Apart}
use Rattle.bounds.proofs.Apart.{apart_turned}
use Rattle.bounds.proofs.Compared.{Positive, bits_apart}

-- ---- the pattern of the narrowed value, but for the exponent's field
abbrev cut : ℕ → ℕ
cut m = (m + 268435455 + m / 536870912 % 2) / 536870912

-- which is the same for all m from w - 2^14 to w + 2^13, if no midpoint is among them
same_cut : (w m : ℕ) → 0x6000 < (w + 0x10002000) % 0x20000000 → w - 0x4000 ≤ m → m ≤ w + 0x2000 → cut m ≡ cut w
same_cut w m h l g = omega arith

-- ---- the patterns w of v and e of the error
-- the field x + 2 of w, its digits t below the leading one, and the field of e, less by 40
record Fields (w e : ℕ) : Type 0 where
  x : ℕ
  t : ℕ
  whole : suc (suc x) * 2 ^ 52 + t ≡ w
  x_above : 895 ≤ x
  x_below : suc (suc (suc x)) < 2047
  t_below : t < 2 ^ 52
  small : e < suc (suc x - 39) * 2 ^ 52

module _ (w e : ℕ) (least : 0x3810000000004000 ≤ w) (most : w < 0x7fe0000000000000) (beside : e / 2 ^ 52 + 40 ≤ w / 2 ^ 52) (apart : 0x6000 < (w + 0x10002000) % 0x20000000) where
  fields : Fields w e
  fields = record {
    x = w / 2 ^ 52 - 2;
    t = w % 2 ^ 52;
    whole = omega arith;
    x_above = omega arith;
    x_below = omega arith;
    t_below = omega arith;
    small = omega arith;
  }

  -- the error is at most 2^13 last places of v
  small_error : UnitsAtMost binary64 (0x2000 * 2 ^ suc fields.x) (f64 e)
  small_error =
      subst (λ (n : ℕ). UnitsAtMost binary64 n (f64 e)) (ap (λ (n : ℕ). 2 ^ n) (exponents fields.x fields.x_above) ∙ pow-add 2 13 (suc fields.x))
      (units_of_pattern binary64 (suc fields.x - 39) e (below_infinity binary64 e (omega arith)) fields.small)
    where
      exponents : (x : ℕ) → 895 ≤ x → 52 + (suc x - 39) ≡ 13 + suc x
      exponents x h = omega arith

  -- and the sum of v and a value of that size has a pattern as near to v's
  nearby : (d : Float) → UnitsAtMost binary64 (0x2000 * 2 ^ suc fields.x) d → Between binary64 (w - 0x4000) (w + 0x2000) (f64 w ⊕ d)
  nearby d h =
      subst (λ (n : ℕ). Between binary64 (n - 0x4000) (n + 0x2000) (f64 n ⊕ d)) fields.whole
      (add_nearby binary64 fields.x fields.t 0x2000 d fields.x_below fields.t_below (omega arith) h)

  -- which is narrowed as that of v is
  narrowed_nearby : (y : Float) → T (fits binary64 y) → Between binary64 (w - 0x4000) (w + 0x2000) y → to_bits binary32 (narrowed y) ≡ min (cut w - 7516192768) 0x7f800000
  narrowed_nearby y t b =
      let m = to_bits binary64 y in
      ap (λ (z : Float). to_bits binary32 (narrowed z)) (sym (of_bits-to_bits binary64 y t))
      ∙ normal_magnitude m (under m b.to_high) (over m b.from_low)
      ∙ ap (λ (n : ℕ). min (n - 7516192768) 0x7f800000) (same_cut w m apart b.from_low b.to_high)
    where
      under : (m : ℕ) → m ≤ w + 0x2000 → m ≤ 0x7ff0000000000000
      under m h = omega arith

      over : (m : ℕ) → w - 0x4000 ≤ m → 897 * 2 ^ 52 ≤ m
      over m h = omega arith

  -- so the two bounds are one f32, and no NaN
  same_bounds : (d : Float) → UnitsAtMost binary64 (0x2000 * 2 ^ suc fields.x) d → (narrowed (f64 w ⊕ neg d) ≡ narrowed (f64 w ⊕ d)) × T (not (is_nan (narrowed (f64 w ⊕ d))))
  same_bounds d h =
      let lb = f64 w ⊕ neg d in
      let rb = f64 w ⊕ d in
      let l = nearby (neg d) (units_of_neg binary64 (0x2000 * 2 ^ suc fields.x) d h) in
      let r = nearby d h in (
        sym (of_bits-to_bits binary32 (narrowed lb) (narrowed_fits lb))
            ∙ ap (of_bits binary32) (narrowed_nearby lb (add-fits binary64 (f64 w) (neg d)) l ∙ sym (narrowed_nearby rb (add-fits binary64 (f64 w) d) r))
            ∙ of_bits-to_bits binary32 (narrowed rb) (narrowed_fits rb),
        narrowed_number rb r.number,
      )

  -- v is large enough to be a normal f32
  not_less : lt (f64 w) (f64 0x38100000000008e2) ≡ false
  unfolding of_bits to_bits fits is_nan
  not_less =
      lt_of_bits binary64 w (f64 0x38100000000008e2) (omega arith) (omega arith) tt tt
      ∙ ap (λ (n : ℕ). ltb n (2 ^ 63 + 0x38100000000008e2)) (key_clear binary64 w (omega arith))
      ∙ le-ltb (2 ^ 63 + w) (2 ^ 63 + 0x38100000000008e2) (omega arith)

  -- the test passes
  pub clear_of_midpoints : Some (f64 w) ≡ rounding_test (f64 w) (f64 e)
  unfolding rounding_test sub ne
  clear_of_midpoints =
      let lb = narrowed (f64 w ⊖ f64 e) in
      let rb = narrowed (f64 w ⊕ f64 e) in
      let s = same_bounds (f64 e) small_error in
      let f = narrowed_fits (f64 w ⊕ f64 e) in
      let n : ne lb rb ≡ false = ap (λ (z : Float). not (eq z rb)) s.0 ∙ ap not (eq_by_key binary32 rb rb f f s.1 s.1 ∙ eq-eqb (key binary32 (to_bits binary32 rb)) (key binary32 (to_bits binary32 rb)) refl) in
      second (ne lb rb) None (Some (f64 w)) n ∙ second (lt (f64 w) (f64 0x38100000000008e2)) None _ not_less

-- ---- below the normal f32s the first test fails
under_normals : (w : ℕ) → w < 0x3810000000000000 → lt (f64 w) (f64 0x38100000000008e2) ≡ true
unfolding of_bits to_bits fits is_nan
under_normals w h =
    lt_of_bits binary64 w (f64 0x38100000000008e2) (omega (arith, h)) (omega (arith, h)) tt tt
    ∙ ap (λ (n : ℕ). ltb n (2 ^ 63 + 0x38100000000008e2)) (key_clear binary64 w (omega (arith, h)))
    ∙ lt-ltb (2 ^ 63 + w) (2 ^ 63 + 0x38100000000008e2) (omega (arith, h))

pub below_normal : (w e : ℕ) → w < 0x3810000000000000 → None ≡ rounding_test (f64 w) (f64 e)
unfolding rounding_test
below_normal w e h = first (lt (f64 w) (f64 0x38100000000008e2)) None _ (under_normals w h)

-- what proves `pattern_test`
pub ruleset by_pattern = (clear_of_midpoints, below_normal, number_of_below)

-- ---- near a midpoint the second test fails, for a v from 1/2 to 2 and the error as it is before it is scaled
-- the value of a pattern with the field i + 1, whose last place is 2^i units
in_places : (i w : ℕ) → suc i < 2047 → suc i * 2 ^ 52 ≤ w → w < suc (suc i) * 2 ^ 52 → Units false ((w - i * 2 ^ 52) * 2 ^ i) (f64 w)
unfolding per_one
in_places i w h l m =
    by_value (f64 w) false ((w - i * 2 ^ 52) * 2 ^ i) (of_bits-fits binary64 w)
    (subst (λ (k : ℕ). HasValue (f64 w) false (k * 2 ^ i) (2 ^ 1074)) (digits i w l)
    (subst (λ (n : ℕ). HasValue (f64 n) false ((2 ^ 52 + (w - suc i * 2 ^ 52)) * 2 ^ i) (2 ^ 1074)) (whole i w l) (normal_value binary64 i (w - suc i * 2 ^ 52) h (rest i w l m))))
  where
    digits : (i w : ℕ) → suc i * 2 ^ 52 ≤ w → 2 ^ 52 + (w - suc i * 2 ^ 52) ≡ w - i * 2 ^ 52
    digits i w l = omega arith

    whole : (i w : ℕ) → suc i * 2 ^ 52 ≤ w → suc i * 2 ^ 52 + (w - suc i * 2 ^ 52) ≡ w
    whole i w l = omega arith

    rest : (i w : ℕ) → suc i * 2 ^ 52 ≤ w → w < suc (suc i) * 2 ^ 52 → w - suc i * 2 ^ 52 < 2 ^ 52
    rest i w l m = omega arith

-- the error, 285 * 2^-49
abbrev error : Float
error = f64 0x3d61d00000000000

error_is : Units false (285 * 2 ^ 1025) error
unfolding of_bits fits
error_is = record { number = record { held = tt; plain = tt }; plus_is = refl; less_is = refl }

-- what has the same value has the same pattern
same_pattern : {x y : Float} → Positive (2 ^ 52) (2 ^ 54 - 1) y → Same x y → to_bits binary64 x ≡ to_bits binary64 y
same_pattern {x} {y} p s =
    let q : Positive (2 ^ 52) (2 ^ 54 - 1) x = record { number = s.number; clear = s.less_same ∙ p.clear; least = le_trans p.least (le_of_eq (sym s.plus_same)); most = le_trans (le_of_eq s.plus_same) p.most } in
    let a : Apart S 0 x y = record { over = level (plus x) (less x) (plus y) (less y) S s.plus_same s.less_same; under = level (plus y) (less y) (plus x) (less x) S (sym s.plus_same) (sym s.less_same) } in
    le_antisymm (le_trans (bits_apart q p a) (le_of_eq (add-zero _))) (le_trans (bits_apart p q (apart_turned a)) (le_of_eq (add-zero _)))
  where
    level : (p n q m s : ℕ) → p ≡ q → n ≡ m → p + m ≤ n + q + 0 * s
    level p n q m s e f = omega arith

-- the error is d last places of v, and v is no nearer than that to either end of its binade
module _ (i d w : ℕ) (of_one : 1021 ≤ i) (to_two : i ≤ 1022) (places : 285 * 2 ^ 1025 ≡ d * 2 ^ i) (low : suc i * 2 ^ 52 + d ≤ w) (high : w + d < suc (suc i) * 2 ^ 52) where
  value : (n : ℕ) → suc i * 2 ^ 52 ≤ n → n < suc (suc i) * 2 ^ 52 → Units false ((n - i * 2 ^ 52) * 2 ^ i) (f64 n)
  value n l m = in_places i n (small i to_two) l m
    where
      small : (i : ℕ) → i ≤ 1022 → suc i < 2047
      small i h = omega arith

  positive : (n : ℕ) → suc i * 2 ^ 52 ≤ n → n < suc (suc i) * 2 ^ 52 → Positive (2 ^ 52) (2 ^ 54 - 1) (f64 n)
  unfolding S
  positive n l m =
      let u = value n l m in
      record {
        number = u.number;
        clear = u.less_is;
        least = le_trans (mul-le-mul (from i n l) (pow_mono of_one)) (le_of_eq (sym u.plus_is));
        most = le_trans (le_of_eq u.plus_is) (le_trans (mul-le-mul (to i n l m) (pow_mono to_two)) (lit≤ tt));
      }
    where
      from : (i n : ℕ) → suc i * 2 ^ 52 ≤ n → 2 ^ 52 ≤ n - i * 2 ^ 52
      from i n l = omega arith

      to : (i n : ℕ) → suc i * 2 ^ 52 ≤ n → n < suc (suc i) * 2 ^ 52 → n - i * 2 ^ 52 ≤ 2 ^ 53 - 1
      to i n l m = omega arith

  -- v less the error and v plus it, exactly
  below_low : suc i * 2 ^ 52 ≤ w - d
  below_low = omega (arith, low)

  below_high : w - d < suc (suc i) * 2 ^ 52
  below_high = omega (arith, high)

  above_low : suc i * 2 ^ 52 ≤ w + d
  above_low = omega (arith, low)

  v_is : Units false ((w - i * 2 ^ 52) * 2 ^ i) (f64 w)
  v_is = value w (omega (arith, low)) (omega (arith, high))

  is_number : (n : ℕ) → n < suc (suc i) * 2 ^ 52 → T (not (is_nan (f64 n)))
  is_number n h = number_of_bits binary64 n (finite i n to_two h)
    where
      finite : (i n : ℕ) → i ≤ 1022 → n < suc (suc i) * 2 ^ 52 → n % 2 ^ 63 ≤ 0x7ff0000000000000
      finite i n g h = omega arith

  pattern_is : (n : ℕ) → n < suc (suc i) * 2 ^ 52 → to_bits binary64 (f64 n) ≡ n
  pattern_is n h = to_bits-of_bits binary64 n (small i n to_two h) (is_number n h)
    where
      small : (i n : ℕ) → i ≤ 1022 → n < suc (suc i) * 2 ^ 52 → n < 2 ^ 64
      small i n g h = omega arith

  lower_bound : to_bits binary64 (f64 w ⊖ error) ≡ w - d
  lower_bound =
      let r = value (w - d) below_low below_high in
      same_pattern (positive (w - d) below_low below_high)
      (sub_exact v_is.number error_is.number r.number
      (go i d w (2 ^ i) (plus (f64 w)) (less (f64 w)) (plus error) (less error) (plus (f64 (w - d))) (less (f64 (w - d))) low v_is.plus_is v_is.less_is (error_is.plus_is ∙ places) error_is.less_is r.plus_is r.less_is))
      ∙ pattern_is (w - d) below_high
    where
      taken : (i d w : ℕ) → suc i * 2 ^ 52 + d ≤ w → w - i * 2 ^ 52 ≡ d + (w - d - i * 2 ^ 52)
      taken i d w h = omega arith

      sums : (a b c s p n q m r l : ℕ) → a ≡ b + c → p ≡ a * s → n ≡ 0 → q ≡ b * s → m ≡ 0 → r ≡ c * s → l ≡ 0 → p + m + l ≡ n + q + r
      sums a b c s p n q m r l h e1 e2 e3 e4 e5 e6 =
          let x : a * s ≡ b * s + c * s = ap (λ (k : ℕ). k * s) h ∙ add-mul b c s in
          omega arith

      go : (i d w s p n q m r l : ℕ) → suc i * 2 ^ 52 + d ≤ w → p ≡ (w - i * 2 ^ 52) * s → n ≡ 0 → q ≡ d * s → m ≡ 0 → r ≡ (w - d - i * 2 ^ 52) * s → l ≡ 0 → p + m + l ≡ n + q + r
      go i d w s p n q m r l h = sums (w - i * 2 ^ 52) d (w - d - i * 2 ^ 52) s p n q m r l (taken i d w h)

  upper_bound : to_bits binary64 (f64 w ⊕ error) ≡ w + d
  upper_bound =
      let r = value (w + d) above_low high in
      same_pattern (positive (w + d) above_low high)
      (add_exact v_is.number error_is.number r.number
      (go i d w (2 ^ i) (plus (f64 w)) (less (f64 w)) (plus error) (less error) (plus (f64 (w + d))) (less (f64 (w + d))) low v_is.plus_is v_is.less_is (error_is.plus_is ∙ places) error_is.less_is r.plus_is r.less_is))
      ∙ pattern_is (w + d) high
    where
      added : (i d w : ℕ) → suc i * 2 ^ 52 + d ≤ w → w + d - i * 2 ^ 52 ≡ w - i * 2 ^ 52 + d
      added i d w h = omega arith

      sums : (a b c s p n q m r l : ℕ) → c ≡ a + b → p ≡ a * s → n ≡ 0 → q ≡ b * s → m ≡ 0 → r ≡ c * s → l ≡ 0 → p + q + l ≡ n + m + r
      sums a b c s p n q m r l h e1 e2 e3 e4 e5 e6 =
          let x : c * s ≡ a * s + b * s = ap (λ (k : ℕ). k * s) h ∙ add-mul a b s in
          omega arith

      go : (i d w s p n q m r l : ℕ) → suc i * 2 ^ 52 + d ≤ w → p ≡ (w - i * 2 ^ 52) * s → n ≡ 0 → q ≡ d * s → m ≡ 0 → r ≡ (w + d - i * 2 ^ 52) * s → l ≡ 0 → p + q + l ≡ n + m + r
      go i d w s p n q m r l h = sums (w - i * 2 ^ 52) d (w + d - i * 2 ^ 52) s p n q m r l (added i d w h)

  -- which narrow to different f32s, where a midpoint is between them
  narrowed_key : (n : ℕ) → suc i * 2 ^ 52 ≤ n → n < suc (suc i) * 2 ^ 52 → key binary32 (to_bits binary32 (narrowed (f64 n))) ≡ 2 ^ 31 + (cut n - 7516192768)
  narrowed_key n l m = ap (key binary32) (normal_magnitude n (under i n to_two m) (over i n of_one l) ∙ unlimited i n to_two m) ∙ key_clear binary32 (cut n - 7516192768) (clear i n to_two m)
    where
      under : (i n : ℕ) → i ≤ 1022 → n < suc (suc i) * 2 ^ 52 → n ≤ 0x7ff0000000000000
      under i n g h = omega arith

      over : (i n : ℕ) → 1021 ≤ i → suc i * 2 ^ 52 ≤ n → 897 * 2 ^ 52 ≤ n
      over i n g h = omega arith

      unlimited : (i n : ℕ) → i ≤ 1022 → n < suc (suc i) * 2 ^ 52 → min (cut n - 7516192768) 0x7f800000 ≡ cut n - 7516192768
      unlimited i n g h = omega arith

      clear : (i n : ℕ) → i ≤ 1022 → n < suc (suc i) * 2 ^ 52 → cut n - 7516192768 < 2 ^ 31
      clear i n g h = omega arith

  differ : cut (w - d) < cut (w + d) → eq (narrowed (f64 (w - d))) (narrowed (f64 (w + d))) ≡ false
  differ h =
      eq_by_key binary32 (narrowed (f64 (w - d))) (narrowed (f64 (w + d))) (narrowed_fits (f64 (w - d))) (narrowed_fits (f64 (w + d)))
      (narrowed_number (f64 (w - d)) (is_number (w - d) below_high)) (narrowed_number (f64 (w + d)) (is_number (w + d) high))
      ∙ ap₂ eqb (narrowed_key (w - d) below_low below_high) (narrowed_key (w + d) above_low high)
      ∙ ne_eqb (2 ^ 31 + (cut (w - d) - 7516192768)) (2 ^ 31 + (cut (w + d) - 7516192768)) (other i (w - d) (w + d) of_one below_low h)
    where
      other : (i n m : ℕ) → 1021 ≤ i → suc i * 2 ^ 52 ≤ n → cut n < cut m → 2 ^ 31 + (cut n - 7516192768) ≡ 2 ^ 31 + (cut m - 7516192768) → ⊥
      other i n m g l h e = omega arith

  bounds_differ : cut (w - d) < cut (w + d) → None ≡ rounding_test (f64 w) error
  unfolding rounding_test ne
  bounds_differ h =
      go (lt (f64 w) (f64 0x38100000000008e2)) (eq (narrowed (f64 w ⊖ error)) (narrowed (f64 w ⊕ error)))
      (ap₂ (λ (x y : Float). eq (narrowed x) (narrowed y)) (sym (of_bits-to_bits binary64 (f64 w ⊖ error) (sub-fits binary64 (f64 w) error)) ∙ ap f64 lower_bound) (sym (of_bits-to_bits binary64 (f64 w ⊕ error) (add-fits binary64 (f64 w) error)) ∙ ap f64 upper_bound) ∙ differ h)
    where
      go : (x y : Bool) → y ≡ false → None ≡ cond x None (cond (not y) None (Some (f64 w)))
      go true y e = refl
      go false y e = ap (λ (z : Bool). cond (not z) None (Some (f64 w))) (sym e)

-- the error is 4560 last places below 1, and 2280 above it
pub near_midpoint_lem : (w : ℕ) → 1022 * 2 ^ 52 ≤ w → w < 1024 * 2 ^ 52 → (w + 0x10000840) % 0x20000000 ≤ 0x1080 → None ≡ rounding_test (f64 w) (f64 0x3d61d00000000000)
near_midpoint_lem w l m h = go (ltb w (1023 * 2 ^ 52)) (ltb→lt w (1023 * 2 ^ 52)) (nltb→le w (1023 * 2 ^ 52))
  where
    -- the midpoint that is q * 2^29 less 2^28
    before : (n q : ℕ) → n + 0x10000000 < q * 0x20000000 → cut n < q
    before n q h = omega arith

    after : (n q : ℕ) → q * 0x20000000 < n + 0x10000000 → q ≤ cut n
    after n q h = omega arith

    from : (w d : ℕ) → 2280 ≤ d → (w + 0x10000840) % 0x20000000 ≤ 0x1080 → w - d + 0x10000000 < (w + 0x10000840) / 0x20000000 * 0x20000000
    from w d g h = omega arith

    to : (w d : ℕ) → 2280 ≤ d → (w + 0x10000840) % 0x20000000 ≤ 0x1080 → (w + 0x10000840) / 0x20000000 * 0x20000000 < w + d + 0x10000000
    to w d g h = omega arith

    between : (d : ℕ) → 2280 ≤ d → cut (w - d) < cut (w + d)
    between d g = lt_of_lt_of_le (before (w - d) ((w + 0x10000840) / 0x20000000) (from w d g h)) (after (w + d) ((w + 0x10000840) / 0x20000000) (to w d g h))

    go : (x : Bool) → (T x → w < 1023 * 2 ^ 52) → (T (not x) → 1023 * 2 ^ 52 ≤ w) → None ≡ rounding_test (f64 w) (f64 0x3d61d00000000000)
    go true f g = bounds_differ 1021 4560 w (lit≤ tt) (lit≤ tt) refl (low w l h) (high w (f tt) h) (between 4560 (lit≤ tt))
      where
        low : (w : ℕ) → 1022 * 2 ^ 52 ≤ w → (w + 0x10000840) % 0x20000000 ≤ 0x1080 → 1022 * 2 ^ 52 + 4560 ≤ w
        low w l h = omega arith

        high : (w : ℕ) → w < 1023 * 2 ^ 52 → (w + 0x10000840) % 0x20000000 ≤ 0x1080 → w + 4560 < 1023 * 2 ^ 52
        high w m h = omega arith
    go false f g = bounds_differ 1022 2280 w (lit≤ tt) (lit≤ tt) refl (low w (g tt) h) (high w m h) (between 2280 (lit≤ tt))
      where
        low : (w : ℕ) → 1023 * 2 ^ 52 ≤ w → (w + 0x10000840) % 0x20000000 ≤ 0x1080 → 1023 * 2 ^ 52 + 2280 ≤ w
        low w l h = omega arith

        high : (w : ℕ) → w < 1024 * 2 ^ 52 → (w + 0x10000840) % 0x20000000 ≤ 0x1080 → w + 2280 < 1024 * 2 ^ 52
        high w m h = omega arith
