-- A normal value times a power of two, where the result is normal too: the product is exact, and its pattern is the first one's with another
-- field for the exponent (`mul_power`). Any value times 1 is itself (`mul_one`), and the square of a number is one (`square_number`). Assumes
-- nothing.
use Rattle.std.proofs.Common.{◌≡◌, ℕ, suc, ◌+◌, ◌-◌, ◌*◌, ◌^◌, ◌<◌, ◌≤◌, true, false, not, T, pos, sym, refl, ap, ◌∙◌, subst, ap₂, lt_of_lt_of_le, le-add_right, le_of_lt, mul_assoc, mul_comm, mul-pos, one-mul, arith, pow_pos, pow_mono, pow-add, shl_lt}
use lib.Ieee.{Float, nan, inf, fin, Format, prec, emax, low, up, down, minus, round, mul, fits, is_nan, hid, ones, to_bits, of_bits}
use lib.Ieee.Bits.{of_bits-to_bits, of_bits-fits}
use lib.Ieee.Digits.{minus_val}
use lib.Ieee.Exact.{HasValue, round_exact}
use lib.Ieee.Fits.{round-fits, two, two-le_pos}
use lib.Ieee.Positive.{positive_of_value, mul_at}
use lib.Ieee.Scale.{overflow, round_same}
use Rattle.floats.proofs.Laws.Place.{twice, place_of_grid}
use Rattle.floats.proofs.Laws.Units.{round_number}
use Rattle.floats.proofs.Laws.Rounding.{in_these_units, round_self, round_holds}

-- ---- the value of a normal pattern
-- the leading digit and t, below it, have prec digits
digits : (f : Format) (t : ℕ) → t < hid f → hid f + t < 2 ^ prec f
digits f t h = subst (λ (n : ℕ). hid f + t < n) (sym (twice (prec f) (two-le_pos (prec f) (two f)))) (go (hid f) t h)
  where
    go : (h t : ℕ) → t < h → h + t < h + h
    go h t l = omega arith

under : (f : Format) (x t : ℕ) → suc x < ones f → t < hid f → (hid f + t) * 2 ^ x < overflow f
under f x t h l = lt_of_lt_of_le (shl_lt (prec f) x (digits f t l)) (pow_mono (room (emax f) (prec f) x (two f) h))
  where
    room : (e p x : ℕ) → 2 ≤ p → suc x < 2 * e + 1 → p + x ≤ e + p - 2 + suc e
    room e p x P h = omega arith

-- the field is x + 1 and the digits below the leading one are t: the value is (hid + t) * 2 ^ x of the smallest
pub normal_value : (f : Format) (x t : ℕ) → suc x < ones f → t < hid f → HasValue (of_bits f (suc x * hid f + t)) false ((hid f + t) * 2 ^ x) (2 ^ low f)
normal_value f x t h l =
    let q = hid f + t in
    let y = round f false (q * 2 ^ x) (2 ^ low f) in
    let v : HasValue y false (q * 2 ^ x) (2 ^ low f) = round_exact f false (q * 2 ^ x) (2 ^ low f) q x (pow_pos (low f)) (digits f t l) (under f x t h l) refl in
    let b : to_bits f y ≡ suc x * hid f + t =
    in_these_units f y false (q * 2 ^ x) (2 ^ low f) (q * 2 ^ x) (pow_pos (low f)) refl v
    ∙ ap (λ (n : ℕ). 0 + n) (place_of_grid (prec f) q x (two-le_pos (prec f) (two f)) (le_of_lt (digits f t l)) (λ _. le-add_right (hid f) t))
    ∙ regroup (hid f) x t in
    subst (λ (z : Float). HasValue z false (q * 2 ^ x) (2 ^ low f)) (sym (of_bits-to_bits f y (round-fits f false (q * 2 ^ x) (2 ^ low f))) ∙ ap (of_bits f) b) v
  where
    regroup : (h x t : ℕ) → 0 + (x * h + (h + t)) ≡ suc x * h + t
    regroup h x t = omega arith

-- ---- the product
-- q * 2 ^ x / 2 ^ l times 2 ^ a / 2 ^ b is q * 2 ^ y / 2 ^ l
same_product : (q x y a b L : ℕ) → x + a ≡ y + b → q * 2 ^ x * 2 ^ a * L ≡ q * 2 ^ y * (L * 2 ^ b)
same_product q x y a b L e =
    ap (λ (n : ℕ). n * L) (mul_assoc q (2 ^ x) (2 ^ a) ∙ ap (λ (n : ℕ). q * n) (sym (pow-add 2 x a) ∙ ap (λ (n : ℕ). 2 ^ n) e ∙ pow-add 2 y b) ∙ sym (mul_assoc q (2 ^ y) (2 ^ b)))
    ∙ mul_assoc (q * 2 ^ y) (2 ^ b) L
    ∙ ap (λ (n : ℕ). q * 2 ^ y * n) (mul_comm (2 ^ b) L)

-- times 2 ^ (a - b), which takes the field x + 1 to y + 1
pub mul_power : (f : Format) (x y a b t : ℕ) → suc x < ones f → suc y < ones f → t < hid f → x + a ≡ y + b
    → mul f (of_bits f (suc x * hid f + t)) (fin false 1 (minus a b)) ≡ of_bits f (suc y * hid f + t)
mul_power f x y a b t X Y l e =
    let q = hid f + t in
    let u = of_bits f (suc x * hid f + t) in
    let w = of_bits f (suc y * hid f + t) in
    let p = fin false 1 (minus a b) in
    let L = 2 ^ low f in
    let Q : 0 < q = lt_of_lt_of_le (pow_pos (prec f - 1)) (le-add_right (hid f) t) in
    let U : HasValue u false (q * 2 ^ x) L = normal_value f x t X l in
    let W : HasValue p false (2 ^ a) (2 ^ b) = (refl, minus_val 1 a b ∙ ap (λ (n : ℕ). n * down (minus a b)) (one-mul (2 ^ a))) in
    mul_at f u p (q * 2 ^ x) L (2 ^ a) (2 ^ b) (positive_of_value u (q * 2 ^ x) L U (mul-pos Q (pow_pos x))) tt (pow_pos (low f)) (pow_pos b) U W
    ∙ round_same f false (q * 2 ^ x * 2 ^ a) (L * 2 ^ b) (q * 2 ^ y) L (mul-pos (pow_pos (low f)) (pow_pos b)) (pow_pos (low f)) (same_product q x y a b L e)
    ∙ round_holds f w false (q * 2 ^ y) L (pow_pos (low f)) (of_bits-fits f (suc y * hid f + t)) (normal_value f y t Y l)

-- ---- times 1
once : (n : ℕ) → n * 1 ≡ n
once n = omega arith

pub mul_one : (f : Format) (x : Float) → T (fits f x) → mul f x (fin false 1 (pos 0)) ≡ x
unfolding mul
mul_one f nan t = refl
mul_one f (inf true) t = refl
mul_one f (inf false) t = refl
mul_one f (fin true m e) t = ap₂ (round f true) (once (m * up e)) (once (down e)) ∙ round_self f true m e t
mul_one f (fin false m e) t = ap₂ (round f false) (once (m * up e)) (once (down e)) ∙ round_self f false m e t

-- ---- a square
pub square_number : (f : Format) (x : Float) → T (not (is_nan x)) → T (not (is_nan (mul f x x)))
unfolding mul is_nan
square_number f nan h = absurd h
square_number f (inf s) h = tt
square_number f (fin s m e) h = round_number f _ _ _
