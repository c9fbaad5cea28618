-- Values that are whole numbers of some power of two, G units: `Count G p n x` says that x is p - n of them, exactly. A finite value of at least 2^52 of them in size is such a number
-- (`on_grid`); a sum, a difference and a product by a positive value that are fewer than 2^53 of them are exact (`count_sum`, `count_difference`, `count_product`); and sums
-- of the same value are the same float (`sums_same`), but for two zeros of the sign -. Assumes nothing.
use mathlib.Core.Path.{◌≡◌, refl, sym, ap, ap₂, ◌∙◌, subst}
use mathlib.Core.Logic.{◌⊎◌, inl, inr}
use mathlib.Core.Bool.{Bool, true, false, not, cond}
use Prim.Native.Nat.{ℕ, zero, suc, ◌+◌, ◌-◌, ◌*◌, ◌^◌, ◌≤◌, ◌<◌}
use native.Mathlib.Nat.{le_trans, le_of_eq, lt_of_lt_of_le, lt_irrefl, le_of_mul-le-mul_right, eq_of_mul-eq-mul_right, mul_assoc, mul-pos, mul-add, add-mul, mul-zero, zero-mul, add-zero, zero-add, not-le_of_lt, zero-lt-suc}
use native.Mathlib.Omega.{arith}
use lib.Dec.{T, leb, leb→le, nleb→lt, ltb, ltb→lt, lit≤}
use lib.Pow.{pow-add, pow_pos, pow_mono, shl_lt}
use lib.IntN.{ℤ}
use lib.Ieee.{Float, nan, inf, fin, Format, binary64, up, down, unlike, round, neg, sum, add, sub, fits}
use lib.Ieee.Exact.{round_exact}
use lib.Ieee.Fits.{round-fits, down_pos}
use lib.Ieee.Scale.{round_same}
use Rattle.floats.specs.Operations.{◌⊕◌, ◌⊖◌, ◌⊗◌}
use Rattle.floats.proofs.Laws.Units.{exponent, in_units, fits_digits, HasSign, round_has_sign}
use Rattle.floats.proofs.Laws.Sums.{above, under, above_times, under_times, Signed, Rounded}
use Rattle.bounds.proofs.Values.{per_one, per_one_pos, plus, less, mag, one_side, Number, of_numbers, neg_plus, neg_less, neg_number, Units, by_value, joined, cross, cross_under, sum_in_units, Along, product_in_units}
use Rattle.bounds.proofs.Operation.{Same, units_mag}
use Rattle.bounds.proofs.Scales.{S}

-- ---- a grid
pub record Grid (G : ℕ) : Type 0 where
  pub digits : ℕ
  pub is : G ≡ 2 ^ digits
  pub low : digits ≤ 1900

pub grid_pos : {G : ℕ} → Grid G → 0 < G
grid_pos {G} g = subst (λ (k : ℕ). 0 < k) (sym g.is) (pow_pos g.digits)

-- that of 2^-53
pub grid53 : Grid S
unfolding S
grid53 = record { digits = 1021; is = refl; low = lit≤ tt }

-- x is p - n of G units, exactly
pub record Count (G p n : ℕ) (x : Float) : Type 0 where
  pub number : Number x
  pub is : plus x + n * G ≡ less x + p * G

-- the same difference, of other numbers
pub count_as : {G p n : ℕ} {x : Float} (q m : ℕ) → Count G p n x → p + m ≡ n + q → Count G q m x
count_as {G} {p} {n} {x} q m c e = record { number = c.number; is = go (plus x) (less x) p n q m G c.is e }
  where
    go : (a b p n q m G : ℕ) → a + n * G ≡ b + p * G → p + m ≡ n + q → a + m * G ≡ b + q * G
    go a b p n q m G h e =
        let f : (p + m) * G ≡ (n + q) * G = ap (λ (k : ℕ). k * G) e in
        omega arith

-- the same value, on a finer grid
pub finer : {G p n : ℕ} {x : Float} (k H : ℕ) → G ≡ k * H → Count G p n x → Count H (p * k) (n * k) x
finer {G} {p} {n} {x} k H e c = record { number = c.number; is = omega (arith, subst (λ (g : ℕ). plus x + n * g ≡ less x + p * g) e c.is) }

-- another float of the same value
pub count_same : {G p n : ℕ} {x z : Float} → Same z x → Count G p n x → Count G p n z
count_same {G} {p} {n} {x} {z} s c = record { number = s.number; is = ap (λ (k : ℕ). k + n * G) s.plus_same ∙ c.is ∙ ap (λ (k : ℕ). k + p * G) (sym s.less_same) }

pub count_neg : {G p n : ℕ} {x : Float} → Count G p n x → Count G n p (neg x)
count_neg {G} {p} {n} {x} c = record { number = neg_number c.number; is = ap (λ (k : ℕ). k + p * G) (neg_plus x) ∙ sym c.is ∙ ap (λ (k : ℕ). k + n * G) (sym (neg_less x)) }

-- ---- what is large enough is on the grid
deep : {G : ℕ} (g : Grid G) (m k : ℕ) → m < 2 ^ 53 → 2 ^ 52 * G ≤ m * 2 ^ k → g.digits ≤ k
deep {G} g m k h l = go (leb g.digits k) (leb→le g.digits k) (nleb→lt g.digits k)
  where
    power : 2 ^ 52 * G ≡ 2 ^ (52 + g.digits)
    power = ap (λ (z : ℕ). 2 ^ 52 * z) g.is ∙ sym (pow-add 2 52 g.digits)

    go : (b : Bool) → (T b → g.digits ≤ k) → (T (not b) → k < g.digits) → g.digits ≤ k
    go true y n = y tt
    go false y n = absurd (not-le_of_lt (lt_of_lt_of_le (shl_lt 53 k h) (pow_mono (omega (arith, n tt)))) (subst (λ (z : ℕ). z ≤ m * 2 ^ k) power l))

multiple : {G : ℕ} (g : Grid G) (m k : ℕ) → g.digits ≤ k → m * 2 ^ k ≡ m * 2 ^ (k - g.digits) * G
multiple {G} g m k h =
    ap (λ (i : ℕ). m * 2 ^ i) (omega arith)
    ∙ ap (λ (i : ℕ). m * i) (pow-add 2 (k - g.digits) g.digits)
    ∙ sym (mul_assoc m (2 ^ (k - g.digits)) (2 ^ g.digits))
    ∙ ap (λ (i : ℕ). m * 2 ^ (k - g.digits) * i) (sym g.is)

-- x is some number of G units, with its sign
pub record OnGrid (G : ℕ) (x : Float) : Type 0 where
  pub over : ℕ
  pub below : ℕ
  pub count : Count G over below x

pub on_grid : {G : ℕ} {x : Float} → Grid G → Number x → 2 ^ 52 * G ≤ mag x → OnGrid G x
on_grid {G} {x} g n l = go x n l
  where
    go : (x : Float) → Number x → 2 ^ 52 * G ≤ mag x → OnGrid G x
    go nan n l = absurd n.plain
    go (inf s) n l = absurd n.plain
    go (fin true m e) n l =
        let k = exponent 1074 e in
        let is = multiple g m k (deep g m k (fits_digits binary64 true m e n.held) (subst (λ (z : ℕ). 2 ^ 52 * G ≤ z) (zero-add (m * 2 ^ k)) l)) in
        record { over = 0; below = m * 2 ^ (k - g.digits); count = record { number = n; is = omega arith } }
    go (fin false m e) n l =
        let k = exponent 1074 e in
        let is = multiple g m k (deep g m k (fits_digits binary64 false m e n.held) (subst (λ (z : ℕ). 2 ^ 52 * G ≤ z) (add-zero (m * 2 ^ k)) l)) in
        record { over = m * 2 ^ (k - g.digits); below = 0; count = record { number = n; is = omega arith } }

-- ---- a sum
-- fewer than 2^53 of G units round to themselves
pub round_few : {G : ℕ} (g : Grid G) (s : Bool) (k q : ℕ) → q < 2 ^ 53 → k ≡ q * G → Units s k (round binary64 s k per_one)
unfolding per_one
round_few {G} g s k q h e =
    by_value (round binary64 s k (2 ^ 1074)) s k (round-fits binary64 s k (2 ^ 1074))
    (round_exact binary64 s k (2 ^ 1074) q g.digits (pow_pos 1074) h (lt_of_lt_of_le (shl_lt 53 g.digits h) (le_trans (pow_mono (up_to g.digits g.low)) (lit≤ tt)))
    (ap (λ (z : ℕ). z * 2 ^ 1074) (e ∙ ap (λ (z : ℕ). q * z) g.is)))
  where
    up_to : (d : ℕ) → d ≤ 1900 → 53 + d ≤ 1953
    up_to d h = omega arith

-- k is p - n of G
apart_of : (k p n G : ℕ) → 0 < G → k + n * G ≡ p * G → (p - n + n ≡ p) × (k ≡ (p - n) * G)
apart_of k p n G g e =
    let whole : p - n + n ≡ p = omega (arith, le_of_mul-le-mul_right (over k (n * G) (p * G) e) g) in
    (whole, taken k (p - n) n p G e whole)
  where
    over : (a b d : ℕ) → a + b ≡ d → b ≤ d
    over a b d h = omega arith

    taken : (k d n p G : ℕ) → k + n * G ≡ p * G → d + n ≡ p → k ≡ d * G
    taken k d n p G e f =
        let h : (d + n) * G ≡ p * G = ap (λ (z : ℕ). z * G) f in
        omega arith

-- d is p - n
fewer : (d p n : ℕ) → d + n ≡ p → p < n + 2 ^ 53 → d < 2 ^ 53
fewer d p n e h = omega arith

-- so p - n of G has a size
pub count_size : {G p n : ℕ} {x : Float} → Grid G → Count G p n x → mag x ≡ (p - n + (n - p)) * G
count_size {G} {p} {n} {x} g c = go (plus x) (less x) (one_side x) c.is
  where
    go : (a b : ℕ) → (a ≡ 0) ⊎ (b ≡ 0) → a + n * G ≡ b + p * G → a + b ≡ (p - n + (n - p)) * G
    go a b (inr e) h =
        let f = apart_of a p n G (grid_pos g) (h ∙ ap (λ (k : ℕ). k + p * G) e ∙ zero-add (p * G)) in
        ap (λ (k : ℕ). a + k) e ∙ add-zero a ∙ f.1 ∙ ap (λ (k : ℕ). k * G) (omega arith)
    go a b (inl e) h =
        let f = apart_of b n p G (grid_pos g) (sym h ∙ ap (λ (k : ℕ). k + n * G) e ∙ zero-add (n * G)) in
        ap (λ (k : ℕ). k + b) e ∙ zero-add b ∙ f.1 ∙ ap (λ (k : ℕ). k * G) (omega arith)

-- what is rounded from p - n of G is that, exactly
pub rounded_count : {G P N p n : ℕ} {z : Float} → Grid G → Rounded binary64 P N per_one z → P + n * G ≡ N + p * G → p < n + 2 ^ 53 → n < p + 2 ^ 53 → Count G p n z
rounded_count {G} {P} {N} {p} {n} {z} g R e h l = go R.sign R.exact R.is
  where
    first : (k P N p n G : ℕ) → k + N ≡ P → P + n * G ≡ N + p * G → k + n * G ≡ p * G
    first k P N p n G e h = omega arith

    second : (k P N p n G : ℕ) → k + P ≡ N → P + n * G ≡ N + p * G → k + p * G ≡ n * G
    second k P N p n G e h = omega arith

    go : (s : Bool) → Signed s R.digits P N → z ≡ round binary64 s R.digits per_one → Count G p n z
    go false x i =
        let k = first R.digits P N p n G x e in
        let f = apart_of R.digits p n G (grid_pos g) k in
        let u : Units false R.digits z = subst (Units false R.digits) (sym i) (round_few g false R.digits (p - n) (fewer (p - n) p n f.0 h) f.1) in
        record { number = u.number; is = ap (λ (a : ℕ). a + n * G) u.plus_is ∙ k ∙ sym (ap (λ (b : ℕ). b + p * G) u.less_is ∙ zero-add (p * G)) }
    go true x i =
        let k = second R.digits P N p n G x e in
        let f = apart_of R.digits n p G (grid_pos g) k in
        let u : Units true R.digits z = subst (Units true R.digits) (sym i) (round_few g true R.digits (n - p) (fewer (n - p) n p f.0 l) f.1) in
        record { number = u.number; is = ap (λ (a : ℕ). a + n * G) u.plus_is ∙ zero-add (n * G) ∙ sym k ∙ ap (λ (b : ℕ). b + p * G) (sym u.less_is) }

-- the exact sum, in units
sum_is : (px nx py ny p n q m G : ℕ) → px + n * G ≡ nx + p * G → py + m * G ≡ ny + q * G → px + py + (n + m) * G ≡ nx + ny + (p + q) * G
sum_is px nx py ny p n q m G e f = omega arith

pub count_sum : {G p n q m : ℕ} {x y : Float} → Grid G → Count G p n x → Count G q m y → p + q < n + m + 2 ^ 53 → n + m < p + q + 2 ^ 53 → Count G (p + q) (n + m) (x ⊕ y)
count_sum {G} {p} {n} {q} {m} {x} {y} g a b h l =
    rounded_count g (sum_in_units x y a.number b.number) (sum_is (plus x) (less x) (plus y) (less y) p n q m G a.is b.is) h l

pub count_difference : {G p n q m : ℕ} {x y : Float} → Grid G → Count G p n x → Count G q m y → p + m < n + q + 2 ^ 53 → n + q < p + m + 2 ^ 53 → Count G (p + m) (n + q) (x ⊖ y)
unfolding sub
count_difference g a b h l = count_sum g a (count_neg b) h l

-- ---- a product by what is not below 0
-- what is a of G is not below 0
clear_count : {G a : ℕ} {x : Float} → Count G a 0 x → (plus x ≡ a * G) × (less x ≡ 0)
clear_count {G} {a} {x} c = go (plus x) (less x) (one_side x) c.is
  where
    go : (p n : ℕ) → (p ≡ 0) ⊎ (n ≡ 0) → p + 0 * G ≡ n + a * G → (p ≡ a * G) × (n ≡ 0)
    go p n (inl e) h = (omega arith, omega arith)
    go p n (inr e) h = (omega arith, omega arith)

pub count_mag : {G a : ℕ} {x : Float} → Count G a 0 x → mag x ≡ a * G
count_mag {G} {a} {x} c = ap₂ ◌+◌ (clear_count c).0 (clear_count c).1 ∙ add-zero (a * G)

-- d is the size of the other, on the grid B: the sizes multiplied, on the grid C
product_size : (R d A B C w : ℕ) → A * B ≡ C * w → R * A * (d * B) * w ≡ R * d * C * (w * w)
product_size R d A B C w e = omega arith ∙ ap (λ (z : ℕ). R * d * z * w) e ∙ (omega arith)

-- k units with the sign s, or none
signed_units : {s v : Bool} {k : ℕ} {z : Float} → Units s k z → (s ≡ v) ⊎ (k ≡ 0) → Units v k z
signed_units {s} {v} {k} {z} u (inl e) = subst (λ (t : Bool). Units t k z) e u
signed_units {s} {v} {k} {z} u (inr e) = record { number = u.number; plus_is = (go v no.0).0; less_is = (go v no.1).1 }
  where
    none : (p n : ℕ) → p + n ≡ 0 → (p ≡ 0) × (n ≡ 0)
    none p n h = (omega arith, omega arith)

    no : (plus z ≡ 0) × (less z ≡ 0)
    no = none (plus z) (less z) (units_mag u ∙ e)

    go : (v : Bool) {a : ℕ} → a ≡ 0 → (a ≡ above v k) × (a ≡ under v k)
    go true f = (f, f ∙ sym e)
    go false f = (f ∙ sym e, f)

module _ {A B C R p n : ℕ} {r y : Float} (grid : Grid C) (scale : A * B ≡ C * per_one) (a : Count A R 0 r) (b : Count B p n y) where
  along_r : Along false r
  along_r = ap (λ (k : ℕ). 0 + k) (clear_count a).1

  -- y is d of B, with the sign v
  product_units : (v : Bool) (d : ℕ) → Along v y → mag y ≡ d * B → R * d < 2 ^ 53 → Units v (R * d * C) (r ⊗ y)
  product_units v d along size few =
      let P = product_in_units r y a.number b.number in
      let w = mul-pos per_one_pos per_one_pos in
      let of_mag : mag r * mag y ≡ R * A * (d * B) = ap₂ (λ (i j : ℕ). i * j) (count_mag a) size in
      let same : mag r * mag y * per_one ≡ R * d * C * (per_one * per_one) = ap (λ (k : ℕ). k * per_one) of_mag ∙ product_size R d A B C per_one scale in
      let is : r ⊗ y ≡ round binary64 P.sign (R * d * C) per_one = P.is ∙ round_same binary64 P.sign (mag r * mag y) (per_one * per_one) (R * d * C) per_one w per_one_pos same in
      signed_units (subst (Units P.sign (R * d * C)) (sym is) (round_few grid P.sign (R * d * C) (R * d) few refl)) (go (subst (λ (t : Bool). (P.sign ≡ t) ⊎ (mag r * mag y ≡ 0)) (beside v) (P.toward false v along_r along)) same)
    where
      beside : (v : Bool) → unlike false v ≡ v
      beside true = refl
      beside false = refl

      none : (k w : ℕ) → 0 < w → k * w ≡ 0 → k ≡ 0
      none zero w h e = refl
      none (suc k) w h e = absurd (lt_irrefl 0 (subst (λ (z : ℕ). 0 < z) e (mul-pos (zero-lt-suc k) h)))

      go : {s : Bool} → (s ≡ v) ⊎ (mag r * mag y ≡ 0) → mag r * mag y * per_one ≡ R * d * C * (per_one * per_one) → (s ≡ v) ⊎ (R * d * C ≡ 0)
      go (inl e) f = inl e
      go (inr e) f = inr (none (R * d * C) (per_one * per_one) (mul-pos per_one_pos per_one_pos) (sym f ∙ ap (λ (k : ℕ). k * per_one) e ∙ zero-mul per_one))

  B_pos : 0 < B
  B_pos = go B (subst (λ (k : ℕ). 0 < k) (sym scale) (mul-pos (grid_pos grid) per_one_pos))
    where
      go : (b : ℕ) → 0 < A * b → 0 < b
      go zero h = absurd (lt_irrefl 0 (subst (λ (k : ℕ). 0 < k) (mul-zero A) h))
      go (suc b) h = zero-lt-suc b

  pub count_product : R * p < R * n + 2 ^ 53 → R * n < R * p + 2 ^ 53 → Count C (R * p) (R * n) (r ⊗ y)
  count_product h l = go (one_side y)
    where
      times : (R d n p : ℕ) → d + n ≡ p → R * d + R * n ≡ R * p
      times R d n p e = sym (mul-add R d n) ∙ ap (λ (k : ℕ). R * k) e

      times_C : (k n p C : ℕ) → k + n ≡ p → k * C + n * C ≡ 0 + p * C
      times_C k n p C e = sym (add-mul k n C) ∙ ap (λ (z : ℕ). z * C) e ∙ sym (zero-add (p * C))

      go : (plus y ≡ 0) ⊎ (less y ≡ 0) → Count C (R * p) (R * n) (r ⊗ y)
      go (inr e) =
          let f = apart_of (plus y) p n B B_pos (b.is ∙ ap (λ (k : ℕ). k + p * B) e ∙ zero-add (p * B)) in
          let d = times R (p - n) n p f.0 in
          let u = product_units false (p - n) (ap (λ (k : ℕ). 0 + k) e) (ap (λ (k : ℕ). plus y + k) e ∙ add-zero (plus y) ∙ f.1) (fewer (R * (p - n)) (R * p) (R * n) d h) in
          record { number = u.number; is = ap (λ (k : ℕ). k + R * n * C) u.plus_is ∙ times_C (R * (p - n)) (R * n) (R * p) C d ∙ ap (λ (k : ℕ). k + R * p * C) (sym u.less_is) }
      go (inl e) =
          let f = apart_of (less y) n p B B_pos (sym b.is ∙ ap (λ (k : ℕ). k + n * B) e ∙ zero-add (n * B)) in
          let d = times R (n - p) p n f.0 in
          let u = product_units true (n - p) (ap (λ (k : ℕ). k + 0) e) (ap (λ (k : ℕ). k + less y) e ∙ zero-add (less y) ∙ f.1) (fewer (R * (n - p)) (R * n) (R * p) d l) in
          record { number = u.number; is = ap (λ (k : ℕ). k + R * n * C) u.plus_is ∙ sym (times_C (R * (n - p)) (R * p) (R * n) C d) ∙ ap (λ (k : ℕ). k + R * p * C) (sym u.less_is) }

-- ---- sums of the same value
-- a sum of nothing is +0, where one of the signs is +
nought : (f : Format) (s : Bool) (a : ℕ) (t : Bool) (b c : ℕ) → (s ≡ false) ⊎ (t ≡ false) → above s a + above t b ≡ under s a + under t b → sum f s a t b c ≡ round f false 0 c
unfolding sum
nought f true a true b c (inl h) e = absurd (differ h)
  where
    differ : true ≡ false → ⊥
    differ h = subst T h tt
nought f true a true b c (inr h) e = absurd (differ h)
  where
    differ : true ≡ false → ⊥
    differ h = subst T h tt
nought f false a false b c h e = ap (λ (k : ℕ). round f false k c) e
nought f false a true b c h e = go (ltb a b) (ltb→lt a b)
  where
    go : (u : Bool) → (T u → a < b) → cond u (round f true (b - a) c) (round f false (a - b) c) ≡ round f false 0 c
    go true k = absurd (lt_irrefl a (omega (arith, k tt, e)))
    go false k = ap (λ (k : ℕ). round f false k c) (omega (arith, e))
nought f true a false b c h e = go (ltb a b) (ltb→lt a b) (ltb b a) (ltb→lt b a)
  where
    go : (u : Bool) → (T u → a < b) → (v : Bool) → (T v → b < a) → cond u (round f false (b - a) c) (round f v (a - b) c) ≡ round f false 0 c
    go true k v l = absurd (lt_irrefl a (omega (arith, k tt, e)))
    go false k true l = absurd (lt_irrefl a (omega (arith, l tt, e)))
    go false k false l = ap (λ (k : ℕ). round f false k c) (omega (arith, e))

-- y is not -0
abbrev pub NotMinusNought : Float → Type 0
NotMinusNought y = mag y ≡ 0 → HasSign false y

finite_nought : (s : Bool) (m : ℕ) (e : ℤ) (t : Bool) (n : ℕ) (d : ℤ) → T (fits binary64 (fin s m e)) → T (fits binary64 (fin t n d)) → NotMinusNought (fin t n d)
    → plus (fin s m e) + plus (fin t n d) ≡ less (fin s m e) + less (fin t n d) → fin s m e ⊕ fin t n d ≡ round binary64 false 0 per_one
unfolding add per_one
finite_nought s m e t n d f g h z =
    let X = m * 2 ^ exponent 1074 e in
    let Y = n * 2 ^ exponent 1074 d in
    let a = in_units binary64 s m e f in
    let b = in_units binary64 t n d g in
    let c = down e * down d in
    let high = joined (above s (m * up e)) (above t (n * up d)) (down e) (down d) (above s X) (above t Y) (2 ^ 1074) (cross s (m * up e) X (down e) (2 ^ 1074) a) (cross t (n * up d) Y (down d) (2 ^ 1074) b) in
    let low = joined (under s (m * up e)) (under t (n * up d)) (down e) (down d) (under s X) (under t Y) (2 ^ 1074) (cross_under s (m * up e) X (down e) (2 ^ 1074) a) (cross_under t (n * up d) Y (down d) (2 ^ 1074) b) in
    let same = eq_of_mul-eq-mul_right (2 ^ 1074) (pow_pos 1074) (above s (m * up e) * down d + above t (n * up d) * down e) (under s (m * up e) * down d + under t (n * up d) * down e) (high ∙ ap (λ (k : ℕ). k * c) z ∙ sym low) in
    nought binary64 s (m * up e * down d) t (n * up d * down e) c (signs s t X Y z h)
    (ap₂ ◌+◌ (above_times s (m * up e) (down d)) (above_times t (n * up d) (down e)) ∙ same ∙ sym (ap₂ ◌+◌ (under_times s (m * up e) (down d)) (under_times t (n * up d) (down e))))
    ∙ round_same binary64 false 0 c 0 (2 ^ 1074) (mul-pos (down_pos e) (down_pos d)) (pow_pos 1074) (zero-mul (2 ^ 1074) ∙ sym (zero-mul c))
  where
    signs : (s t : Bool) (X Y : ℕ) → above s X + above t Y ≡ under s X + under t Y → (above t Y + under t Y ≡ 0 → t ≡ false) → (s ≡ false) ⊎ (t ≡ false)
    signs false t X Y z h = inl refl
    signs true false X Y z h = inr refl
    signs true true X Y z h = inr (h (omega arith))

pub sum_nought : (x y : Float) → Number x → Number y → NotMinusNought y → plus x + plus y ≡ less x + less y → x ⊕ y ≡ round binary64 false 0 per_one
sum_nought = of_numbers (λ (x y : Float). NotMinusNought y → plus x + plus y ≡ less x + less y → x ⊕ y ≡ round binary64 false 0 per_one) finite_nought

-- p - n and q - m are the same, and what is rounded from nothing is +0
pub rounded_alike : {p n q m : ℕ} {z w : Float} → Rounded binary64 p n per_one z → Rounded binary64 q m per_one w → (p ≡ n → z ≡ round binary64 false 0 per_one) → (q ≡ m → w ≡ round binary64 false 0 per_one)
    → p + m ≡ n + q → z ≡ w
rounded_alike {p} {n} {q} {m} {z} {w} R Q a b e = go R.sign R.exact R.is Q.sign Q.exact Q.is
  where
    none : (k l p n q m : ℕ) → k + n ≡ p → l + q ≡ m → p + m ≡ n + q → (p ≡ n) × (q ≡ m)
    none k l p n q m e f h = (omega arith, omega arith)

    none_under : (k l p n q m : ℕ) → k + p ≡ n → l + m ≡ q → p + m ≡ n + q → (p ≡ n) × (q ≡ m)
    none_under k l p n q m e f h = (omega arith, omega arith)

    go : (s : Bool) → Signed s R.digits p n → z ≡ round binary64 s R.digits per_one → (t : Bool) → Signed t Q.digits q m → w ≡ round binary64 t Q.digits per_one → z ≡ w
    go false x i false y j = i ∙ ap (λ (k : ℕ). round binary64 false k per_one) (omega arith) ∙ sym j
    go true x i true y j = i ∙ ap (λ (k : ℕ). round binary64 true k per_one) (omega arith) ∙ sym j
    go false x i true y j =
        let o = none R.digits Q.digits p n q m x y e in
        a o.0 ∙ sym (b o.1)
    go true x i false y j =
        let o = none_under R.digits Q.digits p n q m x y e in
        a o.0 ∙ sym (b o.1)

-- two sums of the same value, neither with a last term -0
pub sums_same : {x y u v : Float} → Number x → Number y → Number u → Number v → NotMinusNought y → NotMinusNought v → plus x + plus y + (less u + less v) ≡ less x + less y + (plus u + plus v) → x ⊕ y ≡ u ⊕ v
sums_same {x} {y} {u} {v} a b c d h k e = rounded_alike (sum_in_units x y a b) (sum_in_units u v c d) (sum_nought x y a b h) (sum_nought u v c d k) e

-- an exact sum whose last term is not -0 is not -0
pub not_minus_nought : {G p n q m : ℕ} {x y : Float} → Grid G → Count G p n x → Count G q m y → p + q < n + m + 2 ^ 53 → n + m < p + q + 2 ^ 53 → NotMinusNought y → NotMinusNought (x ⊕ y)
not_minus_nought {G} {p} {n} {q} {m} {x} {y} g a b h l k z =
    subst (HasSign false) (sym (sum_nought x y a.number b.number k (omega (arith, (count_sum g a b h l).is))))
    (round_has_sign binary64 false 0 per_one)

-- what is on a grid and not below 0
pub record Clear (G : ℕ) (x : Float) : Type 0 where
  pub parts : ℕ
  pub is : plus x ≡ parts * G
  pub count : Count G parts 0 x

pub on_grid_clear : {G : ℕ} {x : Float} → Grid G → Number x → less x ≡ 0 → 2 ^ 52 * G ≤ plus x → Clear G x
on_grid_clear {G} {x} g n c l =
    let o = on_grid g n (le_trans l (le_of_eq (sym (ap (λ (k : ℕ). plus x + k) c ∙ add-zero (plus x))))) in
    let f = apart_of (plus x) o.over o.below G (grid_pos g) (o.count.is ∙ ap (λ (k : ℕ). k + o.over * G) c ∙ zero-add (o.over * G)) in
    record { parts = o.over - o.below; is = f.1; count = count_as (o.over - o.below) 0 o.count (omega arith) }
