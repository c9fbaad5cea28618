-- The sum of two finite values is the exact sum, rounded once, whatever the signs (`add_rounded`). So it is a number (`add_number`), addition is commutative (`add_turned`) and keeps
-- the order (`sums_mono`, `add_mono`), that of patterns too (`sum_patterns_mono`), and what is left of an f64 over its nearest whole value is at most a half (`whole_distance`).
-- Assumes nothing.
use Rattle.std.proofs.Common.{◌≡◌, ℕ, zero, suc, ◌+◌, ◌-◌, ◌*◌, ◌<◌, ◌≤◌, Bool, true, false, cond, not, ◌||◌, T, ltb, ℤ, negsuc, sym, refl, ap, ◌∙◌, subst, le_trans, le_of_eq, lt_of_le_of_lt, le_of_lt, mul-le-mul_right, zero-lt-suc, mul_comm, add-mul, add_comm, mul-pos, zero-mul, mul-one, mul_right_comm, not-le_of_lt, arith, lit<, ltb→lt, nltb→le}
use native.Mathlib.Nat.{mul-mul-mul_comm}
use lib.Ieee.{Float, nan, inf, fin, Format, binary64, up, down, round, neg, sum, add, sub, le, below, level, fits, is_nan, hid, ones, to_bits, of_bits}
use lib.Ieee.Exact.{HasValue}
use lib.Ieee.Fits.{down_pos, add-fits}
use lib.Ieee.Nearest.{closest, closest_mono}
use lib.Ieee.Scale.{finite}
use Rattle.std.proofs.lemmas.Bool.Decides.{nat_tests}
use Rattle.std.proofs.lemmas.Float.{le_refl}
use Rattle.floats.specs.Narrowing.{nearest_whole}
use Rattle.floats.proofs.Laws.Units.{round_number}
use Rattle.floats.proofs.Laws.Closest.{closest_above, closest_below, closest_one}
use Rattle.floats.proofs.Laws.Magnitude.{Finite, below_infinity}
use Rattle.floats.proofs.Laws.Order.{clear, pattern_mono, round_clear, AtMost, rounding_mono, values_of_patterns}
use Rattle.floats.proofs.Laws.Whole.{nearest_whole_exact}

-- ---- a number with a sign, as what it has above zero less what it has below
abbrev pub above : Bool → ℕ → ℕ
above false a = a
above true a = 0

abbrev pub under : Bool → ℕ → ℕ
under false a = 0
under true a = a

-- k with the sign s is p - n
abbrev pub Signed : Bool → ℕ → ℕ → ℕ → Type 0
Signed false k p n = k + n ≡ p
Signed true k p n = k + p ≡ n

-- x is p / c - n / c, rounded
pub record Rounded (f : Format) (p n c : ℕ) (x : Float) : Type 0 where
  pub sign : Bool
  pub digits : ℕ
  pub exact : Signed sign digits p n
  pub is : x ≡ round f sign digits c

-- ---- a sum
sum_rounded : (f : Format) (s : Bool) (a : ℕ) (t : Bool) (b c : ℕ) → Rounded f (above s a + above t b) (under s a + under t b) c (sum f s a t b c)
unfolding sum
sum_rounded f false a false b c = record { sign = false; digits = a + b; exact = omega arith; is = refl }
sum_rounded f true a true b c = record { sign = true; digits = a + b; exact = omega arith; is = refl }
sum_rounded f false a true b c = go (ltb a b) (ltb→lt a b) (nltb→le a b)
  where
    go : (u : Bool) → (T u → a < b) → (T (not u) → b ≤ a) → Rounded f (a + 0) (0 + b) c (cond u (round f true (b - a) c) (round f false (a - b) c))
    go true h k = record { sign = true; digits = b - a; exact = omega (arith, h tt); is = refl }
    go false h k = record { sign = false; digits = a - b; exact = omega (arith, k tt); is = refl }
sum_rounded f true a false b c = go (ltb a b) (ltb→lt a b) (nltb→le a b) (ltb b a) (ltb→lt b a) (nltb→le b a)
  where
    go : (u : Bool) → (T u → a < b) → (T (not u) → b ≤ a) → (v : Bool) → (T v → b < a) → (T (not v) → a ≤ b)
        → Rounded f (0 + b) (a + 0) c (cond u (round f false (b - a) c) (round f v (a - b) c))
    go true h k v l m = record { sign = false; digits = b - a; exact = omega (arith, h tt); is = refl }
    go false h k true l m = record { sign = true; digits = a - b; exact = omega (arith, k tt); is = refl }
    go false h k false l m = record { sign = false; digits = a - b; exact = omega (arith, k tt, m tt); is = refl }

-- ---- the order of what is rounded is that of the exact numbers
none_of : (a c : ℕ) → 0 < c → a * c ≤ 0 → a ≡ 0
none_of zero c C h = refl
none_of (suc a) c C h = absurd (not-le_of_lt (mul-pos (zero-lt-suc a) C) h)

at_most : (u : Bool) (k : ℕ) (v : Bool) (l p n c q r d : ℕ) → 0 < c → 0 < d → Signed u k p n → Signed v l q r → p * d + r * c ≤ q * c + n * d → AtMost u k c v l d
at_most false k false l p n c q r d C D x y h =
    let x' : (k + n) * d ≡ p * d = ap (λ (z : ℕ). z * d) x in
    let y' : (l + r) * c ≡ q * c = ap (λ (z : ℕ). z * c) y in
    omega arith
at_most true k true l p n c q r d C D x y h =
    let x' : (k + p) * d ≡ n * d = ap (λ (z : ℕ). z * d) x in
    let y' : (l + q) * c ≡ r * c = ap (λ (z : ℕ). z * c) y in
    omega arith
at_most true k false l p n c q r d C D x y h = tt
at_most false k true l p n c q r d C D x y h =
    let x' : (k + n) * d ≡ p * d = ap (λ (z : ℕ). z * d) x in
    let y' : (l + q) * c ≡ r * c = ap (λ (z : ℕ). z * c) y in
    (none_of k d D (omega arith), none_of l c C (omega arith))

-- p / c - n / c is at most q / d - r / d
pub rounded_mono : {f : Format} {p n c : ℕ} {x : Float} {q r d : ℕ} {y : Float} → Rounded f p n c x → Rounded f q r d y → 0 < c → 0 < d → p * d + r * c ≤ q * c + n * d → T (le x y)
rounded_mono {f} {p} {n} {c} {x} {q} {r} {d} {y} R S C D h =
    subst (λ (z : Float). T (le z y)) (sym R.is)
    (subst (λ (z : Float). T (le (round f R.sign R.digits c) z)) (sym S.is)
    (rounding_mono f R.sign R.digits c S.sign S.digits d C D (at_most R.sign R.digits S.sign S.digits p n c q r d C D R.exact S.exact h)))

-- ---- what `le` says of two finite values
in_order : (s : Bool) (a : ℕ) (t : Bool) (b : ℕ) → T (below s a t b || level s a t b) → above s a + under t b ≤ above t b + under s a
in_order false a false b h = grind (arith, nat_tests)
in_order true a true b h = grind (arith, nat_tests)
in_order true a false b h = grind (arith, nat_tests)
in_order false a true b h = grind (arith, nat_tests)

pub above_times : (s : Bool) (a k : ℕ) → above s (a * k) ≡ above s a * k
above_times false a k = refl
above_times true a k = sym (zero-mul k)

pub under_times : (s : Bool) (a k : ℕ) → under s (a * k) ≡ under s a * k
under_times false a k = sym (zero-mul k)
under_times true a k = refl

crossed : (a b i j k l : ℕ) → (a * j + b * i) * (k * l) ≡ a * k * (j * l) + b * l * (i * k)
crossed a b i j k l = add-mul (a * j) (b * i) (k * l) ∙ cc (mul-mul-mul_comm a j k l, mul-mul-mul_comm b i l k, mul_comm k l)

-- the sums of a / i and b / j and of c / k and d / l, each number in its two parts
sums_cross : (a a' i b b' j c c' k d d' l : ℕ) → a * k + c' * i ≤ c * i + a' * k → b * l + d' * j ≤ d * j + b' * l
    → (a * j + b * i) * (k * l) + (c' * l + d' * k) * (i * j) ≤ (c * l + d * k) * (i * j) + (a' * j + b' * i) * (k * l)
sums_cross a a' i b b' j c c' k d d' l g h =
    rw (crossed a b i j k l, crossed c' d' k l i j, crossed c d k l i j, crossed a' b' i j k l, mul_comm l j, mul_comm k i)
    (omega (arith, add-mul (a * k) (c' * i) (j * l), add-mul (c * i) (a' * k) (j * l), add-mul (b * l) (d' * j) (i * k), add-mul (d * j) (b' * l) (i * k), mul-le-mul_right (j * l) g, mul-le-mul_right (i * k) h))

-- ---- addition
-- the exact sum over the product of the denominators, rounded
pub add_rounded : (f : Format) (s : Bool) (m : ℕ) (e : ℤ) (t : Bool) (n : ℕ) (d : ℤ)
    → Rounded f (above s (m * up e) * down d + above t (n * up d) * down e) (under s (m * up e) * down d + under t (n * up d) * down e) (down e * down d) (add f (fin s m e) (fin t n d))
unfolding add
add_rounded f s m e t n d =
    rw (← above_times s (m * up e) (down d), ← above_times t (n * up d) (down e), ← under_times s (m * up e) (down d), ← under_times t (n * up d) (down e))
    (sum_rounded f s (m * up e * down d) t (n * up d * down e) (down e * down d))

-- a number plus a finite value is a number
pub add_number : (f : Format) (x : Float) (t : Bool) (n : ℕ) (d : ℤ) → T (not (is_nan x)) → T (not (is_nan (add f x (fin t n d))))
unfolding add is_nan
add_number f nan t n d h = absurd h
add_number f (inf s) t n d h = tt
add_number f (fin s m e) t n d h = subst (λ (y : Float). T (not (is_nan y))) (sym (add_rounded f s m e t n d).is) (round_number f _ _ _)

pub le_says : (s : Bool) (m : ℕ) (e : ℤ) (t : Bool) (n : ℕ) (d : ℤ) → T (le (fin s m e) (fin t n d))
    → above s (m * up e) * down d + under t (n * up d) * down e ≤ above t (n * up d) * down e + under s (m * up e) * down d
unfolding le
le_says s m e t n d h =
    rw (← above_times s (m * up e) (down d), ← under_times t (n * up d) (down e), ← above_times t (n * up d) (down e), ← under_times s (m * up e) (down d))
    (in_order s (m * up e * down d) t (n * up d * down e) h)

-- a + x ≤ b + y, rounded, where a ≤ b and x ≤ y
pub sums_mono : (f : Format) (a b x y : Float) → T (finite a) → T (finite b) → T (finite x) → T (finite y) → T (le a b) → T (le x y) → T (le (add f a x) (add f b y))
sums_mono f nan b x y p q r t g h = absurd p
sums_mono f (inf s) b x y p q r t g h = absurd p
sums_mono f (fin s m e) nan x y p q r t g h = absurd q
sums_mono f (fin s m e) (inf u) x y p q r t g h = absurd q
sums_mono f (fin s m e) (fin u n d) nan y p q r t g h = absurd r
sums_mono f (fin s m e) (fin u n d) (inf v) y p q r t g h = absurd r
sums_mono f (fin s m e) (fin u n d) (fin v k i) nan p q r t g h = absurd t
sums_mono f (fin s m e) (fin u n d) (fin v k i) (inf w) p q r t g h = absurd t
sums_mono f (fin s m e) (fin u n d) (fin v k i) (fin w l j) p q r t g h =
    rounded_mono (add_rounded f s m e v k i) (add_rounded f u n d w l j) (mul-pos (down_pos e) (down_pos i)) (mul-pos (down_pos d) (down_pos j))
    (sums_cross (above s (m * up e)) (under s (m * up e)) (down e) (above v (k * up i)) (under v (k * up i)) (down i)
    (above u (n * up d)) (under u (n * up d)) (down d) (above w (l * up j)) (under w (l * up j)) (down j)
    (le_says s m e u n d g) (le_says v k i w l j h))

-- ---- addition is commutative
-- a - b and -b + a
opposite : (f : Format) (a b c : ℕ) (u : Bool) → (T u → a < b) → (T (not u) → b ≤ a) → (v : Bool) → (T v → b < a) → (T (not v) → a ≤ b)
    → cond u (round f true (b - a) c) (round f false (a - b) c) ≡ cond v (round f false (a - b) c) (round f u (b - a) c)
opposite f a b c true l g true m h = absurd (both (l tt) (m tt))
  where
    both : a < b → b < a → ⊥
    both p q = omega (arith, p, q)
opposite f a b c true l g false m h = refl
opposite f a b c false l g true m h = refl
opposite f a b c false l g false m h = ap (λ (k : ℕ). round f false k c) (equal (g tt) (h tt))
  where
    equal : b ≤ a → a ≤ b → a - b ≡ b - a
    equal p q = omega (arith, p, q)

sum_turned : (f : Format) (s : Bool) (a : ℕ) (t : Bool) (b c : ℕ) → sum f s a t b c ≡ sum f t b s a c
unfolding sum
sum_turned f false a false b c = ap (λ (k : ℕ). round f false k c) (add_comm a b)
sum_turned f true a true b c = ap (λ (k : ℕ). round f true k c) (add_comm a b)
sum_turned f false a true b c = opposite f a b c (ltb a b) (ltb→lt a b) (nltb→le a b) (ltb b a) (ltb→lt b a) (nltb→le b a)
sum_turned f true a false b c = sym (opposite f b a c (ltb b a) (ltb→lt b a) (nltb→le b a) (ltb a b) (ltb→lt a b) (nltb→le a b))

pub add_turned : (f : Format) (x y : Float) → add f x y ≡ add f y x
unfolding add
add_turned f nan nan = refl
add_turned f nan (inf t) = refl
add_turned f nan (fin t n d) = refl
add_turned f (inf s) nan = refl
add_turned f (inf false) (inf false) = refl
add_turned f (inf false) (inf true) = refl
add_turned f (inf true) (inf false) = refl
add_turned f (inf true) (inf true) = refl
add_turned f (inf s) (fin t n d) = refl
add_turned f (fin s m e) nan = refl
add_turned f (fin s m e) (inf t) = refl
add_turned f (fin s m e) (fin t n d) =
    sum_turned f s (m * up e * down d) t (n * up d * down e) (down e * down d) ∙ ap (λ (c : ℕ). sum f t (n * up d * down e) s (m * up e * down d) c) (mul_comm (down e) (down d))

-- ---- the order
-- a finite value is no NaN
pub finite_number : (x : Float) → T (finite x) → T (not (is_nan x))
unfolding is_nan
finite_number nan p = p
finite_number (inf s) p = tt
finite_number (fin s m e) p = tt

-- with one of the two the same
pub add_mono : (f : Format) (c x y : Float) → T (finite c) → T (finite x) → T (finite y) → T (le x y) → T (le (add f c x) (add f c y))
add_mono f c x y p q r h = sums_mono f c c x y p p q r (le_refl c (finite_number c p)) h

pub add_mono_left : (f : Format) (c x y : Float) → T (finite c) → T (finite x) → T (finite y) → T (le x y) → T (le (add f x c) (add f y c))
add_mono_left f c x y p q r h = sums_mono f x y c c q r p p h (le_refl c (finite_number c p))

-- the patterns of the sums of two values and a third, each with a clear sign
sum_clear : (f : Format) (m c : ℕ) → Finite f m → Finite f c → T (clear (add f (of_bits f m) (of_bits f c)))
sum_clear f m c v w =
    subst (λ (x : Float). T (clear (add f x (of_bits f c)))) (sym v.is)
    (subst (λ (x : Float). T (clear (add f (fin false v.digits v.power) x))) (sym w.is) (go v.digits v.power w.digits w.power))
  where
    go : (d : ℕ) (p : ℤ) (e : ℕ) (q : ℤ) → T (clear (add f (fin false d p) (fin false e q)))
    go d p e q = unfold add sum in round_clear f (d * up p * down q + e * up q * down p) (down p * down q)

pub sum_patterns_mono : (f : Format) (m n c : ℕ) → m ≤ n → n < ones f * hid f → c < ones f * hid f → to_bits f (add f (of_bits f m) (of_bits f c)) ≤ to_bits f (add f (of_bits f n) (of_bits f c))
sum_patterns_mono f m n c h k l =
    let u = below_infinity f m (lt_of_le_of_lt h k) in
    let v = below_infinity f n k in
    let w = below_infinity f c l in
    pattern_mono f (add f (of_bits f m) (of_bits f c)) (add f (of_bits f n) (of_bits f c)) (sum_clear f m c u w) (sum_clear f n c v w) (add-fits f (of_bits f m) (of_bits f c)) (add-fits f (of_bits f n) (of_bits f c))
    (add_mono_left f (of_bits f c) (of_bits f m) (of_bits f n) (finite_of w) (finite_of u) (finite_of v) (values_of_patterns f m n h (le_of_lt k)))
  where
    finite_of : {i : ℕ} → Finite f i → T (finite (of_bits f i))
    finite_of {i} v = subst (λ (x : Float). T (finite x)) (sym v.is) tt

-- ---- the nearest whole value
-- q = b / d is within a half of a / c
record Beside (a c b d : ℕ) : Type 0 where
  not_above : b * c * 2 ≤ a * d * 2 + c * d
  not_below : a * d * 2 ≤ b * c * 2 + c * d

beside : (a c b d : ℕ) → 0 < c → b * 1 ≡ closest a c * d → Beside a c b d
beside a c b d C e =
    let q = closest a c in
    let bc : b * c ≡ q * c * d = ap (λ (z : ℕ). z * c) (sym (mul-one b) ∙ e) ∙ mul_right_comm q d c in
    let x : (q * c * 2) * d ≤ (a * 2 + c) * d = mul-le-mul_right d (closest_above a c) in
    let y : (a * 2) * d ≤ (q * c * 2 + c) * d = mul-le-mul_right d (closest_below a c C) in
    record { not_above = omega arith; not_below = omega arith }

at_most_half : (s : Bool) (a c b d : ℕ) → Beside a c b d
    → (above s a * d + above (not s) b * c) * 2 + 0 * (c * d) ≤ 1 * (c * d) + (under s a * d + under (not s) b * c) * 2
at_most_half false a c b d h = omega arith
at_most_half true a c b d h = omega arith

at_least_half : (s : Bool) (a c b d : ℕ) → Beside a c b d
    → 0 * (c * d) + (under s a * d + under (not s) b * c) * 2 ≤ (above s a * d + above (not s) b * c) * 2 + 1 * (c * d)
at_least_half false a c b d h = omega arith
at_least_half true a c b d h = omega arith

half_rounded : Rounded binary64 1 0 2 (fin false 1 (negsuc 0))
half_rounded = record { sign = false; digits = 1; exact = refl; is = unfold round in refl }

minus_half_rounded : Rounded binary64 0 1 2 (fin true 1 (negsuc 0))
minus_half_rounded = record { sign = true; digits = 1; exact = refl; is = unfold round in refl }

-- from -1/2 to 1/2
abbrev pub WithinHalf : Float → Type 0
WithinHalf r = T (le (fin true 1 (negsuc 0)) r) × T (le r (fin false 1 (negsuc 0)))

-- what is left of x, rounded, over the nearest whole value is a half at most
pub whole_distance : (x : Float) → T (fits binary64 x) → T (finite x) → WithinHalf (sub binary64 x (nearest_whole x))
unfolding sub neg
whole_distance nan t p = absurd p
whole_distance (inf s) t p = absurd p
whole_distance (fin s m e) t p = go (nearest_whole (fin s m e)) (nearest_whole_exact s m e t)
  where
    go : (k : Float) → HasValue k s (closest (m * up e) (down e)) 1 → WithinHalf (sub binary64 (fin s m e) k)
    go nan v = absurd v
    go (inf u) v = absurd v
    go (fin u n d) v =
        let b = beside (m * up e) (down e) (n * up d) (down d) (down_pos e) v.1 in
        let r = add_rounded binary64 s m e (not s) n d in
        let D = mul-pos (down_pos e) (down_pos d) in
        subst (λ (z : Bool). WithinHalf (add binary64 (fin s m e) (fin (not z) n d))) (sym v.0) (
          rounded_mono minus_half_rounded r (lit< tt) D (at_least_half s (m * up e) (down e) (n * up d) (down d) b),
          rounded_mono r half_rounded D (lit< tt) (at_most_half s (m * up e) (down e) (n * up d) (down d) b),
        )

-- finite, and from -b to b
abbrev pub SizeAtMost : ℕ → Float → Type 0
SizeAtMost b nan = ⊥
SizeAtMost b (inf s) = ⊥
SizeAtMost b (fin s m e) = m * up e ≤ b * down e

pub size_finite : (b : ℕ) (x : Float) → SizeAtMost b x → T (finite x)
size_finite b nan h = h
size_finite b (inf s) h = h
size_finite b (fin s m e) h = tt

-- a whole number that bounds the size of a value bounds that of the nearest whole value
pub whole_at_most : (x : Float) → T (fits binary64 x) → (b : ℕ) → SizeAtMost b x → SizeAtMost b (nearest_whole x)
whole_at_most nan t b h = absurd h
whole_at_most (inf s) t b h = absurd h
whole_at_most (fin s m e) t b h = go (nearest_whole (fin s m e)) (nearest_whole_exact s m e t)
  where
    small : closest (m * up e) (down e) ≤ b
    small = le_trans (closest_mono (m * up e) (down e) b 1 (down_pos e) (lit< tt) (le_trans (le_of_eq (mul-one (m * up e))) h)) (le_of_eq (closest_one b))

    go : (k : Float) → HasValue k s (closest (m * up e) (down e)) 1 → SizeAtMost b k
    go nan v = absurd v
    go (inf u) v = absurd v
    go (fin u n d) v = le_trans (le_of_eq (sym (mul-one (n * up d)) ∙ v.1)) (mul-le-mul_right (down d) small)
