-- `closest a b`, the whole number nearest to a / b, a tie to the even one: how far it is from a / b, where it is exact, and how it is
-- worked out by adding just under a half and cutting. Nothing here is about floats. Assumes nothing.
use Rattle.std.proofs.Common.{◌≡◌, ℕ, suc, ◌+◌, ◌-◌, ◌*◌, ◌/◌, ◌%◌, ◌<◌, ◌≤◌, not, T, eqb, ◌⊎◌, sym, refl, ap, ◌∙◌, subst, inl, inr, le_trans, le_of_eq, lt_of_lt_of_le, le_of_suc-le-suc, le-add_right, mul-le-mul_right, mod-lt, mod-eq_of_lt, eq-zero-or-pos, le_antisymm, lt_of_mul-lt-mul_right, div-add-mod', zero-add, mul-one, le_of_mul-le-mul_right, arith, lit<, eqb→eq, leb→le}
use Prim.Native.Nat.{compare, Ordering}
use native.Mathlib.Nat.{div-eq_of_lt, add-mul-div_right, add-mul-mod_self_right}
use lib.Dec.{is_le, compare_is_eq, nleb→lt, eqb_refl}
use lib.Arith.{lt_of_le-ne}
use lib.Ieee.{nearest}
use lib.Ieee.Fits.{nearest-le}
use lib.Ieee.Nearest.{closest, closest_same, nearest-ge}

-- ---- what `compare` says
abbrev Compared : Ordering → ℕ → ℕ → Type 0
Compared Ordering.lt a b = a < b
Compared Ordering.eq a b = a ≡ b
Compared Ordering.gt a b = b < a

compared : (a b : ℕ) → Compared (compare a b) a b
compared a b = go (compare a b) (leb→le a b) (nleb→lt a b) (eqb→eq a b) (λ (e : a ≡ b). subst (λ (x : ℕ). T (eqb a x)) e (eqb_refl a))
  where
    go : (o : Ordering) → (T (is_le o) → a ≤ b) → (T (not (is_le o)) → b < a) → (T (compare_is_eq o) → a ≡ b) → (a ≡ b → T (compare_is_eq o)) → Compared o a b
    go Ordering.lt h k e n = lt_of_le-ne (h tt) n
    go Ordering.eq h k e n = e tt
    go Ordering.gt h k e n = k tt

-- ---- within a half of a / b, each side by itself, and nothing divided: with a = q * b + r
half_above : (q r b : ℕ) (o : Ordering) → Compared o (r * 2) b → nearest q o * b * 2 ≤ (q * b + r) * 2 + b
half_above q r b Ordering.lt h = omega arith
half_above q r b Ordering.eq h = omega (arith, mul-le-mul_right b (nearest-le q Ordering.eq))
half_above q r b Ordering.gt h = omega arith

half_below : (q r b : ℕ) (o : Ordering) → Compared o (r * 2) b → r < b → (q * b + r) * 2 ≤ nearest q o * b * 2 + b
half_below q r b Ordering.lt h l = omega arith
half_below q r b Ordering.eq h l = omega (arith, mul-le-mul_right b (nearest-ge q Ordering.eq))
half_below q r b Ordering.gt h l = omega arith

pub closest_above : (a b : ℕ) → closest a b * b * 2 ≤ a * 2 + b
closest_above a b =
    subst (λ (x : ℕ). closest a b * b * 2 ≤ x * 2 + b) (div-add-mod' a b) (half_above (a / b) (a % b) b (compare (a % b * 2) b) (compared (a % b * 2) b))

pub closest_below : (a b : ℕ) → 0 < b → a * 2 ≤ closest a b * b * 2 + b
closest_below a b B =
    subst (λ (x : ℕ). x * 2 ≤ closest a b * b * 2 + b) (div-add-mod' a b)
    (half_below (a / b) (a % b) b (compare (a % b * 2) b) (compared (a % b * 2) b) (mod-lt a B))

-- ---- a whole number that is nearer than a half is the nearest
pub closest_unique : (a b n : ℕ) → 0 < b → n * b * 2 < a * 2 + b → a * 2 < n * b * 2 + b → closest a b ≡ n
closest_unique a b n B g h = le_antisymm (under (closest a b) n (above (closest a b * b) (n * b) a b (closest_above a b) h)) (under n (closest a b) (above' (n * b) (closest a b * b) a b g (closest_below a b B)))
  where
    above : (x y a b : ℕ) → x * 2 ≤ a * 2 + b → a * 2 < y * 2 + b → x < y + b
    above x y a b g h = omega arith

    above' : (x y a b : ℕ) → x * 2 < a * 2 + b → a * 2 ≤ y * 2 + b → x < y + b
    above' x y a b g h = omega arith

    next : (y b : ℕ) → y * b + b ≡ suc y * b
    next y b = omega arith

    under : (x y : ℕ) → x * b < y * b + b → x ≤ y
    under x y h = le_of_suc-le-suc (lt_of_mul-lt-mul_right b (lt_of_lt_of_le h (le_of_eq (next y b))))

-- ---- a whole number more or less, and a whole number itself
shifted : (q t : ℕ) (o : Ordering) → q % 2 ≡ (q + t) % 2 → nearest (q + t) o ≡ nearest q o + t
shifted q t Ordering.lt e = refl
shifted q t Ordering.eq e = omega arith
shifted q t Ordering.gt e = omega arith

pub closest_add_even : (a b t : ℕ) → 0 < b → t % 2 ≡ 0 → closest (a + t * b) b ≡ closest a b + t
closest_add_even a b t B e =
    ap (λ (x : ℕ). nearest x (compare ((a + t * b) % b * 2) b)) (add-mul-div_right a t B)
    ∙ ap (λ (x : ℕ). nearest (a / b + t) (compare (x * 2) b)) (add-mul-mod_self_right a t b)
    ∙ shifted (a / b) t (compare (a % b * 2) b) (omega arith)

pub closest_one : (a : ℕ) → closest a 1 ≡ a
closest_one a = omega (arith, closest_above a 1, closest_below a 1 (lit< tt))

-- ---- an even number t less a / b
-- where a = q * b
whole_rest : (q b : ℕ) (o : Ordering) → 0 < b → Compared o 0 b → nearest q o ≡ q
whole_rest q b Ordering.lt B h = refl
whole_rest q b Ordering.eq B h = absurd (omega (arith, B, h))
whole_rest q b Ordering.gt B h = absurd (omega (arith, B, h))

whole_less : (q b s : ℕ) → 0 < b → closest ((q + s) * b - (q * b + 0)) b ≡ q + s - nearest q (compare 0 b)
whole_less q b s B =
    ap (λ (x : ℕ). closest x b) (left q b s)
    ∙ closest_same (s * b) b s 1 B (lit< tt) (mul-one (s * b))
    ∙ closest_one s
    ∙ taken q s
    ∙ ap (λ (x : ℕ). q + s - x) (sym (whole_rest q b (compare 0 b) B (compared 0 b)))
  where
    left : (q b s : ℕ) → (q + s) * b - (q * b + 0) ≡ s * b
    left q b s = omega arith

    taken : (q s : ℕ) → s ≡ q + s - q
    taken q s = omega arith

-- where a = q * b + r: of t = q + 1 + n the quotient is n and the rest b - r, on the other side of a half
turned : (q n b r : ℕ) (o p : Ordering) → (suc q + n) % 2 ≡ 0 → Compared o (r * 2) b → Compared p ((b - r) * 2) b → r < b → nearest n p ≡ suc q + n - nearest q o
turned q n b r Ordering.lt Ordering.lt e g h k = absurd (omega (arith, g, h, k))
turned q n b r Ordering.lt Ordering.eq e g h k = absurd (omega (arith, g, h, k))
turned q n b r Ordering.lt Ordering.gt e g h k = omega arith
turned q n b r Ordering.eq Ordering.lt e g h k = absurd (omega (arith, g, h, k))
turned q n b r Ordering.eq Ordering.eq e g h k = omega (arith, e)
turned q n b r Ordering.eq Ordering.gt e g h k = absurd (omega (arith, g, h, k))
turned q n b r Ordering.gt Ordering.lt e g h k = omega arith
turned q n b r Ordering.gt Ordering.eq e g h k = absurd (omega (arith, g, h, k))
turned q n b r Ordering.gt Ordering.gt e g h k = absurd (omega (arith, g, h, k))

rest_less : (q r b n : ℕ) → 0 < b → 0 < r → r < b → (suc q + n) % 2 ≡ 0 → closest ((suc q + n) * b - (q * b + r)) b ≡ suc q + n - nearest q (compare (r * 2) b)
rest_less q r b n B p l e =
    ap (λ (x : ℕ). closest x b) (left q r b n l)
    ∙ ap (λ (x : ℕ). nearest x (compare ((b - r + n * b) % b * 2) b)) (add-mul-div_right (b - r) n B ∙ ap (λ (x : ℕ). x + n) (div-eq_of_lt (under b r B p)) ∙ zero-add n)
    ∙ ap (λ (x : ℕ). nearest n (compare (x * 2) b)) (add-mul-mod_self_right (b - r) n b ∙ mod-eq_of_lt (under b r B p))
    ∙ turned q n b r (compare (r * 2) b) (compare ((b - r) * 2) b) e (compared (r * 2) b) (compared ((b - r) * 2) b) l
  where
    left : (q r b n : ℕ) → r < b → (suc q + n) * b - (q * b + r) ≡ b - r + n * b
    left q r b n h = omega arith

    under : (b r : ℕ) → 0 < b → 0 < r → b - r < b
    under b r B p = omega arith

pub closest_from_even : (a b t : ℕ) → 0 < b → t % 2 ≡ 0 → a ≤ t * b → closest (t * b - a) b ≡ t - closest a b
closest_from_even a b t B e h =
    subst (λ (x : ℕ). closest (t * b - x) b ≡ t - closest a b) (div-add-mod' a b) (go (a / b) (a % b) (mod-lt a B) (le_trans (le_of_eq (div-add-mod' a b)) h) (eq-zero-or-pos (a % b)))
  where
    go : (q r : ℕ) → r < b → q * b + r ≤ t * b → (r ≡ 0) ⊎ (0 < r) → closest (t * b - (q * b + r)) b ≡ t - nearest q (compare (r * 2) b)
    go q r l h (inl z) =
        subst (λ (x : ℕ). closest (t * b - (q * b + x)) b ≡ t - nearest q (compare (x * 2) b)) (sym z)
        (subst (λ (x : ℕ). closest (x * b - (q * b + 0)) b ≡ x - nearest q (compare 0 b)) (parts q t (le_of_mul-le-mul_right (le_trans (le-add_right (q * b) r) h) B)) (whole_less q b (t - q) B))
      where
        parts : (q t : ℕ) → q ≤ t → q + (t - q) ≡ t
        parts q t h = omega arith
    go q r l h (inr p) =
        let w = parts q t (lt_of_mul-lt-mul_right b (more q r b t p h)) in
        subst (λ (x : ℕ). closest (x * b - (q * b + r)) b ≡ x - nearest q (compare (r * 2) b)) w (rest_less q r b (t - suc q) B p l (subst (λ (x : ℕ). x % 2 ≡ 0) (sym w) e))
      where
        parts : (q t : ℕ) → q < t → suc q + (t - suc q) ≡ t
        parts q t h = omega arith

        more : (q r b t : ℕ) → 0 < r → q * b + r ≤ t * b → q * b < t * b
        more q r b t p h = omega arith

-- ---- by adding: one less than a half of the divisor, and one more where the quotient is odd, and cut
-- the last place of an f32 is 2^29 of the f64 with the same leading digit
pub closest_by_adding : (a : ℕ) → closest a 536870912 ≡ (a + 268435455 + a / 536870912 % 2) / 536870912
closest_by_adding a = go (compare (a % 536870912 * 2) 536870912) (compared (a % 536870912 * 2) 536870912)
  where
    go : (o : Ordering) → Compared o (a % 536870912 * 2) 536870912 → nearest (a / 536870912) o ≡ (a + 268435455 + a / 536870912 % 2) / 536870912
    go Ordering.lt h = omega arith
    go Ordering.eq h = omega arith
    go Ordering.gt h = omega arith
