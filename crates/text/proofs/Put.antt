-- Laws of `put`, text put at a place of a list: the length stays, and text after text is one text. Assumes nothing.
use mathlib.Core.Path.{◌≡◌, refl, sym, ap, ◌∙◌}
use Prim.Native.Nat.{ℕ, zero, suc, ◌+◌, ◌-◌, ◌/◌, ◌%◌, ◌≤◌, ◌<◌}
use native.Mathlib.Omega.{arith}
use mathlib.Core.List.{List, [], ◌∷◌, ◌++◌, append_assoc}
use lib.ListN.{length, get_or, take, drop, set, length-append, length-drop, length-take, length-set}
use lib.Seq.{length-take-le, drop_at, drop-drop}
use borrow.Rule.Slice.PartMut.{put_mid}
use mathlib.Core.Bool.{Bool, true, false, not, cond}
use Rattle.std.proofs.lemmas.Grind.{common_steps}
use Rattle.std.specs.Bool.{then_some}
use Rattle.std.specs.List.{flat_map}
use Rattle.text.specs.Bytes.{put, if_some}
use Rattle.text.specs.Digits.{glyph, digits, places, decimal, hex}
use Rattle.text.proofs.Numerals.{length_digits, length_decimal, length_hex}

-- what stands before the text, and the text, as far as its end
length_upto : (out : List ℕ) (at : ℕ) (text : List ℕ) → at ≤ length out → length (take at out ++ text) ≡ at + length text
length_upto out at text h = length-append (take at out) text ∙ ap (λ (k : ℕ). k + length text) (length-take-le at out h)

-- text put within a list leaves its length
pub length_put : (out : List ℕ) (at : ℕ) (text : List ℕ) → at + length text ≤ length out → length (put out at text) ≡ length out
unfolding put
length_put out at text h = grind (arith, common_steps)

-- no text changes nothing
pub put_nothing : (out : List ℕ) (at : ℕ) → put out at [] ≡ out
unfolding put
put_nothing out at = grind (arith, common_steps)

-- what stands before the end of a text that is put, and what stands after it
take_put : (out : List ℕ) (at : ℕ) (text : List ℕ) → at ≤ length out → take (at + length text) (put out at text) ≡ take at out ++ text
unfolding put
take_put out at text h = grind (arith, common_steps)

drop_put : (out : List ℕ) (at : ℕ) (text : List ℕ) (n : ℕ) → at ≤ length out → drop (at + length text + n) (put out at text) ≡ drop (at + length text + n) out
unfolding put
drop_put out at text n h =
    sym (drop-drop n (at + length text) (put out at text))
    ∙ ap (λ (l : List ℕ). drop n l) (drop_at (take at out ++ text) (drop (at + length text) out) (at + length text) (length_upto out at text h))
    ∙ drop-drop n (at + length text) out

-- text put after text is both texts put
pub put_put : (out : List ℕ) (at : ℕ) (a b : List ℕ) → at + length a + length b ≤ length out → put (put out at a) (at + length a) b ≡ put out at (a ++ b)
unfolding put
put_put out at a b h =
    let e : at + length a + length b ≡ at + length (a ++ b) = omega (arith, length-append a b) in
    ap (λ (l : List ℕ). l ++ b ++ drop (at + length a + length b) (put out at a)) (take_put out at a (omega arith))
    ∙ ap (λ (l : List ℕ). take at out ++ a ++ b ++ l) (drop_put out at a (length b) (omega arith))
    ∙ ap (λ (l : List ℕ). l ++ drop (at + length a + length b) out) (append_assoc (take at out) a b)
    ∙ ap (λ (k : ℕ). take at out ++ (a ++ b) ++ drop k out) e

-- and so is a list after both
pub pair_put : (out middle last : List ℕ) (at next : ℕ) (a b : List ℕ) → at + length (a ++ b) ≤ length out
    → middle ≡ put out at a → next ≡ at + length a → last ≡ put middle next b → last ≡ put out at (a ++ b)
pair_put out middle last at next a b h e f g = g ∙ rw (e, f) (put_put out at a b (omega (arith, length-append a b)))

-- a list of texts: those from the place i on, and the list after the one there
module _ {A : Type 0} (text : A → List ℕ) (all : List A) (i : ℕ) where
  ahead : (x : A) → i < length all → text (get_or all i x) ++ flat_map text (drop (i + 1) all) ≡ flat_map text (drop i all)
  ahead x h = grind (arith, common_steps)

  pub next_place : (x : A) (at next n : ℕ) → i < length all → at + length (flat_map text (drop i all)) ≡ n
      → next ≡ at + length (text (get_or all i x)) → next + length (flat_map text (drop (i + 1) all)) ≡ n
  next_place x at next n h e f =
      omega (arith, ap length (ahead x h), length-append (text (get_or all i x)) (flat_map text (drop (i + 1) all)))

  pub next_put : (x : A) (out after l : List ℕ) (at next : ℕ) → i < length all → at + length (flat_map text (drop i all)) ≤ length out
      → put out at (flat_map text (drop i all)) ≡ l → after ≡ put out at (text (get_or all i x)) → next ≡ at + length (text (get_or all i x))
      → put after next (flat_map text (drop (i + 1) all)) ≡ l
  next_put x out after l at next h m e f g =
      pair_put out after (put after next (flat_map text (drop (i + 1) all))) at next (text (get_or all i x)) (flat_map text (drop (i + 1) all))
      (omega (arith, ap length (ahead x h))) f g refl
      ∙ ap (put out at) (ahead x h) ∙ e

  pub none_next : (out l : List ℕ) (at : ℕ) → length all ≤ i → put out at (flat_map text (drop i all)) ≡ l → out ≡ l
  none_next out l at h e =
      let f : [] ≡ flat_map text (drop i all) = grind (arith, common_steps) in
      sym (put_nothing out at) ∙ ap (put out at) f ∙ e

-- a part of a list that is a text, from a place to the end of the text there
pub put_part : (out : List ℕ) (at end : ℕ) (part text : List ℕ) → part ≡ text → end ≡ at + length text → put_mid at (end - at) out part ≡ put out at text
unfolding put
put_part out at end part text e f = grind (arith, common_steps)

-- digits in as many places as the part has
digits_put : (out : List ℕ) (at end base k n : ℕ) (part : List ℕ) → at + k ≤ length out → end ≡ at + k
    → part ≡ digits base (length (take (end - at) (drop at out))) n → put_mid at (end - at) out part ≡ put out at (digits base k n)
digits_put out at end base k n part h f e =
    let l : length (take (end - at) (drop at out)) ≡ k = omega (arith, length-take (end - at) (drop at out), length-drop at out) in
    put_part out at end part (digits base k n) (e ∙ ap (λ (i : ℕ). digits base i n) l) (f ∙ ap (λ (i : ℕ). at + i) (sym (length_digits base k n)))

pub decimal_put : (out : List ℕ) (at end n k : ℕ) (part : List ℕ) → at + length (decimal n) ≤ length out → end ≡ at + k → k ≡ places 9 n
    → part ≡ digits 10 (length (take (end - at) (drop at out))) n → put_mid at (end - at) out part ≡ put out at (decimal n)
unfolding decimal
decimal_put out at end n k part h f e g =
    digits_put out at end 10 (places 9 n) n part (omega (arith, length_decimal n)) (omega arith) g

pub hex_put : (out : List ℕ) (at end n : ℕ) (part : List ℕ) → at + length (hex n) ≤ length out → end ≡ at + 8
    → part ≡ digits 16 (length (take (end - at) (drop at out))) n → put_mid at (end - at) out part ≡ put out at (hex n)
unfolding hex
hex_put out at end n part h f g = digits_put out at end 16 8 n part (omega (arith, length_hex n)) f g

-- what stands from a stored byte on
drop_set : (out : List ℕ) (i b : ℕ) → i < length out → drop i (set out i b) ≡ b ∷ drop (suc i) out
drop_set out i b h = grind (arith, common_steps)

-- a text that is there by a test
pub by_test : {A : Type 0} (bytes : A → List ℕ) (t : Bool) (text : A) → if_some bytes (then_some (not t) text) ≡ cond t [] (bytes text)
unfolding if_some
by_test bytes true text = refl
by_test bytes false text = refl

-- digits filled in from the last to the first: those not yet filled, and the filled ones
pub digit_filled : (base n i b m : ℕ) (out : List ℕ) → 0 < i → i ≤ length out → b ≡ glyph (n % base) → digits base i n ++ drop i out ≡ digits base (length out) m
    → digits base (i - 1) (n / base) ++ drop (i - 1) (set out (i - 1) b) ≡ digits base (length (set out (i - 1) b)) m
unfolding digits
digit_filled base n zero b m out h g e f = absurd (omega arith)
digit_filled base n (suc i) b m out h g e f =
    let k : suc i - 1 ≡ i = omega arith in
    rw (k, length-set, drop_set out i b (omega arith), e) (sym (append_assoc (digits base i (n / base)) (glyph (n % base) ∷ []) (drop (suc i) out)) ∙ f)

pub all_filled : (base n i k m : ℕ) (out : List ℕ) → i ≤ 0 → digits base i n ++ drop i out ≡ digits base (length out) m → length out ≡ k → out ≡ digits base k m
unfolding digits
all_filled base n zero k m out h e f = rw (← f) e
all_filled base n (suc i) k m out h e f = absurd (omega arith)

pub ruleset digit_steps = (digit_filled, all_filled)
