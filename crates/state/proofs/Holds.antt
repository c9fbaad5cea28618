-- The tail that holds a line, and the line that a tail holds. Assumes nothing.
use Rattle.std.proofs.Common.{◌≡◌, ℕ, ◌+◌, ◌≤◌, ◌<◌, Bool, true, false, List, ◌++◌, length, take, drop, replicate, refl, sym, ap, ◌∙◌, lit<, arith, append_assoc, length-append}
use lib.Dec.{leb}
use borrow.Author.Tests.{le-leb, lt-leb, leb-true, leb-false, ne_eqb}
use lib.Seq.{take_at, drop-drop, drop-append_seam}
use borrow.Rule.Slice.PartMut.{put_mid}
use Rattle.lines.specs.Format.{longest}
use Rattle.state.specs.declared.Tail.{Tail}
use Rattle.state.specs.Holding.{over_long, zeros, tail_of, held_line, as_held, Sound}

-- the mark of an over-long line
abbrev pub marked : Tail
marked = record { bytes = zeros; count = over_long }

-- the tail of a line that is short enough
abbrev pub stored : List ℕ → Tail
stored l = record { bytes = l ++ drop (length l) zeros; count = length l }

-- a line that is short enough is stored, and an over-long one is marked
pub tail_of_short : (l : List ℕ) → length l ≤ longest → tail_of l ≡ stored l
unfolding tail_of
tail_of_short l h = rw (le-leb _ _ h)

pub tail_of_long : (l : List ℕ) → longest < length l → tail_of l ≡ marked
unfolding tail_of
tail_of_long l h = rw (lt-leb _ _ h)

-- a tail with no mark holds as many of its bytes as the count says
pub held_line_bytes : (t : Tail) → t.count ≤ longest → held_line t ≡ take t.count t.bytes
unfolding held_line
held_line_bytes t h = rw (ne_eqb t.count over_long (omega arith))

-- a line that is short enough comes back
pub held_line_short : (l : List ℕ) → length l ≤ longest → held_line (tail_of l) ≡ l
held_line_short l h = ap held_line (tail_of_short l h) ∙ held_line_bytes (stored l) h ∙ take_at l (drop (length l) zeros) (length l) refl

-- those of an over-long line come back as an over-long line
pub held_line_long : (l : List ℕ) → longest < length l → longest < length (held_line (tail_of l))
unfolding held_line
held_line_long l h = rw (tail_of_long l h) (lit< tt)

-- as it is held, an over-long line is what stands for it, and another is itself
pub as_held_long : (l : List ℕ) → longest < length l → as_held l ≡ replicate over_long 0
unfolding as_held held_line
as_held_long l h = rw (tail_of_long l h)

pub as_held_short : (l : List ℕ) → length l ≤ longest → as_held l ≡ l
unfolding as_held
as_held_short l h = held_line_short l h

-- a line is short enough or over-long
pub data Fits (l : List ℕ) : Type 0 where
  short : length l ≤ longest → Fits l
  long : longest < length l → Fits l

pub fits : (l : List ℕ) → Fits l
fits l = by (leb (length l) longest) refl
  where
    by : (t : Bool) → leb (length l) longest ≡ t → Fits l
    by true h = short (leb-true _ _ h)
    by false h = long (leb-false _ _ h)

-- a line as it is held is held in the same tail, and as it is
pub tail_of_as_held : (l : List ℕ) → tail_of (as_held l) ≡ tail_of l
tail_of_as_held l = by (fits l)
  where
    by : Fits l → tail_of (as_held l) ≡ tail_of l
    by (short h) = ap tail_of (as_held_short l h)
    by (long h) = ap tail_of (as_held_long l h) ∙ tail_of_long (replicate over_long 0) (lit< tt) ∙ sym (tail_of_long l h)

pub as_held_twice : (l : List ℕ) → as_held (as_held l) ≡ as_held l
unfolding as_held
as_held_twice l = ap held_line (tail_of_as_held l)

-- the tail that holds a line is a sound one
pub sound : (l : List ℕ) → Sound (tail_of l)
unfolding as_held
sound l = sym (tail_of_as_held l)

-- A sound tail and its line: a short one is stored, and the mark stands for an over-long one.
pub data HeldIn (t : Tail) (l : List ℕ) : Type 0 where
  is_stored : length l ≤ longest → t ≡ stored l → HeldIn t l
  is_marked : l ≡ replicate over_long 0 → t ≡ marked → HeldIn t l

pub held_in : (t : Tail) → Sound t → HeldIn t (held_line t)
unfolding as_held
held_in t s = by (fits (held_line t))
  where
    by : Fits (held_line t) → HeldIn t (held_line t)
    by (short h) = is_stored h (s ∙ tail_of_short (held_line t) h)
    by (long h) = is_marked (ap held_line s ∙ as_held_long (held_line t) h) (s ∙ tail_of_long (held_line t) h)

-- the count is the length of the line
pub held_length : (t : Tail) → Sound t → t.count ≡ length (held_line t)
held_length t s = by (held_in t s)
  where
    by : HeldIn t (held_line t) → t.count ≡ length (held_line t)
    by (is_stored h e) = ap (λ (k : Tail). k.count) e
    by (is_marked h e) = ap (λ (k : Tail). k.count) e ∙ ap length (sym h)

-- a short line with a part more that stays short
longer : (l part : List ℕ) → length l + length part ≤ longest
    → record { bytes = put_mid (length l) (length part) (l ++ drop (length l) zeros) part; count = length l + length part } ≡ tail_of (l ++ part)
longer l part h =
    let z : List ℕ = drop (length l) zeros in
    ap (λ (b : List ℕ). record { bytes = b ++ (part ++ drop (length part) (drop (length l) (l ++ z))); count = length l + length part }) (take_at l z (length l) refl)
    ∙ ap (λ (b : List ℕ). record { bytes = l ++ (part ++ drop (length part) b); count = length l + length part }) (drop-append_seam l z)
    ∙ ap (λ (b : List ℕ). record { bytes = b; count = length l + length part }) (sym (append_assoc l part (drop (length part) z)) ∙ ap (λ (b : List ℕ). l ++ part ++ b) (drop-drop (length part) (length l) zeros))
    ∙ ap (λ (n : ℕ). record { bytes = l ++ part ++ drop n zeros; count = n }) (sym (length-append l part))
    ∙ sym (tail_of_short (l ++ part) (omega (arith, length-append l part)))

-- a sound tail with a part put after its line
pub extended : (t : Tail) → Sound t → (part new : List ℕ) (k : ℕ) → t.count + length part ≤ longest → k ≡ length part → new ≡ part
    → record { bytes = put_mid t.count k t.bytes new; count = t.count + length part } ≡ tail_of (held_line t ++ part)
extended t s part new k h e f = by (held_in t s)
  where
    by : HeldIn t (held_line t) → record { bytes = put_mid t.count k t.bytes new; count = t.count + length part } ≡ tail_of (held_line t ++ part)
    by (is_stored g i) =
        let n : t.count ≡ length (held_line t) = ap (λ (k : Tail). k.count) i in
        let b : t.bytes ≡ held_line t ++ drop (length (held_line t)) zeros = ap (λ (k : Tail). k.bytes) i in
        let r : record { bytes = put_mid (length (held_line t)) (length part) (held_line t ++ drop (length (held_line t)) zeros) part; count = length (held_line t) + length part } ≡ tail_of (held_line t ++ part) = longer (held_line t) part (omega arith) in
        cc
    by (is_marked g i) = absurd (let n : t.count ≡ over_long = ap (λ (k : Tail). k.count) i in omega arith)

-- or one that has no room for it
pub over : (t : Tail) → Sound t → (part : List ℕ) → longest < t.count + length part → longest < length (held_line t ++ part)
over t s part h = let n : t.count ≡ length (held_line t) = held_length t s in omega (arith, length-append (held_line t) part)
