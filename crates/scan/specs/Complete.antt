-- Document 01: "a complete line is what stands before a line feed, from the start or from the line feed before; it
-- may be empty. The unfinished tail is what follows the last line feed, or everything if there is none."
use Rattle.std.specs.Prelude.{◌≡◌, ℕ, cond, Option, MatchOption, List, [], ◌∷◌, ◌++◌, eqb, count_by}
use Rattle.std.specs.List.{position_or_len}
use denote.Ref.{Bor}

-- "a line feed (byte 10)"
abbrev pub line_feed : ℕ
line_feed = 10

-- the complete lines of `so ++ l`, where `so` has no line feed: the bytes that stand in the first line already
unfoldable pub lines_from : List ℕ → List ℕ → List (List ℕ)
lines_from so [] = []
lines_from so (b ∷ l) = cond (eqb b line_feed) (so ∷ lines_from [] l) (lines_from (so ++ b ∷ []) l)

-- what follows the last line feed of `so ++ l`, or everything if there is none
unfoldable pub rest_from : List ℕ → List ℕ → List ℕ
rest_from so [] = so
rest_from so (b ∷ l) = cond (eqb b line_feed) (rest_from [] l) (rest_from (so ++ b ∷ []) l)

-- the complete lines of l, and its unfinished tail
unfoldable pub lines : List ℕ → List (List ℕ)
lines l = lines_from [] l

unfoldable pub rest : List ℕ → List ℕ
rest l = rest_from [] l

-- One step along the complete lines of l: the first of them, and what is left after its feed; or none, and all of l,
-- the unfinished tail, is left.
abbrev pub NextLine : List ℕ → Option (Bor (List ℕ)) → List ℕ → Type 0
NextLine l r left =
    MatchOption r ((lines l ≡ []) × (rest l ≡ l) × (left ≡ l))
    (λ line. (lines l ≡ line.now ∷ lines left) × (rest l ≡ rest left))

-- how many line feeds l has
unfoldable pub line_feeds : List ℕ → ℕ
line_feeds l = count_by (λ b. eqb b line_feed) l

-- how many bytes stand before the first line feed of l, or in all of it; no contract of `batch` or above cites it
unfoldable pub line_end : List ℕ → ℕ
line_end l = position_or_len (λ b. eqb b line_feed) l
