-- Lists of bytes: text put at a place of a list, and a test over its elements.
use Rattle.std.specs.Prelude.{ℕ, ◌+◌, Bool, true, ◌&&◌, List, [], ◌∷◌, ◌++◌, Option, Some, None, length, take, drop}

-- the list `out` with `text` in the places from `at` on
unfoldable pub put : List ℕ → ℕ → List ℕ → List ℕ
put out at text = take at out ++ text ++ drop (at + length text) out

-- the bytes of a text, and none where there is no text
unfoldable pub if_some : {A : Type 0} → (A → List ℕ) → Option A → List ℕ
if_some bytes None = []
if_some bytes (Some text) = bytes text

-- whether a test holds of every element
unfoldable pub all : (ℕ → Bool) → List ℕ → Bool
all test [] = true
all test (b ∷ l) = test b && all test l
