-- Document 01: "When a piece is fed, its bytes carry on the line that the tail holds". One step of it.
use Rattle.std.specs.Prelude.{ℕ, ◌+◌, List, ◌++◌, take, drop}
use Rattle.scan.specs.Complete.{line_end}
use Rattle.state.specs.Holding.{as_held}

-- the line held, and after it the bytes of the piece p from a position up to the next line feed, or up to the end
unfoldable pub carry_on : List ℕ → List ℕ → ℕ → List ℕ
carry_on line p at = as_held (line ++ take (line_end (drop at p)) (drop at p))

-- and where that is
abbrev pub carry_end : List ℕ → ℕ → ℕ
carry_end p at = at + line_end (drop at p)
