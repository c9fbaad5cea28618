-- What the code finds at the front of a text: a field's value and what follows it, or that the field is missing.
-- No public contract rests on these definitions: they serve the functions inside the crate.
use Rattle.std.specs.Prelude.{◌≡◌, ℕ, Bool, true, false, cond, List, Option, Some, None, MatchOption}
use Rattle.std.specs.Borrow.{Bor}

-- what a field says, where there is one
abbrev pub value_if : Bool → ℕ → Option ℕ
value_if has n = cond has (Some n) None

-- the same, with what follows the field
abbrev pub Reads : Bool → ℕ → List ℕ → Option (ℕ × Bor (List ℕ)) → Type 0
Reads has n rest r = MatchOption r (has ≡ false) (λ p. (has ≡ true) × (p.0 ≡ n) × (p.1.now ≡ rest))
