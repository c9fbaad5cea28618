-- Document 01, "One pair, one answer": what the program prints after the answer lines.
use Rattle.std.specs.Prelude.{ℕ, cond, List, [], ◌∷◌, ◌++◌, codes, eqb}
use Rattle.std.specs.List.{flat_map}
use Rattle.text.specs.Digits.{decimal}
use Rattle.state.specs.declared.State.{State}

-- a label, and the number that follows it
abbrev pub labelled : List ℕ × ℕ → List ℕ
labelled p = p.0 ++ decimal p.1

-- `lines=2 rule=0 whole=1 edge=0 fast=0 slow=0 bad=1`: the labels and their numbers
abbrev pub labels_and_numbers : State → List (List ℕ × ℕ)
labels_and_numbers s =
    (codes "lines=", s.lines)
    ∷ (codes " rule=", s.tallies.rule)
    ∷ (codes " whole=", s.tallies.whole)
    ∷ (codes " edge=", s.tallies.edge)
    ∷ (codes " fast=", s.tallies.fast)
    ∷ (codes " slow=", s.tallies.slow)
    ∷ (codes " bad=", s.tallies.bad)
    ∷ []

-- "then one line of totals": the labelled numbers one after another, and a line feed
unfoldable pub totals : State → List ℕ
totals s = flat_map labelled (labels_and_numbers s) ++ codes "\n"

-- "then `end=8` if a tail is unfinished", "after the totals it then prints `end=6` alone": the line of a refusal's
-- number, and nothing for 0
abbrev pub end_line : ℕ → List ℕ
end_line n = cond (eqb n 0) [] (labelled (codes "end=", n) ++ codes "\n")
