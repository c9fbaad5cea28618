-- What is kept for the totals and the end's line is enough. Assumes nothing.
use Prim.Native.Nat.{ℕ, ◌+◌, ◌≤◌}
use native.Mathlib.Omega.{arith}
use mathlib.Core.Bool.{Bool, true, false, cond}
use mathlib.Core.List.{List, [], ◌∷◌, ◌++◌}
use lib.Dec.{eqb}
use lib.ListN.{length, length-append}
use Rattle.std.proofs.Common.{append-nil, append_assoc}
use Rattle.std.specs.Prelude.{codes}
use Rattle.std.specs.List.{flat_map}
use Rattle.text.specs.Digits.{decimal}
use Rattle.text.proofs.Numerals.{length_decimal, places_most}
use Rattle.text.proofs.Put.{by_test}
use Rattle.state.specs.declared.State.{State}
use Rattle.totals.specs.Totals.{labelled, labels_and_numbers, totals, end_line}

-- a label and its number: the number has at most ten digits
labelled_most : (label : List ℕ) (n : ℕ) → length (labelled (label, n)) ≤ length label + 10
labelled_most label n = omega (arith, length-append label (decimal n), length_decimal n, places_most 9 n)

-- labels and their numbers
most : List (List ℕ × ℕ) → ℕ
most [] = 0
most (p ∷ l) = length p.0 + 10 + most l

all_most : (l : List (List ℕ × ℕ)) → length (flat_map labelled l) ≤ most l
unfolding most
all_most [] = omega arith
all_most (p ∷ l) =
    let h : length (labelled p ++ flat_map labelled l) ≤ length p.0 + 10 + most l = omega (arith, length-append (labelled p) (flat_map labelled l), labelled_most p.0 p.1, all_most l) in h

end_most : (n : ℕ) → length (end_line n) ≤ 15
end_most n = by (eqb n 0)
  where
    by : (t : Bool) → length (cond t [] (labelled (codes "end=", n) ++ codes "\n")) ≤ 15
    by true = omega arith
    by false = omega (arith, length-append (decimal n) (codes "\n"), length_decimal n, places_most 9 n)

-- all of it
pub totals_most : (s : State) (end : ℕ) → length (totals s ++ end_line end) ≤ 128
unfolding totals most
totals_most s end =
    omega (arith, length-append (totals s) (end_line end), length-append (flat_map labelled (labels_and_numbers s)) (codes "\n"), all_most (labels_and_numbers s), end_most end)

-- and an end's line that is there by a test; lists that are bracketed otherwise
pub ruleset totals_steps = (totals_most, by_test, append_assoc, append-nil)
