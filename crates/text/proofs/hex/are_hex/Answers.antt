-- `are_hex` meets its contract: the fold is the test of every byte. Assumes nothing.
use Rattle.std.proofs.Common.{rules, tests, ◌≡◌, refl, ◌∙◌, ℕ, Bool, true, false, List, [], ◌∷◌, ◌&&◌}
use Rattle.std.specs.List.{fold}
use Rattle.std.proofs.lemmas.Iterator.{YieldsList-from_slice}
use Rattle.std.proofs.lemmas.Iterator.Consumers.{fold_from_yields_List}
use Rattle.text.specs.Bytes.{all}
use Rattle.text.specs.Digits.{is_hex}
use Rattle.text.proofs.hex.are_hex.Goals as goal

tested : (a : Bool) (l : List ℕ) → fold (λ a b. a && is_hex b) a l ≡ (a && all is_hex l)
unfolding all
tested true [] = refl
tested false [] = refl
tested true (b ∷ l) = tested (is_hex b) l
tested false (b ∷ l) = tested false l

pub returns : goal.returns
returns c = fold_from_yields_List _ (λ a b. a && is_hex b) true _ c.fold.ensures.ran (YieldsList-from_slice c.args.digits.now cc) (λ a x b q k. search (rules, tests)) ∙ tested true _
