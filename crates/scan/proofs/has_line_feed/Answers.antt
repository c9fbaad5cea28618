-- `has_line_feed` meets its contract. Assumes nothing.
use Rattle.std.proofs.Common.{◌≡◌, false, ◌||◌, eqb, ◌∙◌, arith}
use Rattle.std.proofs.lemmas.Grind.{common_steps}
use Rattle.std.specs.List.{fold}
use Rattle.scan.specs.Complete.{line_feed}
use Rattle.scan.proofs.Eights.{found_by_fold}
use Rattle.scan.proofs.has_line_feed.Goals as goal

pub returns : goal.returns
returns c = let e : c.fold.result ≡ fold (λ f b. f || eqb b line_feed) false c.args.eight.now = grind (arith, common_steps) in e ∙ found_by_fold (λ b. eqb b line_feed) c.args.eight.now false
