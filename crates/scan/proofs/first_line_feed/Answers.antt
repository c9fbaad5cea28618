-- `first_line_feed` meets its contract. Assumes nothing.
use Rattle.std.proofs.Common.{◌≡◌, eqb, length, ap, ◌∙◌, rules}
use Rattle.std.specs.List.{position}
use Rattle.std.specs.Option.{unwrap_or}
use Rattle.std.proofs.lemmas.Iterator.{YieldsList-from_slice}
use Rattle.std.proofs.lemmas.Iterator.Search.{position_from_yields_List}
use Rattle.scan.specs.Complete.{line_feed, line_end}
use Rattle.scan.proofs.Eights.{place_or_len}
use Rattle.scan.proofs.first_line_feed.Goals as goal

pub returns : goal.returns
unfolding line_end
returns c =
    let s = c.args.s.now in
    let e : c.position.result ≡ position (λ b. eqb b line_feed) s = position_from_yields_List _ _ _ _ c.position.ensures.ran (YieldsList-from_slice s (cc)) (λ x b q k. search rules) in
    c.unwrap_or.ensures ∙ ap (λ r. unwrap_or r (length s)) e ∙ place_or_len _ s
