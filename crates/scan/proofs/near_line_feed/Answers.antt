-- `near_line_feed` meets its contract. Assumes nothing.
use Rattle.std.proofs.Common.{◌≡◌, ◌*◌, ◌/◌, length, ap, ◌∙◌, arith, rules}
use Rattle.std.specs.List.{position}
use Rattle.std.specs.Option.{unwrap_or}
use Rattle.std.proofs.lemmas.Iterator.{YieldsList-from_slice}
use Rattle.std.proofs.lemmas.Iterator.Search.{position_from_yields_List}
use Rattle.scan.proofs.Eights.{has, Before, place_or_len, near_end}
use Rattle.scan.proofs.near_line_feed.Goals as goal

pub returns : goal.returns
returns c =
    let s = c.args.s.now in
    let eights = c.as_chunks.result.0.now in
    let e : c.position.result ≡ position has eights = position_from_yields_List has _ _ _ c.position.ensures.ran (YieldsList-from_slice eights (cc)) (λ x b q k. search rules) in
    let b : Before s (8 * c.unwrap_or.result) = rw (c.unwrap_or.ensures ∙ ap (λ r. unwrap_or r (length eights)) e ∙ place_or_len has eights, c.as_chunks.ensures.front) (near_end (length s / 8) s (omega arith)) in
    (b.within, b.line_later)
