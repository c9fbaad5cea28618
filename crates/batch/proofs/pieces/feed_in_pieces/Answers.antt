use Rattle.std.proofs.Common.{[], arith}
use Rattle.std.proofs.lemmas.List.{take_rest}
use Rattle.batch.proofs.InPieces.{begun, all_pieces, refused_pieces, come_on}
use Rattle.batch.proofs.pieces.feed_in_pieces.Goals as goal

pub loop-piece-init : goal.loop-piece-init
loop-piece-init c = ([], rw (c.fresh-state.ensures, c.into_iter-piece-iterator.ensures.into_iter_gives, c.chunks-piece-items.ensures.rest) (begun c.args.input.now c.args.out.now))

pub slice_bounds-feed-count : goal.slice_bounds-feed-count
slice_bounds-feed-count c = let m = c.loop-piece.invariant.1 in omega arith

pub returns-in_default : goal.returns-in_default
returns-in_default c = refused_pieces _ _ _ _ _ _ _ c.loop-piece.invariant.1 _ _ c.in-Some.ensures.steps.1.0 _ _ (rw (take_rest c.loop-piece.out c.loop-piece.at) at c.feed-fed.ensures) c.in_default.not-Ok

pub overflow_add-at : goal.overflow_add-at
overflow_add-at c =
    let m = come_on _ _ _ _ _ _ _ c.loop-piece.invariant.1 _ _ c.in-Some.ensures.steps.1.0 _ _ (rw (take_rest c.loop-piece.out c.loop-piece.at) at c.feed-fed.ensures) _ c.in-Ok.is in
    omega (arith, m.at_within)

pub loop-piece-preserved : goal.loop-piece-preserved
loop-piece-preserved c = (_, come_on _ _ _ _ _ _ _ c.loop-piece.invariant.1 _ _ c.in-Some.ensures.steps.1.0 _ _ (rw (take_rest c.loop-piece.out c.loop-piece.at) at c.feed-fed.ensures) _ c.in-Ok.is)

pub returns : goal.returns
returns c = all_pieces _ _ _ _ _ _ _ c.loop-piece.invariant.1 c.in-None.ensures.steps.1.0
