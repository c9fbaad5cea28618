-- `from_logarithm` meets its contract: its tests are the definition's, and between -150 and 128 the powers have their entries. Assumes nothing.
use Rattle.std.proofs.Common.{◌≡◌, true, ◌*◌, ◌%◌, ◌^◌, ◌≤◌, ◌<◌, arith}
use Rattle.std.proofs.lemmas.Bool.{le-leb, lt-leb}
use Rattle.std.proofs.lemmas.Float.{T_from_false, lt_of_not-le}
use lib.Ieee.{binary64, of_bits, neg, to_bits, is_nan}
use Rattle.fast_path.specs.Edges.{lower_edge, upper_edge, gives_zero, gives_infinity}
use Rattle.compound.specs.Answer.{outcome}
use Rattle.compound.specs.Route.{from_logarithm}
use Rattle.compound.proofs.choice.from_logarithm.Goals as goal

pub returns-then-t : goal.returns-then-t
unfolding of_bits neg outcome from_logarithm
returns-then-t c = let h : gives_zero c.args.t ≡ true = c.if-t.true in rw h

pub returns-then-t-2 : goal.returns-then-t-2
unfolding of_bits neg outcome from_logarithm
returns-then-t-2 c = let h : gives_infinity c.args.t ≡ true = c.if-t-2.true in rw (c.if-t.false, h)

-- a pattern without its sign, doubled, is the pattern shifted left once
pub returns-then-t-le-EDGE_OF_ONE : goal.returns-then-t-le-EDGE_OF_ONE
unfolding of_bits neg outcome from_logarithm
returns-then-t-le-EDGE_OF_ONE c =
    let n = to_bits binary64 c.args.t in
    let h : n * 2 % 2 ^ 64 ≤ 0x3e6715476ba97f14 = omega (arith, c.if-t-le-EDGE_OF_ONE.true) in
    rw (c.if-t.false, c.if-t-2.false, le-leb _ _ h)

pub decided-requires : goal.decided-requires
unfolding of_bits neg is_nan
decided-requires c = record {
  t_above = lt_of_not-le c.args.t lower_edge c.requires tt (T_from_false _ c.if-t.false);
  t_below = lt_of_not-le upper_edge c.args.t tt c.requires (T_from_false _ c.if-t-2.false);
}

pub returns : goal.returns
unfolding of_bits neg outcome from_logarithm
returns c =
    let n = to_bits binary64 c.args.t in
    let h : 0x3e6715476ba97f14 < n * 2 % 2 ^ 64 = omega (arith, c.if-t-le-EDGE_OF_ONE.false) in
    rw (c.if-t.false, c.if-t-2.false, lt-leb _ _ h) c.decided.ensures
