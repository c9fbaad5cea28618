-- Texts are put one after another: those ahead, put from here on, make the whole. Assumes nothing.
use Rattle.std.proofs.Common.{arith, rules, ◌<◌, length}
use Rattle.text.proofs.Put.{next_place, next_put, none_next}
use Rattle.text.proofs.write.ArrayText.put.Goals as goal

pub loop-text-preserved : goal.loop-text-preserved
loop-text-preserved g c =
    let l = c.loop-text in
    let h : l.text-index < length c.args.self = search rules in
    record {
      place = next_place g.T.Text.bytes c.args.self l.text-index c.text-item.result l.end c.put-end.result _ h l.invariant.place c.put-end.ensures.value;
      bytes = next_put g.T.Text.bytes c.args.self l.text-index c.text-item.result l.out _ _ l.end c.put-end.result h (omega (arith, l.invariant.place, c.requires, l.auto.out)) l.invariant.bytes c.put-end.ensures.out_after c.put-end.ensures.value;
    }

pub returns-clause-out_after : goal.returns-clause-out_after
returns-clause-out_after g c = none_next g.T.Text.bytes c.args.self c.loop-text.text-index _ _ _ (search rules) c.loop-text.invariant.bytes
