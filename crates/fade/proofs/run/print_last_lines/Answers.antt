-- The text that is written is the front of the array.
use Rattle.std.proofs.Common.{◌≡◌, ◌++◌, take, arith}
use Rattle.std.proofs.lemmas.Grind.{common_steps}
use Rattle.text.specs.Bytes.{put}
use Rattle.totals.specs.Totals.{totals, end_line}
use Rattle.fade.proofs.Turns.{if_written_all}
use Rattle.fade.proofs.run.print_last_lines.Goals as goal

pub returns : goal.returns
unfolding put
returns g c =
    let text : take c.write_totals-n.result c.write_totals-n.new.out ≡ totals c.args.state ++ end_line c.number.result = grind (arith, common_steps) in
    record {
      result_is = (c.write_whole.result, (c.if_written.ensures, c.write_whole.ensures.given_up));
      written = rw (c.if_written.ensures, ← c.number.ensures, ← text) (if_written_all _ c.write_whole.result _ _ _ c.write_whole.ensures.front c.write_whole.ensures.whole);
    }
