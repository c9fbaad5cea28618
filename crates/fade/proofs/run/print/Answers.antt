-- The text that is written is the one that is lent.
use Rattle.fade.proofs.Turns.{if_written_all}
use Rattle.fade.proofs.run.print.Goals as goal

pub returns : goal.returns
returns g c =
    record {
      result_is = (c.write_whole.result, (c.if_written.ensures, c.write_whole.ensures.given_up));
      written = rw (c.if_written.ensures, ← c.as_bytes.ensures.value) (if_written_all _ c.write_whole.result _ _ _ c.write_whole.ensures.front c.write_whole.ensures.whole);
    }
