-- Texts are put one after another: those ahead, put from here on, make the whole. Assumes nothing.
use Rattle.std.proofs.Common.{◌≡◌, ◌+◌, length, drop}
use Rattle.std.specs.List.{flat_map}
use Rattle.text.specs.Bytes.{put}
use Rattle.text.proofs.write.ArrayText.put.Given as goal

abbrev pub invariant-loop-text : goal.invariant-loop-text
invariant-loop-text g l =
    let all = flat_map g.T.Text.bytes l.text-items in
    let ahead = flat_map g.T.Text.bytes (drop l.text-index l.text-items) in
    record {
      place : l.end + length ahead ≡ l.at + length all;
      bytes : put l.out l.end ahead ≡ put l.initial.out l.at all;
    }
