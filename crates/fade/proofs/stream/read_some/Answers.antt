-- One more try that read nothing.
use Rattle.std.proofs.Common.{◌≡◌, ◌∙◌, ◌∷◌, sym, length, rules, arith}
use Rattle.std.proofs.lemmas.List.Elements.{All-cons}
use Rattle.std.specs.Prelude.{None}
use Rattle.fade.specs.Stream.{settled, ReadAgain}
use Rattle.fade.proofs.Tries.{read_again, read_kept}
use Rattle.fade.proofs.stream.read_some.Goals as goal

pub loop-tries-preserved : goal.loop-tries-preserved
loop-tries-preserved g c =
    let (long, kept, (answers, count, again)) = c.loop-tries.invariant in
    let none : settled c.read.result ≡ None = sym c.settled.ensures ∙ c.in_default.is in
    let same : length c.read.new.buf ≡ length c.args.piece.now = search rules in
    (same, read_kept c.read.result _ _ _ _ none kept c.read.ensures.bytes, (c.read.result ∷ answers, omega arith, All-cons ReadAgain c.read.result answers (read_again c.read.result none) again))
