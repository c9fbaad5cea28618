-- `next` meets its contract. Assumes nothing.
use Rattle.std.proofs.Common.{◌≡◌, [], take, drop, sym, ap, ◌∙◌, arith}
use Rattle.std.proofs.lemmas.Grind.{common_steps}
use Rattle.scan.proofs.Cutting.{FirstLine, line_end_within, no_line, first_line}
use Rattle.scan.specs.Complete.{line_end, lines, rest}
use Rattle.scan.proofs.lines.LinesIterator.next.Goals as goal

pub split_at-requires : goal.split_at-requires
split_at-requires c = omega (arith, line_end_within)

pub returns-in_err-rest-clause-steps : goal.returns-in_err-rest-clause-steps
unfolding lines rest
returns-in_err-rest-clause-steps c = grind (arith, common_steps, no_line c.args.self.now.rest.now [])

pub returns-clause-steps : goal.returns-clause-steps
unfolding lines rest
returns-clause-steps c =
    let l = c.args.self.now.rest.now in
    let e : c.line_end.result ≡ line_end l = omega arith in
    let f : FirstLine [] l (take (line_end l) l) c.in_ok-rest.rest.now = first_line l [] _ _ (ap (λ n. drop n l) (sym e) ∙ sym c.split_at.ensures.back ∙ c.in_ok-rest.ensures.cases.0) in
    (rw (c.split_at.ensures.front, e) f.its_lines, f.its_rest)

pub returns-clause-goes : goal.returns-clause-goes
unfolding lines rest
returns-clause-goes c = grind (arith, common_steps, first_line c.args.self.now.rest.now [])
