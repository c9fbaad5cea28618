-- `extend` meets its contract. Assumes nothing.
use Rattle.std.proofs.Common.{◌++◌, refl, sym, ap, ◌∙◌, subst, arith}
use Rattle.state.specs.Holding.{tail_of, held_line, as_held, Sound}
use Rattle.state.proofs.Holds.{sound, extended, over, as_held_long}
use Rattle.state.proofs.held.Held.extend.Goals as goal

pub invariant_of-self : goal.invariant_of-self
unfolding tail_of held_line
invariant_of-self c = refl

pub returns-then-end-gt-LONGEST : goal.returns-then-end-gt-LONGEST
unfolding held_line
returns-then-end-gt-LONGEST c = rw (← c.self.view_is) (sym (as_held_long _ (over _ c.self.invariant _ c.if-end-gt-LONGEST.true)))

pub invariant_of-self-else-end-gt-LONGEST : goal.invariant_of-self-else-end-gt-LONGEST
invariant_of-self-else-end-gt-LONGEST c = subst Sound (sym (extended _ c.self.invariant c.args.part.now _ _ c.if-end-gt-LONGEST.false (omega arith) c.copy_from_slice.ensures.after)) (sound _)

pub returns-else-end-gt-LONGEST : goal.returns-else-end-gt-LONGEST
unfolding as_held
returns-else-end-gt-LONGEST c = ap held_line (extended _ c.self.invariant c.args.part.now _ _ c.if-end-gt-LONGEST.false (omega arith) c.copy_from_slice.ensures.after) ∙ ap (λ l. as_held (l ++ c.args.part.now)) c.self.view_is
