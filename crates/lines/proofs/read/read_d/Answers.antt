-- `read_d` meets its contract. Assumes nothing.
use Rattle.std.proofs.Common.{◌≤◌, length, get_or, sym, arith}
use Rattle.std.proofs.lemmas.Grind.{common_steps}
use Rattle.lines.proofs.Ids.{none_read, next_read, too_large, all_says, all_follows, all_digits, d_steps}
use Rattle.lines.proofs.read.read_d.Goals as goal
use Rattle.lines.proofs.read.read_d.Goals.{Joined-rest-lt1, in_default, in_default-2, in_default-3}

pub loop-rest-init : goal.loop-rest-init
loop-rest-init c = none_read _

pub returns-then-n : goal.returns-then-n
returns-then-n c = too_large _ _ _ c.loop-rest.invariant (omega arith) (omega arith) (omega arith) (omega arith)

pub loop-rest-preserved : goal.loop-rest-preserved
loop-rest-preserved c = grind (arith, common_steps, next_read _ _ _ c.loop-rest.invariant)

pub slice_bounds-digits-count : goal.slice_bounds-digits-count
slice_bounds-digits-count c = c.loop-rest.invariant.within

-- the loop stops where no digit follows
stops : (c : Joined-rest-lt1) → 1 ≤ length c.loop-rest.rest.now → 48 ≤ get_or c.loop-rest.rest.now 0 0 → get_or c.loop-rest.rest.now 0 0 ≤ 57 → ⊥
stops c h lo hi = elim c.if-rest-lt1.branch [ in_default w ↦ omega arith | in_default-2 w ↦ omega arith | in_default-3 w ↦ omega arith ]

pub returns-in_default-digits : goal.returns-in_default-digits
returns-in_default-digits c =
    let s = stops (goal.at.returns-in_default-digits c).Joined-rest-lt1 in
    let r = c.loop-rest.invariant in
    let v = all_says _ _ _ r s in
    let d = all_digits _ _ _ r s in
    (grind (arith, common_steps, d_steps), sym v, all_follows _ _ _ r s)

pub returns-in-empty : goal.returns-in-empty
returns-in-empty c =
    let s = stops (goal.at.returns-in-empty c).Joined-rest-lt1 in
    let d = all_digits _ _ _ c.loop-rest.invariant s in
    grind (arith, common_steps, d_steps)
