-- `fill_digits` meets its contract: the first i digits of the rest, and what is filled, make all the digits. Assumes nothing.
use Rattle.std.proofs.Common.{◌≡◌, ◌++◌, length, drop}
use Rattle.text.specs.Digits.{digits}
use Rattle.text.proofs.digits.fill_digits.Given as goal

abbrev pub invariant-loop-i : goal.invariant-loop-i
invariant-loop-i l = digits l.base l.i l.rest ++ drop l.i l.out ≡ digits l.base (length l.out) l.n
