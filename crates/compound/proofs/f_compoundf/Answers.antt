-- `f_compoundf` meets its contract: past its first test x and y are finite, and x is above -1. Assumes nothing.
use Rattle.std.proofs.Common.{sym, ◌∙◌, not, T, ℕ}
use lib.Ieee.{binary32, of_bits, nan_bits}
use lib.Ieee.Bits.{nan_bits_is, of_bits-fits}
use lib.Ieee.Scale.{finite}
use Rattle.special.proofs.Rule.{off_rule, finite_number}
use Rattle.special.proofs.Tabled.{tabled}
use Rattle.compound.proofs.f_compoundf.Goals as goal

-- the pattern of a finite number
number : (n : ℕ) → T (finite (of_bits binary32 n)) → T (not (nan_bits binary32 n))
number n t = rw (nan_bits_is binary32 n) (finite_number (of_bits binary32 n) t)

pub float_from_bits-nx : goal.float_from_bits-nx
float_from_bits-nx c = number _ (off_rule _ _ (sym c.is_rule.ensures ∙ c.if-is_rule.false)).x_finite

pub float_from_bits-ny : goal.float_from_bits-ny
float_from_bits-ny c = number _ (off_rule _ _ (sym c.is_rule.ensures ∙ c.if-is_rule.false)).y_finite

pub table_path-requires : goal.table_path-requires
table_path-requires c = tabled _ _ (of_bits-fits binary32 _) (of_bits-fits binary32 _) (sym c.is_rule.ensures ∙ c.if-is_rule.false)
