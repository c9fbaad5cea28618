-- `is_absorbed` meets its contract: sizes are in the order of their patterns. Assumes nothing.
use borrow.Author.Rules.{rules}
use lib.Dec.{T, lit≤}
use lib.IntN.{negsuc}
use lib.Ieee.{fin, binary32, fits, is_nan, to_bits}
use mathlib.Core.Path.{◌≡◌, refl}
use mathlib.Core.Bool.{false, not}
use Rattle.whole.proofs.Exponent.{size_le}
use Rattle.compound.proofs.choice.is_absorbed.Goals as goal

-- 2^-54
limit : (to_bits binary32 (fin false 1 (negsuc 53)) ≡ 0x2480_0000) × (T (fits binary32 (fin false 1 (negsuc 53))) × T (not (is_nan (fin false 1 (negsuc 53)))))
unfolding to_bits fits is_nan
limit = (refl, (tt, tt))

pub returns : goal.returns
returns c = size_le c.args.nx (search rules) (fin false 1 (negsuc 53)) 0x2480_0000 limit.0 (lit≤ tt) limit.1.0 limit.1.1
