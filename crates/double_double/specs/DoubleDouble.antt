-- Document 01, "Double-double": a double-double is a pair of f64, lo and hi. The non-fma branch is the one ported
-- everywhere, and each operation is fixed by its ordered f64 operations: those of `double_double.rs`, line by line,
-- under the names that the lines have there.
use Rattle.std.specs.Prelude.{false, pos, Float}
use Rattle.std.specs.Float.{fin}
use Rattle.floats.specs.Operations.{◌⊕◌, ◌⊖◌, ◌⊗◌}
use Rattle.double_double.specs.declared.DoubleDouble.{DoubleDouble}

-- 2^27 + 1
abbrev pub splitter : Float
splitter = fin false 134217729 (pos 0)

-- "`split` with 2^27 + 1"
unfoldable pub split : Float → DoubleDouble
split a =
    let t1 = splitter ⊗ a in
    let t2 = a ⊖ t1 in
    let r_hi = t1 ⊕ t2 in
    let r_lo = a ⊖ r_hi in
    record { lo = r_lo; hi = r_hi }

-- "`from_exact_mult`": the product and its error by Dekker's method, the parts of both factors by `split`
unfoldable pub from_exact_mult : Float → Float → DoubleDouble
from_exact_mult a b =
    let asz = split a in
    let bs = split b in
    let r_hi = a ⊗ b in
    let t1 = asz.hi ⊗ bs.hi ⊖ r_hi in
    let t2 = asz.hi ⊗ bs.lo ⊕ t1 in
    let t3 = asz.lo ⊗ bs.hi ⊕ t2 in
    let r_lo = asz.lo ⊗ bs.lo ⊕ t3 in
    record { lo = r_lo; hi = r_hi }

-- "`from_exact_add`": the sum and its error in three operations
unfoldable pub from_exact_add : Float → Float → DoubleDouble
from_exact_add a b =
    let r_hi = a ⊕ b in
    let t = r_hi ⊖ a in
    let r_lo = b ⊖ t in
    record { lo = r_lo; hi = r_hi }

-- "`from_full_exact_add`": the same in six operations
unfoldable pub from_full_exact_add : Float → Float → DoubleDouble
from_full_exact_add a b =
    let r_hi = a ⊕ b in
    let t1 = r_hi ⊖ a in
    let t2 = r_hi ⊖ t1 in
    let t3 = b ⊖ t1 in
    let t4 = a ⊖ t2 in
    let r_lo = t3 ⊕ t4 in
    record { lo = r_lo; hi = r_hi }

-- "`quick_mult`": the product of two double-doubles
unfoldable pub quick_mult : DoubleDouble → DoubleDouble → DoubleDouble
quick_mult a b =
    let c = from_exact_mult a.hi b.hi in
    let tl1 = a.hi ⊗ b.lo in
    let tl2 = a.lo ⊗ b.hi in
    let cl2 = tl1 ⊕ tl2 in
    let cl3 = c.lo ⊕ cl2 in
    record { lo = cl3; hi = c.hi }

-- "`quick_mult_f64`": the product of a double-double and an f64
unfoldable pub quick_mult_f64 : DoubleDouble → Float → DoubleDouble
quick_mult_f64 a b =
    let c = from_exact_mult a.hi b in
    let cl2 = a.lo ⊗ b in
    let cl3 = c.lo ⊕ cl2 in
    record { lo = cl3; hi = c.hi }

-- the "full add" of `dd_fmla`: the sum of a double-double and an f64, `full_add_f64` in the source
unfoldable pub full_add_f64 : DoubleDouble → Float → DoubleDouble
full_add_f64 a b =
    let t = from_full_exact_add a.hi b in
    let l = a.lo ⊕ t.lo in
    record { lo = l; hi = t.hi }

-- "`dd_fmla` as exact product, full add, then lo + hi"
unfoldable pub dd_fmla : Float → Float → Float → Float
dd_fmla a b c =
    let ddx2 = from_exact_mult a b in
    let zv = full_add_f64 ddx2 c in
    zv.lo ⊕ zv.hi
