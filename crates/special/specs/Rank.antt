-- Where a magnitude stands, by its pattern and that of a limit. With the sign it is a class of x or of y that the
-- special table tells apart.
use Rattle.std.specs.Prelude.{ℕ, cond, eqb, ltb}

-- 0 for a zero, 1 below the limit, 2 at it, 3 above it
unfoldable pub rank : ℕ → ℕ → ℕ
rank m limit = cond (eqb m 0) 0 (cond (ltb m limit) 1 (cond (eqb m limit) 2 3))
