-- `is_whole` meets its contract by `whole_of_patterns`: where three tests pass, 3 are counted. Assumes nothing.
use Rattle.std.proofs.Common.{◌≡◌, ◌+◌, ◌%◌, ◌^◌, Bool, true, false, ◌&&◌, eqb, ltb, leb, refl, ap, ◌∙◌, rules}
use mir.Val.{bool_byte}
use Rattle.whole.proofs.Exponent.{whole_of_patterns}
use Rattle.whole.proofs.is_whole.Goals as goal

-- all three pass where 3 are counted
counted : (a p q : Bool) → eqb (bool_byte a + bool_byte p + bool_byte q) 3 ≡ (a && p && q)
counted true true true = refl
counted true true false = refl
counted true false true = refl
counted true false false = refl
counted false true true = refl
counted false true false = refl
counted false false true = refl
counted false false false = refl

pub returns : goal.returns
returns c =
    counted c.is_integerf.result (leb (c.args.ny % 2 ^ 31) 0x4180_0000) (ltb (c.args.nx % 2 ^ 31) 0x5f80_0000)
    ∙ ap (λ (x : Bool). x && leb (c.args.ny % 2 ^ 31) 0x4180_0000 && ltb (c.args.nx % 2 ^ 31) 0x5f80_0000) c.is_integerf.ensures
    ∙ whole_of_patterns c.args.nx c.args.ny (search rules) (search rules)
