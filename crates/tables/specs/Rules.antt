-- Document 01, "Table path": the two rules that it gives for its tables, by value.
use Rattle.std.specs.Prelude.{ℕ, ◌+◌, ◌-◌, ◌≡◌, false, ltb, length, Float}
use Rattle.std.specs.List.{All, range_with_len}
use Rattle.std.specs.Float.{fin}
use Rattle.std.specs.Float.Ieee.{minus}
use Rattle.std.specs.Float.Ieee.Exact.{HasValue}
use Rattle.tables.specs.Tables.{entry, log2p1_scale, compoundf_exp2_t}

-- 2^(29 - i), as a float
abbrev pub scale_value : ℕ → Float
scale_value i = fin false 1 (minus 29 i)

-- x is (i - 16)/32, exactly: below 16 it is negative and its size is (16 - i)/32
abbrev pub IsExp2T : ℕ → Float → Type 0
IsExp2T i x = HasValue x (ltb i 16) (16 - i + (i - 16)) 32

-- "entry i of LOG2P1_SCALE is 2^(29 - i) for i from 0 to 157; entry i of COMPOUNDF_EXP2_T is (i - 16)/32 for i from 0
-- to 32." And these are all their entries.
pub record Rules : Type 0 where
  pub scale : All (λ i. entry log2p1_scale i ≡ scale_value i) (range_with_len 0 158)
  pub scale_length : length log2p1_scale ≡ 158
  pub exp2_t : All (λ i. IsExp2T i (entry compoundf_exp2_t i)) (range_with_len 0 33)
  pub exp2_t_length : length compoundf_exp2_t ≡ 33
