-- The slow path, over the sizes that `slow_path` has laws on: its product stays near 1, so that the power of two that is added to the exponent's field reaches neither a NaN nor the sign
-- (`ExpSign`); where x is lost in 1 + x (`Lost`); and the sign of the answer (`SlowSign`).
pub mod ExpSign
pub mod Lost
pub mod SlowSign
