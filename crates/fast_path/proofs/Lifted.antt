-- k×2^52 by a natural number: for k from -1000 to 1000, k + 4096 is one, and adding its last twelve digits times 2^52 is adding
-- k×2^52, since 4096×2^52 is 2^64. Assumes nothing.
use Rattle.std.proofs.Common.{◌≡◌, ℕ, suc, ◌+◌, ◌-◌, ◌*◌, ◌%◌, ◌<◌, ◌≤◌, ℤ, pos, negsuc, lt_of_le_of_lt, arith, lit<, w64, to_z, of_z}
use lib.Signed.{mag}
use mir.ValLaws.{to_z-of_z}
use Rattle.fast_path.specs.Scaling.{scaled}

-- k is from -b to b
abbrev pub Within : ℕ → ℤ → Type 0
Within b (pos n) = n ≤ b
Within b (negsuc n) = n < b

-- k + 4096
abbrev pub lifted : ℤ → ℕ
lifted (pos n) = n + 4096
lifted (negsuc n) = 4096 - suc n

-- the sum with its last twelve digits is the definition's
pub lifted_sum : (v : ℕ) (k : ℤ) → Within 1000 k → (v + lifted k % 4096 * 4503599627370496) % 18446744073709551616 ≡ scaled v k
unfolding scaled
lifted_sum v (pos n) h = go v n h
  where
    go : (v n : ℕ) → n ≤ 1000 → (v + (n + 4096) % 4096 * 4503599627370496) % 18446744073709551616 ≡ (v + n * 4503599627370496) % 18446744073709551616
    go v n h = omega (arith, h)
lifted_sum v (negsuc n) h = go v n h
  where
    go : (v n : ℕ) → n < 1000 → (v + (4096 - suc n) % 4096 * 4503599627370496) % 18446744073709551616 ≡ (v + suc n * 18442240474082181120) % 18446744073709551616
    go v n h = omega (arith, h)

-- such a k is read back from the bits of an i64
pub within_read : (k : ℤ) → Within 1000 k → to_z w64 (of_z w64 k) ≡ k
within_read k h = to_z-of_z w64 k (record { sfits = lt_of_le_of_lt (small k h) (lit< tt) })
  where
    small : (k : ℤ) → Within 1000 k → mag k ≤ 1000
    small (pos n) h = h
    small (negsuc n) h = omega (arith, h)
