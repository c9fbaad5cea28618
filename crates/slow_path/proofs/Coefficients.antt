-- How large the coefficients of the slow path are, each by one test that is computed over its table. On the scale of 1 a number K stands for K / 2^53. Assumes
-- nothing.
use Rattle.std.proofs.Common.{ℕ, ◌+◌, ◌*◌, ◌^◌, ◌<◌}
use lib.Ieee.{fits, of_bits}
use Rattle.tables.specs.Tables.{entry, log2p1_log2_poly, exp2_poly_q2}
use Rattle.tables.proofs.Entries.{carried}
use Rattle.slow_path.specs.Slow.{p, q2}
use Rattle.bounds.proofs.Scales.{S, Bound, within, tested}
use Rattle.bounds.proofs.Compared.{Positive, tested_positive}

-- ---- Q2
-- the coefficients are at most 1
pub q2_size : (i : ℕ) → i < 12 → Bound S (2 ^ 53) (q2 i)
unfolding entry exp2_poly_q2 of_bits fits
q2_size i h = tested (2 ^ 53) (q2 i) (carried 12 (λ (k : ℕ). within (2 ^ 53) (q2 k)) tt i h)

-- and their second parts at most 2^-53
pub q2_second : Bound S 1 (q2 2) × Bound S 1 (q2 4) × Bound S 1 (q2 6)
unfolding entry exp2_poly_q2 of_bits fits
q2_second = (tested 1 (q2 2) tt, tested 1 (q2 4) tt, tested 1 (q2 6) tt)

-- the first is 1
pub q2_first : Positive (2 ^ 53) (2 ^ 53) (q2 0)
unfolding entry exp2_poly_q2 of_bits fits
q2_first = tested_positive (2 ^ 53) (2 ^ 53) (q2 0) tt

-- ---- LOG2P1_LOG2_POLY: at most 3/2, and the second parts at most 2^-53
pub log_size : (i : ℕ) → i < 18 → Bound S (3 * 2 ^ 52) (p i)
unfolding entry log2p1_log2_poly of_bits fits
log_size i h = tested (3 * 2 ^ 52) (p i) (carried 18 (λ (k : ℕ). within (3 * 2 ^ 52) (p k)) tt i h)

pub log_second : (i : ℕ) → i < 5 → Bound S 1 (p (2 * i + 1))
unfolding entry log2p1_log2_poly of_bits fits
log_second i h = tested 1 (p (2 * i + 1)) (carried 5 (λ (k : ℕ). within 1 (p (2 * k + 1))) tt i h)
