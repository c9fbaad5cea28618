-- How large the entries of the fast path's tables and its coefficients are, each by one test that is computed over its table. On the scale of 1 a number K stands for
-- K / 2^53. Assumes nothing.
use Rattle.std.proofs.Common.{ℕ, ◌+◌, ◌*◌, ◌^◌, ◌<◌}
use lib.Ieee.{fits, of_bits}
use Rattle.tables.specs.Tables.{entry, pair_entry, from_bit_pair, log2p1_compoundf_log2_inv, compoundf_exp2_t, compoundf_exp2_u, log2p1_poly_p, expf_poly_q}
use Rattle.tables.proofs.Entries.{carried}
use Rattle.bounds.proofs.Scales.{S, Bound, within, tested}
use Rattle.bounds.proofs.Compared.{Positive, between, tested_positive}

-- ---- COMPOUNDF_EXP2_U: hi is from 5/8 to 1.41422, and lo at most 2^-53
pub power_hi : (i : ℕ) → i < 33 → Positive (5 * 2 ^ 50) (92682 * 2 ^ 37) (pair_entry compoundf_exp2_u i).hi
unfolding pair_entry from_bit_pair compoundf_exp2_u of_bits fits
power_hi i h = tested_positive (5 * 2 ^ 50) (92682 * 2 ^ 37) (pair_entry compoundf_exp2_u i).hi (carried 33 (λ (k : ℕ). between (5 * 2 ^ 50) (92682 * 2 ^ 37) (pair_entry compoundf_exp2_u k).hi) tt i h)

pub power_lo : (i : ℕ) → i < 33 → Bound S 1 (pair_entry compoundf_exp2_u i).lo
unfolding pair_entry from_bit_pair compoundf_exp2_u of_bits fits
power_lo i h = tested 1 (pair_entry compoundf_exp2_u i).lo (carried 33 (λ (k : ℕ). within 1 (pair_entry compoundf_exp2_u k).lo) tt i h)

-- ---- COMPOUNDF_EXP2_T: at most 1/2
pub exponent_size : (i : ℕ) → i < 33 → Bound S (2 ^ 52) (entry compoundf_exp2_t i)
unfolding entry compoundf_exp2_t of_bits fits
exponent_size i h = tested (2 ^ 52) (entry compoundf_exp2_t i) (carried 33 (λ (k : ℕ). within (2 ^ 52) (entry compoundf_exp2_t k)) tt i h)

-- ---- Q of the fast power: 1, and then at most 0.69317, 0.24024, 0.05552 and 0.00963
pub expf_first : Positive (2 ^ 53) (2 ^ 53) (entry expf_poly_q 0)
unfolding entry expf_poly_q of_bits fits
expf_first = tested_positive (2 ^ 53) (2 ^ 53) (entry expf_poly_q 0) tt

pub expf_sizes : Bound S (45427 * 2 ^ 37) (entry expf_poly_q 1) × Bound S (15744 * 2 ^ 37) (entry expf_poly_q 2) × Bound S (3638 * 2 ^ 37) (entry expf_poly_q 3) × Bound S (631 * 2 ^ 37) (entry expf_poly_q 4)
unfolding entry expf_poly_q of_bits fits
expf_sizes = (tested (45427 * 2 ^ 37) (entry expf_poly_q 1) tt, tested (15744 * 2 ^ 37) (entry expf_poly_q 2) tt, tested (3638 * 2 ^ 37) (entry expf_poly_q 3) tt, tested (631 * 2 ^ 37) (entry expf_poly_q 4) tt)

-- ---- P of the fast logarithm
-- the first is from 23/16 to 93/64
pub fast_first : Positive (23 * 2 ^ 49) (93 * 2 ^ 47) (entry log2p1_poly_p 1)
unfolding entry log2p1_poly_p of_bits fits
fast_first = tested_positive (23 * 2 ^ 49) (93 * 2 ^ 47) (entry log2p1_poly_p 1) tt

-- the second at most 3/4, and the others at most 1/2
pub fast_second : Bound S (3 * 2 ^ 51) (entry log2p1_poly_p 2)
unfolding entry log2p1_poly_p of_bits fits
fast_second = tested (3 * 2 ^ 51) (entry log2p1_poly_p 2) tt

pub fast_size : (i : ℕ) → i < 5 → Bound S (2 ^ 52) (entry log2p1_poly_p (i + 3))
unfolding entry log2p1_poly_p of_bits fits
fast_size i h = tested (2 ^ 52) (entry log2p1_poly_p (i + 3)) (carried 5 (λ (k : ℕ). within (2 ^ 52) (entry log2p1_poly_p (k + 3))) tt i h)

-- ---- LOG2P1_COMPOUNDF_LOG2_INV: hi is at most 33/64, and lo at most 2^-53
pub inverse_log_hi : (i : ℕ) → i < 46 → Bound S (33 * 2 ^ 47) (pair_entry log2p1_compoundf_log2_inv i).hi
unfolding pair_entry from_bit_pair log2p1_compoundf_log2_inv of_bits fits
inverse_log_hi i h = tested (33 * 2 ^ 47) (pair_entry log2p1_compoundf_log2_inv i).hi (carried 46 (λ (k : ℕ). within (33 * 2 ^ 47) (pair_entry log2p1_compoundf_log2_inv k).hi) tt i h)

pub inverse_log_lo : (i : ℕ) → i < 46 → Bound S 1 (pair_entry log2p1_compoundf_log2_inv i).lo
unfolding pair_entry from_bit_pair log2p1_compoundf_log2_inv of_bits fits
inverse_log_lo i h = tested 1 (pair_entry log2p1_compoundf_log2_inv i).lo (carried 46 (λ (k : ℕ). within 1 (pair_entry log2p1_compoundf_log2_inv k).lo) tt i h)
