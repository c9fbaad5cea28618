-- Pairs beside the statements of specs/Reached.antt, all computed: on the route `slow` one with index 0, one with index 32 and one whose k is past 150; and one of the route `rule`
-- whose t is a NaN. Assumes nothing.
use mathlib.Core.Path.{◌≡◌, refl}
use mathlib.Core.Bool.{true, false}
use lib.IntN.{pos}
use lib.Ieee.{fin, of_bits, of_int, to_bits, to_signed, add, sub, mul, lt, le, eq, ne, is_nan}
use Rattle.floats.specs.Operations.{◌⊗◌}
use Rattle.floats.specs.Narrowing.{narrowed, nearest_whole}
use Rattle.floats.specs.OnBits.{absolute, is_integer}
use Rattle.double_double.specs.DoubleDouble.{split, from_exact_mult, from_exact_add, from_full_exact_add, quick_mult, quick_mult_f64, full_add_f64, dd_fmla}
use Rattle.tables.specs.Tables.{entry, from_bit_pair, pair_entry, log2p1_compoundf_inv, log2p1_compoundf_log2_inv, compoundf_exp2_t, compoundf_exp2_u, log2p1_scale, log2p1_poly_p, expf_poly_q, log2p1_log2_poly}
use Rattle.compound.specs.declared.Route.TheVariants.{Slow as slow}
use Rattle.special.specs.Special.{is_zero, is_special, is_rule}
use Rattle.whole.specs.Whole.{is_whole}
use Rattle.fast_path.specs.Scaling.{scaled, biased, exponent_of}
use Rattle.fast_path.specs.Fast.{factor, expf_poly, log2p1, inverse_index, compoundf_log2p1_fast, power_place, power_index, exp2_reduced, rounding_test, exp2_fast}
use Rattle.slow_path.specs.Slow.{with_term, next_log2, higher, log2_poly2, one_plus, times_inverse, sum_of_logs, log2_reduced, compoundf_log2p1_accurate}
use Rattle.compound.specs.Route.{decided, from_logarithm, table_path, compound}
use Rattle.answers.specs.Reached.{slow_k, slow_rest}
use Rattle.answers.specs.Witnesses.{f32}

-- 2^-148.5 and 2^-147.5: what is left is -1/2 and 1/2
pub slow_halves : ((compound (f32 0x3f800000) (f32 0xc3148000)).via ≡ slow) × ((compound (f32 0x3f800000) (f32 0xc3138000)).via ≡ slow)
unfolding of_bits to_bits to_signed of_int add sub mul lt le eq ne is_nan narrowed nearest_whole absolute is_integer is_zero is_special is_rule is_whole split from_exact_mult from_full_exact_add from_exact_add full_add_f64 dd_fmla entry from_bit_pair pair_entry log2p1_compoundf_inv log2p1_compoundf_log2_inv compoundf_exp2_t compoundf_exp2_u log2p1_poly_p expf_poly_q scaled biased exponent_of inverse_index factor log2p1 expf_poly power_index exp2_reduced rounding_test exp2_fast decided from_logarithm table_path compound
slow_halves = (refl, refl)

-- so the index is 0 and 32
pub index_ends : (power_place (slow_rest (f32 0x3f800000) (f32 0xc3148000)) ≡ 0x10010) × (power_place (slow_rest (f32 0x3f800000) (f32 0xc3138000)) ≡ 0x10030)
unfolding of_bits to_bits of_int add sub mul lt le eq narrowed nearest_whole absolute split from_exact_mult from_full_exact_add from_exact_add quick_mult quick_mult_f64 full_add_f64 dd_fmla entry from_bit_pair pair_entry log2p1_compoundf_inv log2p1_compoundf_log2_inv log2p1_scale log2p1_log2_poly biased exponent_of inverse_index with_term next_log2 higher log2_poly2 one_plus times_inverse sum_of_logs log2_reduced compoundf_log2p1_accurate
index_ends = (refl, refl)

-- "The comment |k| <= 150 fails on the slow path for tiny x: with x just under 1.5 × 2^-52 the fast logarithm is about two thirds of the true one". That
-- this pair is of the route `slow` is in specs/Witnesses.antt.
pub k_past_150 : le (absolute (slow_k (f32 0x25bfffff) (f32 0xdcce6666))) (fin false 75 (pos 1)) ≡ false
unfolding of_bits to_bits of_int add sub mul lt le eq narrowed nearest_whole absolute split from_exact_mult from_full_exact_add from_exact_add quick_mult quick_mult_f64 full_add_f64 dd_fmla entry from_bit_pair pair_entry log2p1_compoundf_inv log2p1_compoundf_log2_inv log2p1_scale log2p1_log2_poly biased exponent_of inverse_index with_term next_log2 higher log2_poly2 one_plus times_inverse sum_of_logs log2_reduced compoundf_log2p1_accurate
k_past_150 = refl

-- 1.5 to a NaN: t is one, and the route is `rule`
pub t_of_nan : (is_nan (compoundf_log2p1_fast (f32 0x3f000000) ⊗ f32 0x7fc00000) ≡ true) × (is_rule (f32 0x3f000000) (f32 0x7fc00000) ≡ true)
unfolding of_bits to_bits of_int add sub mul lt le eq is_nan is_zero is_special is_rule split from_exact_mult from_full_exact_add full_add_f64 dd_fmla entry from_bit_pair pair_entry log2p1_compoundf_inv log2p1_compoundf_log2_inv log2p1_poly_p scaled biased exponent_of inverse_index factor log2p1
t_of_nan = (refl, refl)
