-- The pairs of specs/Witnesses.antt and of specs/Unstarred.antt, all computed. Assumes nothing.
use mathlib.Core.Path.{◌≡◌, refl}
use mathlib.Core.Bool.{true}
use mathlib.Core.List.{map}
use lib.Dec.{lit≤, lit<}
use lib.Ieee.{of_bits, of_int, to_bits, to_signed, to_unsigned, round, neg, add, sub, mul, div, lt, le, eq, ne, is_nan, fits}
use Rattle.std.specs.List.{list_all}
use Rattle.floats.specs.Narrowing.{narrowed, nearest_f32, nearest_whole}
use Rattle.floats.specs.OnBits.{absolute, is_integer}
use Rattle.double_double.specs.DoubleDouble.{split, from_exact_mult, from_exact_add, from_full_exact_add, quick_mult, quick_mult_f64, full_add_f64, dd_fmla}
use Rattle.tables.specs.Tables.{entry, from_bit_pair, pair_entry, log2p1_compoundf_inv, log2p1_compoundf_log2_inv, compoundf_exp2_t, compoundf_exp2_u, log2p1_scale, log2p1_poly_p, expf_poly_q, log2p1_log2_poly, exp2_poly_q2}
use Rattle.special.specs.Special.{one, zero, is_zero, is_special, is_rule, from_minus_one_to_zero, special_table, first_that_fits, special}
use Rattle.special.specs.Operands.{Tabled}
use Rattle.whole.specs.Whole as Whole
use Rattle.whole.specs.Whole.{is_whole, is_tiny, tiny, squarings, whole_power}
use Rattle.fast_path.specs.Scaling.{scaled, biased, exponent_of}
use Rattle.fast_path.specs.Fast.{factor, expf_poly, log2p1, inverse_index, power_index, exp2_reduced, rounding_test, exp2_fast, HasInverse, HasPower}
use Rattle.filter.specs.Midpoints.{narrowed_pattern}
use Rattle.filter.specs.Plain.{part_of, rest_of, plain_pattern, near_midpoint, rounded_pattern, middle_found, low_found, high_found, tiny_found, is_tiny_t, plain_found}
use Rattle.slow_path.specs.Slow.{with_term, next_log2, higher, log2_poly2, one_plus, times_inverse, sum_of_logs, log2_reduced, compoundf_log2p1_accurate, next_exp2, highest_exp2, compoundf_exp2_poly2, clamped_index, clamped_k, err_of, test_pattern, is_lost, one_towards, rounded_to_odd, scaled_to_f32, exp2_product, is_small, exp2_away, is_near_one, exp2_accurate, compoundf_accurate}
use Rattle.compound.specs.Route.{decided, from_logarithm, table_path, compound}
use Rattle.compound.specs.Starred.{defined, stated}
use Rattle.answers.specs.Exact as Exact
use Rattle.answers.specs.Exact.{exact_base, exact}
use Rattle.answers.specs.Claims.{whole_to16, x_in_range, AnyOther}
use Rattle.answers.specs.Reached.{PastRule, OnSlow}
use Rattle.answers.specs.Unstarred.{UnstarredPairs}
use Rattle.answers.specs.Witnesses.{f32, AtEach, AtNone, whole_ys, other_ys, xs_in_range, other_xs, bounded, is_bounded, ends, answer_twice, is_nan_at, nan_answers, found_at, filtered_pairs}

-- ---- document 01's rows without a star
pub unstarred_pairs : UnstarredPairs
unfolding of_bits to_bits to_signed of_int add sub mul lt le eq ne is_nan narrowed nearest_whole absolute is_integer is_zero is_special is_rule is_whole split from_exact_mult from_full_exact_add from_exact_add full_add_f64 dd_fmla quick_mult quick_mult_f64 entry from_bit_pair pair_entry log2p1_compoundf_inv log2p1_compoundf_log2_inv compoundf_exp2_t compoundf_exp2_u log2p1_scale log2p1_log2_poly exp2_poly_q2 log2p1_poly_p expf_poly_q scaled biased exponent_of inverse_index factor log2p1 expf_poly power_index exp2_reduced rounding_test exp2_fast with_term next_log2 higher log2_poly2 one_plus times_inverse sum_of_logs log2_reduced compoundf_log2p1_accurate next_exp2 highest_exp2 compoundf_exp2_poly2 clamped_index clamped_k err_of test_pattern is_lost one_towards rounded_to_odd scaled_to_f32 exp2_product is_small exp2_away is_near_one exp2_accurate compoundf_accurate decided from_logarithm table_path compound
unstarred_pairs = refl

-- ---- the bound
pub ys : AtEach whole_to16 whole_ys × AtNone whole_to16 other_ys
unfolding of_bits lt le eq absolute is_integer whole_to16
ys = (refl, refl)

pub xs : AtEach x_in_range xs_in_range × AtNone x_in_range other_xs
unfolding of_bits lt le eq is_zero x_in_range
xs = (refl, refl)

pub bound : (list_all is_bounded bounded ≡ true) × (map defined bounded ≡ map stated bounded) × (map ends bounded ≡ map answer_twice bounded)
unfolding of_bits to_unsigned round add mul div lt le eq is_nan narrowed nearest_f32 absolute is_integer is_zero is_special is_rule is_whole is_tiny tiny squarings whole_power Whole.whole compound whole_to16 x_in_range exact exact_base Exact.raised Exact.raised_inverse
bound = (refl, refl, refl)

-- ---- a number and a NaN
pub others : AnyOther (f32 0x3f000000) (f32 0x40000000) × AnyOther (f32 0xbf800000) (f32 0x3f800000)
    × AnyOther (f32 0x3f800000) (f32 0x43000000) × AnyOther (f32 0xb951b717) (f32 0x43fa0000)
    × AnyOther (f32 0x3f800000) (f32 0xc3150000)
unfolding of_bits to_bits to_signed of_int add sub mul lt le eq ne is_nan narrowed nearest_whole absolute is_integer is_zero is_special is_rule is_whole split from_exact_mult from_full_exact_add from_exact_add full_add_f64 dd_fmla quick_mult quick_mult_f64 entry from_bit_pair pair_entry log2p1_compoundf_inv log2p1_compoundf_log2_inv compoundf_exp2_t compoundf_exp2_u log2p1_scale log2p1_log2_poly exp2_poly_q2 log2p1_poly_p expf_poly_q scaled biased exponent_of inverse_index factor log2p1 expf_poly power_index exp2_reduced rounding_test exp2_fast with_term next_log2 higher log2_poly2 one_plus times_inverse sum_of_logs log2_reduced compoundf_log2p1_accurate next_exp2 highest_exp2 compoundf_exp2_poly2 clamped_index clamped_k err_of test_pattern is_lost one_towards rounded_to_odd scaled_to_f32 exp2_product is_small exp2_away is_near_one exp2_accurate compoundf_accurate decided from_logarithm table_path compound to_unsigned div is_tiny tiny squarings whole_power Whole.whole from_minus_one_to_zero special_table first_that_fits special
others = (tt, tt, tt, tt, tt)

pub nan_pairs : list_all is_nan_at nan_answers ≡ true
unfolding of_bits to_bits to_signed of_int add sub mul lt le eq ne is_nan narrowed nearest_whole absolute is_integer is_zero is_special is_rule is_whole split from_exact_mult from_full_exact_add from_exact_add full_add_f64 dd_fmla entry from_bit_pair pair_entry log2p1_compoundf_inv log2p1_compoundf_log2_inv compoundf_exp2_t compoundf_exp2_u log2p1_poly_p expf_poly_q scaled biased exponent_of inverse_index factor log2p1 expf_poly power_index exp2_reduced rounding_test exp2_fast decided from_logarithm table_path compound to_unsigned div is_tiny tiny squarings whole_power Whole.whole from_minus_one_to_zero special_table first_that_fits special
nan_pairs = refl

-- ---- the routes
pub past : (PastRule (f32 0x3f000000) (f32 0x40000000) × PastRule (f32 0x21800000) (f32 0x5d800000)
    × PastRule (f32 0xb951b717) (f32 0x43fa0000) × PastRule (f32 0x3f800000) (f32 0xc3150000))
    × (is_rule (f32 0x3f000000) (f32 0x7fc00000) ≡ true)
unfolding of_bits lt le eq is_nan is_zero is_special is_rule
past = ((refl, refl, refl, refl), refl)

pub slow_taken : OnSlow (f32 0x3f800000) (f32 0xc3150000) × OnSlow (f32 0x25bfffff) (f32 0xdcce6666)
    × OnSlow (f32 0x3f800001) (f32 0x41880000) × OnSlow (f32 0xbbd201d8) (f32 0x4656a9bb)
unfolding of_bits to_bits to_signed of_int add sub mul lt le eq ne is_nan narrowed nearest_whole absolute is_integer is_zero is_special is_rule is_whole split from_exact_mult from_full_exact_add from_exact_add full_add_f64 dd_fmla entry from_bit_pair pair_entry log2p1_compoundf_inv log2p1_compoundf_log2_inv compoundf_exp2_t compoundf_exp2_u log2p1_poly_p expf_poly_q scaled biased exponent_of inverse_index factor log2p1 expf_poly power_index exp2_reduced rounding_test exp2_fast decided from_logarithm table_path compound
slow_taken = (refl, refl, refl, refl)

-- ---- the table path
pub on_table : Tabled (f32 0x3f800000) (f32 0x3f000000)
unfolding of_bits lt fits
on_table = record { base = record { x_fits = tt; x_finite = tt; x_above = tt }; y_fits = tt; y_finite = tt }

pub indices : HasInverse one × HasPower zero
unfolding of_bits to_bits add inverse_index power_index
indices = ((lit≤ tt, lit< tt), (lit≤ tt, lit< tt))

pub filter_pairs : map (λ p. found_at p.0) filtered_pairs ≡ map (λ p. p.1) filtered_pairs
unfolding of_bits to_bits to_signed of_int neg add sub mul lt le eq narrowed nearest_whole entry from_bit_pair pair_entry log2p1_compoundf_inv log2p1_compoundf_log2_inv compoundf_exp2_t compoundf_exp2_u log2p1_poly_p expf_poly_q scaled biased exponent_of inverse_index factor log2p1 expf_poly power_index narrowed_pattern part_of rest_of plain_pattern near_midpoint rounded_pattern middle_found low_found high_found tiny_found is_tiny_t plain_found
filter_pairs = refl
