-- `as_compoundf_special` meets its contract: each arm is the answer at the typical values of its two classes, by computing. Assumes nothing.
use borrow.Author.Rules.{rules}
use mathlib.Core.Path.{◌≡◌}
use Prim.Native.Nat.{ℕ, ◌+◌, ◌*◌, ◌/◌, ◌%◌, ◌^◌, ◌≤◌, ◌<◌}
use native.Mathlib.Omega.{arith}
use lib.Ieee.{binary32, of_bits, is_nan, lt, le, eq}
use Rattle.special.specs.Special.{is_zero, from_minus_one_to_zero, special_table, first_that_fits, special}
use Rattle.special.proofs.Rule.{typical_x, typical_y}
use Rattle.special.proofs.Ranks.{row_x, row_y, row}
use Rattle.special.proofs.as_compoundf_special.Goals as goal
use Rattle.special.proofs.as_compoundf_special.Goals.{After-rank, After-rank-2}

-- the arm of the index i
module _ (c : After-rank-2) where
  arm : (i : ℕ) → (c.args.nx / 2 ^ 31 * 4 + c.rank.result) * 8 + (c.args.ny / 2 ^ 31 * 4 + c.rank-2.result) ≡ i
      → special (typical_x (row_x (i / 8))) (typical_y (row_y (i % 8))) ≡ special (of_bits binary32 c.args.nx) (of_bits binary32 c.args.ny)
  arm = row c.args.nx c.args.ny (search rules) (search rules) _ _ c.rank.ensures.value c.rank-2.ensures.value

  -- an index is at most 63
  last : (nx ny r q : ℕ) → nx < 2 ^ 32 → ny < 2 ^ 32 → r ≤ 3 → q ≤ 3 → (nx / 2 ^ 31 * 4 + r) * 8 + (ny / 2 ^ 31 * 4 + q) ≤ 63
  last nx ny r q h k a b = omega (arith, h, k, a, b)

  small : (c.args.nx / 2 ^ 31 * 4 + c.rank.result) * 8 + (c.args.ny / 2 ^ 31 * 4 + c.rank-2.result) ≤ 63
  small = last _ _ _ _ (search rules) (search rules) c.rank.ensures.bound c.rank-2.ensures.bound

pub returns-in-0 : goal.returns-in-0
unfolding special special_table first_that_fits is_nan is_zero from_minus_one_to_zero lt le eq of_bits
returns-in-0 c = arm (goal.at.returns-in-0 c).After-rank-2 0 c.in-0.is

pub returns-in-1 : goal.returns-in-1
unfolding special special_table first_that_fits is_nan is_zero from_minus_one_to_zero lt le eq of_bits
returns-in-1 c = arm (goal.at.returns-in-1 c).After-rank-2 1 c.in-1.is

pub returns-in-2 : goal.returns-in-2
unfolding special special_table first_that_fits is_nan is_zero from_minus_one_to_zero lt le eq of_bits
returns-in-2 c = arm (goal.at.returns-in-2 c).After-rank-2 2 c.in-2.is

pub returns-in-3 : goal.returns-in-3
unfolding special special_table first_that_fits is_nan is_zero from_minus_one_to_zero lt le eq of_bits
returns-in-3 c = arm (goal.at.returns-in-3 c).After-rank-2 3 c.in-3.is

pub returns-in-4 : goal.returns-in-4
unfolding special special_table first_that_fits is_nan is_zero from_minus_one_to_zero lt le eq of_bits
returns-in-4 c = arm (goal.at.returns-in-4 c).After-rank-2 4 c.in-4.is

pub returns-in-5 : goal.returns-in-5
unfolding special special_table first_that_fits is_nan is_zero from_minus_one_to_zero lt le eq of_bits
returns-in-5 c = arm (goal.at.returns-in-5 c).After-rank-2 5 c.in-5.is

pub returns-in-6 : goal.returns-in-6
unfolding special special_table first_that_fits is_nan is_zero from_minus_one_to_zero lt le eq of_bits
returns-in-6 c = arm (goal.at.returns-in-6 c).After-rank-2 6 c.in-6.is

pub returns-in-7 : goal.returns-in-7
unfolding special special_table first_that_fits is_nan is_zero from_minus_one_to_zero lt le eq of_bits
returns-in-7 c = arm (goal.at.returns-in-7 c).After-rank-2 7 c.in-7.is

pub returns-in-8 : goal.returns-in-8
unfolding special special_table first_that_fits is_nan is_zero from_minus_one_to_zero lt le eq of_bits
returns-in-8 c = arm (goal.at.returns-in-8 c).After-rank-2 8 c.in-8.is

pub returns-in-9 : goal.returns-in-9
unfolding special special_table first_that_fits is_nan is_zero from_minus_one_to_zero lt le eq of_bits
returns-in-9 c = arm (goal.at.returns-in-9 c).After-rank-2 9 c.in-9.is

pub returns-in-10 : goal.returns-in-10
unfolding special special_table first_that_fits is_nan is_zero from_minus_one_to_zero lt le eq of_bits
returns-in-10 c = arm (goal.at.returns-in-10 c).After-rank-2 10 c.in-10.is

pub returns-in-11 : goal.returns-in-11
unfolding special special_table first_that_fits is_nan is_zero from_minus_one_to_zero lt le eq of_bits
returns-in-11 c = arm (goal.at.returns-in-11 c).After-rank-2 11 c.in-11.is

pub returns-in-12 : goal.returns-in-12
unfolding special special_table first_that_fits is_nan is_zero from_minus_one_to_zero lt le eq of_bits
returns-in-12 c = arm (goal.at.returns-in-12 c).After-rank-2 12 c.in-12.is

pub returns-in-13 : goal.returns-in-13
unfolding special special_table first_that_fits is_nan is_zero from_minus_one_to_zero lt le eq of_bits
returns-in-13 c = arm (goal.at.returns-in-13 c).After-rank-2 13 c.in-13.is

pub returns-in-14 : goal.returns-in-14
unfolding special special_table first_that_fits is_nan is_zero from_minus_one_to_zero lt le eq of_bits
returns-in-14 c = arm (goal.at.returns-in-14 c).After-rank-2 14 c.in-14.is

pub returns-in-15 : goal.returns-in-15
unfolding special special_table first_that_fits is_nan is_zero from_minus_one_to_zero lt le eq of_bits
returns-in-15 c = arm (goal.at.returns-in-15 c).After-rank-2 15 c.in-15.is

pub returns-in-16 : goal.returns-in-16
unfolding special special_table first_that_fits is_nan is_zero from_minus_one_to_zero lt le eq of_bits
returns-in-16 c = arm (goal.at.returns-in-16 c).After-rank-2 16 c.in-16.is

pub returns-in-17 : goal.returns-in-17
unfolding special special_table first_that_fits is_nan is_zero from_minus_one_to_zero lt le eq of_bits
returns-in-17 c = arm (goal.at.returns-in-17 c).After-rank-2 17 c.in-17.is

pub returns-in-18 : goal.returns-in-18
unfolding special special_table first_that_fits is_nan is_zero from_minus_one_to_zero lt le eq of_bits
returns-in-18 c = arm (goal.at.returns-in-18 c).After-rank-2 18 c.in-18.is

pub returns-in-19 : goal.returns-in-19
unfolding special special_table first_that_fits is_nan is_zero from_minus_one_to_zero lt le eq of_bits
returns-in-19 c = arm (goal.at.returns-in-19 c).After-rank-2 19 c.in-19.is

pub returns-in-20 : goal.returns-in-20
unfolding special special_table first_that_fits is_nan is_zero from_minus_one_to_zero lt le eq of_bits
returns-in-20 c = arm (goal.at.returns-in-20 c).After-rank-2 20 c.in-20.is

pub returns-in-21 : goal.returns-in-21
unfolding special special_table first_that_fits is_nan is_zero from_minus_one_to_zero lt le eq of_bits
returns-in-21 c = arm (goal.at.returns-in-21 c).After-rank-2 21 c.in-21.is

pub returns-in-22 : goal.returns-in-22
unfolding special special_table first_that_fits is_nan is_zero from_minus_one_to_zero lt le eq of_bits
returns-in-22 c = arm (goal.at.returns-in-22 c).After-rank-2 22 c.in-22.is

pub returns-in-23 : goal.returns-in-23
unfolding special special_table first_that_fits is_nan is_zero from_minus_one_to_zero lt le eq of_bits
returns-in-23 c = arm (goal.at.returns-in-23 c).After-rank-2 23 c.in-23.is

pub returns-in-24 : goal.returns-in-24
unfolding special special_table first_that_fits is_nan is_zero from_minus_one_to_zero lt le eq of_bits
returns-in-24 c = arm (goal.at.returns-in-24 c).After-rank-2 24 c.in-24.is

pub returns-in-25 : goal.returns-in-25
unfolding special special_table first_that_fits is_nan is_zero from_minus_one_to_zero lt le eq of_bits
returns-in-25 c = arm (goal.at.returns-in-25 c).After-rank-2 25 c.in-25.is

pub returns-in-26 : goal.returns-in-26
unfolding special special_table first_that_fits is_nan is_zero from_minus_one_to_zero lt le eq of_bits
returns-in-26 c = arm (goal.at.returns-in-26 c).After-rank-2 26 c.in-26.is

pub returns-in-27 : goal.returns-in-27
unfolding special special_table first_that_fits is_nan is_zero from_minus_one_to_zero lt le eq of_bits
returns-in-27 c = arm (goal.at.returns-in-27 c).After-rank-2 27 c.in-27.is

pub returns-in-28 : goal.returns-in-28
unfolding special special_table first_that_fits is_nan is_zero from_minus_one_to_zero lt le eq of_bits
returns-in-28 c = arm (goal.at.returns-in-28 c).After-rank-2 28 c.in-28.is

pub returns-in-29 : goal.returns-in-29
unfolding special special_table first_that_fits is_nan is_zero from_minus_one_to_zero lt le eq of_bits
returns-in-29 c = arm (goal.at.returns-in-29 c).After-rank-2 29 c.in-29.is

pub returns-in-30 : goal.returns-in-30
unfolding special special_table first_that_fits is_nan is_zero from_minus_one_to_zero lt le eq of_bits
returns-in-30 c = arm (goal.at.returns-in-30 c).After-rank-2 30 c.in-30.is

pub returns-in-31 : goal.returns-in-31
unfolding special special_table first_that_fits is_nan is_zero from_minus_one_to_zero lt le eq of_bits
returns-in-31 c = arm (goal.at.returns-in-31 c).After-rank-2 31 c.in-31.is

pub returns-in-32 : goal.returns-in-32
unfolding special special_table first_that_fits is_nan is_zero from_minus_one_to_zero lt le eq of_bits
returns-in-32 c = arm (goal.at.returns-in-32 c).After-rank-2 32 c.in-32.is

pub returns-in-33 : goal.returns-in-33
unfolding special special_table first_that_fits is_nan is_zero from_minus_one_to_zero lt le eq of_bits
returns-in-33 c = arm (goal.at.returns-in-33 c).After-rank-2 33 c.in-33.is

pub returns-in-34 : goal.returns-in-34
unfolding special special_table first_that_fits is_nan is_zero from_minus_one_to_zero lt le eq of_bits
returns-in-34 c = arm (goal.at.returns-in-34 c).After-rank-2 34 c.in-34.is

pub returns-in-35 : goal.returns-in-35
unfolding special special_table first_that_fits is_nan is_zero from_minus_one_to_zero lt le eq of_bits
returns-in-35 c = arm (goal.at.returns-in-35 c).After-rank-2 35 c.in-35.is

pub returns-in-36 : goal.returns-in-36
unfolding special special_table first_that_fits is_nan is_zero from_minus_one_to_zero lt le eq of_bits
returns-in-36 c = arm (goal.at.returns-in-36 c).After-rank-2 36 c.in-36.is

pub returns-in-37 : goal.returns-in-37
unfolding special special_table first_that_fits is_nan is_zero from_minus_one_to_zero lt le eq of_bits
returns-in-37 c = arm (goal.at.returns-in-37 c).After-rank-2 37 c.in-37.is

pub returns-in-38 : goal.returns-in-38
unfolding special special_table first_that_fits is_nan is_zero from_minus_one_to_zero lt le eq of_bits
returns-in-38 c = arm (goal.at.returns-in-38 c).After-rank-2 38 c.in-38.is

pub returns-in-39 : goal.returns-in-39
unfolding special special_table first_that_fits is_nan is_zero from_minus_one_to_zero lt le eq of_bits
returns-in-39 c = arm (goal.at.returns-in-39 c).After-rank-2 39 c.in-39.is

pub returns-in-40 : goal.returns-in-40
unfolding special special_table first_that_fits is_nan is_zero from_minus_one_to_zero lt le eq of_bits
returns-in-40 c = arm (goal.at.returns-in-40 c).After-rank-2 40 c.in-40.is

pub returns-in-41 : goal.returns-in-41
unfolding special special_table first_that_fits is_nan is_zero from_minus_one_to_zero lt le eq of_bits
returns-in-41 c = arm (goal.at.returns-in-41 c).After-rank-2 41 c.in-41.is

pub returns-in-42 : goal.returns-in-42
unfolding special special_table first_that_fits is_nan is_zero from_minus_one_to_zero lt le eq of_bits
returns-in-42 c = arm (goal.at.returns-in-42 c).After-rank-2 42 c.in-42.is

pub returns-in-43 : goal.returns-in-43
unfolding special special_table first_that_fits is_nan is_zero from_minus_one_to_zero lt le eq of_bits
returns-in-43 c = arm (goal.at.returns-in-43 c).After-rank-2 43 c.in-43.is

pub returns-in-44 : goal.returns-in-44
unfolding special special_table first_that_fits is_nan is_zero from_minus_one_to_zero lt le eq of_bits
returns-in-44 c = arm (goal.at.returns-in-44 c).After-rank-2 44 c.in-44.is

pub returns-in-45 : goal.returns-in-45
unfolding special special_table first_that_fits is_nan is_zero from_minus_one_to_zero lt le eq of_bits
returns-in-45 c = arm (goal.at.returns-in-45 c).After-rank-2 45 c.in-45.is

pub returns-in-46 : goal.returns-in-46
unfolding special special_table first_that_fits is_nan is_zero from_minus_one_to_zero lt le eq of_bits
returns-in-46 c = arm (goal.at.returns-in-46 c).After-rank-2 46 c.in-46.is

pub returns-in-47 : goal.returns-in-47
unfolding special special_table first_that_fits is_nan is_zero from_minus_one_to_zero lt le eq of_bits
returns-in-47 c = arm (goal.at.returns-in-47 c).After-rank-2 47 c.in-47.is

pub returns-in-48 : goal.returns-in-48
unfolding special special_table first_that_fits is_nan is_zero from_minus_one_to_zero lt le eq of_bits
returns-in-48 c = arm (goal.at.returns-in-48 c).After-rank-2 48 c.in-48.is

pub returns-in-49 : goal.returns-in-49
unfolding special special_table first_that_fits is_nan is_zero from_minus_one_to_zero lt le eq of_bits
returns-in-49 c = arm (goal.at.returns-in-49 c).After-rank-2 49 c.in-49.is

pub returns-in-50 : goal.returns-in-50
unfolding special special_table first_that_fits is_nan is_zero from_minus_one_to_zero lt le eq of_bits
returns-in-50 c = arm (goal.at.returns-in-50 c).After-rank-2 50 c.in-50.is

pub returns-in-51 : goal.returns-in-51
unfolding special special_table first_that_fits is_nan is_zero from_minus_one_to_zero lt le eq of_bits
returns-in-51 c = arm (goal.at.returns-in-51 c).After-rank-2 51 c.in-51.is

pub returns-in-52 : goal.returns-in-52
unfolding special special_table first_that_fits is_nan is_zero from_minus_one_to_zero lt le eq of_bits
returns-in-52 c = arm (goal.at.returns-in-52 c).After-rank-2 52 c.in-52.is

pub returns-in-53 : goal.returns-in-53
unfolding special special_table first_that_fits is_nan is_zero from_minus_one_to_zero lt le eq of_bits
returns-in-53 c = arm (goal.at.returns-in-53 c).After-rank-2 53 c.in-53.is

pub returns-in-54 : goal.returns-in-54
unfolding special special_table first_that_fits is_nan is_zero from_minus_one_to_zero lt le eq of_bits
returns-in-54 c = arm (goal.at.returns-in-54 c).After-rank-2 54 c.in-54.is

pub returns-in-55 : goal.returns-in-55
unfolding special special_table first_that_fits is_nan is_zero from_minus_one_to_zero lt le eq of_bits
returns-in-55 c = arm (goal.at.returns-in-55 c).After-rank-2 55 c.in-55.is

pub returns-in-56 : goal.returns-in-56
unfolding special special_table first_that_fits is_nan is_zero from_minus_one_to_zero lt le eq of_bits
returns-in-56 c = arm (goal.at.returns-in-56 c).After-rank-2 56 c.in-56.is

pub returns-in-57 : goal.returns-in-57
unfolding special special_table first_that_fits is_nan is_zero from_minus_one_to_zero lt le eq of_bits
returns-in-57 c = arm (goal.at.returns-in-57 c).After-rank-2 57 c.in-57.is

pub returns-in-58 : goal.returns-in-58
unfolding special special_table first_that_fits is_nan is_zero from_minus_one_to_zero lt le eq of_bits
returns-in-58 c = arm (goal.at.returns-in-58 c).After-rank-2 58 c.in-58.is

pub returns-in-59 : goal.returns-in-59
unfolding special special_table first_that_fits is_nan is_zero from_minus_one_to_zero lt le eq of_bits
returns-in-59 c = arm (goal.at.returns-in-59 c).After-rank-2 59 c.in-59.is

pub returns-in-60 : goal.returns-in-60
unfolding special special_table first_that_fits is_nan is_zero from_minus_one_to_zero lt le eq of_bits
returns-in-60 c = arm (goal.at.returns-in-60 c).After-rank-2 60 c.in-60.is

pub returns-in-61 : goal.returns-in-61
unfolding special special_table first_that_fits is_nan is_zero from_minus_one_to_zero lt le eq of_bits
returns-in-61 c = arm (goal.at.returns-in-61 c).After-rank-2 61 c.in-61.is

pub returns-in-62 : goal.returns-in-62
unfolding special special_table first_that_fits is_nan is_zero from_minus_one_to_zero lt le eq of_bits
returns-in-62 c = arm (goal.at.returns-in-62 c).After-rank-2 62 c.in-62.is

pub returns-in_default : goal.returns-in_default
unfolding special special_table first_that_fits is_nan is_zero from_minus_one_to_zero lt le eq of_bits
returns-in_default c = arm (goal.at.returns-in_default c).After-rank-2 63 (omega (arith, small (goal.at.returns-in_default c).After-rank-2))
