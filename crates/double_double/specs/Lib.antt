-- The definitions that the contracts of `double_double` cite.
pub mod DoubleDouble
