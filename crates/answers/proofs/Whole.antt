-- The bound on whole exponents: the algebra of nearness, one rounding as one factor, the squarings, the two ends of the bound, 1 + x, what is asked of x and y,
-- and the bound.
pub mod Factors
pub mod Within
pub mod Squared
pub mod Ends
pub mod OnePlus
pub mod Asked
pub mod WholeBound
