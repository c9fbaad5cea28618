-- Laws of the kit's account of IEEE 754, each stated once over the format where it holds for both. The first fourteen are for every crate above;
-- the last five say why the functions of this crate are right.
pub mod Tests  -- a choice by a test whose outcome is known
pub mod Nan  -- which values and patterns are a NaN's
pub mod Closest  -- the nearest whole number to a fraction
pub mod Place  -- the pattern of a magnitude, and of a rounded fraction
pub mod Units  -- a value as a number of its format's smallest values
pub mod Magnitude  -- a pattern without its sign
pub mod Rounding  -- one rounding: a value that is held, the sign, the error
pub mod Order  -- rounding keeps the order, and patterns have it
pub mod Compare  -- comparisons by patterns, whatever the signs
pub mod Overflow  -- where rounding gives an infinity
pub mod Sums  -- the order of sums, and the distance to the nearest whole value
pub mod Powers  -- a normal value times a power of two
pub mod Nearby  -- a normal value plus one that is small beside it
pub mod Cast  -- where the cast of a value to an integer is defined
pub mod Narrow  -- narrowing by the pattern
pub mod Whole  -- the nearest whole value by an addition
pub mod SmallWhole  -- the same for a value of either sign
pub mod Integer  -- a whole number told by its bits
