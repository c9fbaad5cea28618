-- NaN and sign, by the routes: what the special table gives, what the route `whole` gives, what the table path gives, and the two claims.
pub mod Plain
pub mod RuleValues
pub mod WholeValues
pub mod TableValues
pub mod NanAndSign
