-- The claims, joined in EveryAnswer, and the laws under them: NaN and sign by routes (Signs), the slow path (Slow), the bound on whole exponents (Whole). And that no pair comes
-- to a NaN t, nor to an index or a k that is cut (Reached). Computed pairs show that no claim is empty (Witnesses).
pub mod Slow
pub mod Signs
pub mod Whole
pub mod Reached
pub mod EveryAnswer
pub mod Examples
pub mod SlowExamples
pub mod Witnesses
