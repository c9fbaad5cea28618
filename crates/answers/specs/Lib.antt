-- What is claimed of every answer: the definitions that a reader has to believe. And pairs that show that no claim is
-- empty.
pub mod Exact
pub mod Claims
pub mod Reached
pub mod Witnesses
pub mod Unstarred
