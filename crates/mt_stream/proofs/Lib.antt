pub mod TouchedLemmas
pub mod MarkLemmas
pub mod WalkLemmas
pub mod HoldLemmas
pub mod GoodLemmas
