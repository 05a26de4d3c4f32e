pub mod TakenLemmas
pub mod ListedLemmas
pub mod CostLemmas
pub mod NameLemmas
