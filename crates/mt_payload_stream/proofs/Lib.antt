pub mod OrderLemmas
pub mod MarkedLemmas
pub mod ReadyLemmas
