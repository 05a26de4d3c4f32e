pub mod AppendLemmas
mod OrderLemmas
pub mod ProjectionRowLemmas
pub mod SkipLemmas
