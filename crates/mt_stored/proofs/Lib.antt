pub mod ListLemmas
pub mod SumLemmas
pub mod StateLemmas
pub mod SeenLemmas
pub mod MergedLemmas
pub mod LawLemmas
pub mod OrderLemmas
pub mod StoredLemmas
