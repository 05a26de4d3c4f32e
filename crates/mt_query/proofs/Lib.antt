pub mod ListLemmas
pub mod ReadLemmas
pub mod NamedLemmas
pub mod SuitsLemmas
pub mod GroupLemmas
