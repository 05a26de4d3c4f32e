pub mod SetLemmas
pub mod SentenceLemmas
pub mod PartLemmas
