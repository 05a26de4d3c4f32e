pub mod KnownLemmas
pub mod SetLemmas
