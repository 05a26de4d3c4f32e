pub mod NameLemmas
pub mod GainedLemmas
pub mod SizeLemmas
pub mod PublishedLemmas
pub mod WrittenLemmas
pub mod StorableLemmas
pub mod ApartLemmas
pub mod OutcomeLemmas
