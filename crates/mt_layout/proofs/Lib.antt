pub mod StreamLemmas
pub mod SizeLemmas
pub mod ItemLemmas
pub mod PayloadLemmas
pub mod GranuleLemmas
pub mod HoldLemmas
