pub mod FindingLemmas
pub mod GranuleLemmas
pub mod KnownLemmas
