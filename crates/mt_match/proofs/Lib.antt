pub mod EntryLemmas
pub mod MatchLemmas
