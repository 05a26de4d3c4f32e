pub mod TakingLemmas
pub mod OneFrameLemmas
