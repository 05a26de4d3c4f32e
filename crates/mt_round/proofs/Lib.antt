mod ResultLemmas
pub mod RoundLemmas
mod Turns
