pub mod StateLemmas
pub mod GroupLemmas
pub mod AnswerLemmas
