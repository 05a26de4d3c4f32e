pub mod TextLemmas
pub mod NumberLemmas
pub mod TokenRuns
pub mod TokenLemmas
pub mod WrittenTokens
pub mod ReadTokens
pub mod LongestTokens
pub mod NameLemmas
