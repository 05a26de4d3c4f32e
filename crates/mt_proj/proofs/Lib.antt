pub mod RunLemmas
pub mod GroupLemmas
pub mod StandLemmas
pub mod NormalLemmas
pub mod WalkLemmas
pub mod LawLemmas
pub mod TestLemmas
