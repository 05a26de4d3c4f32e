pub mod FrameLemmas
pub mod BlockLemmas
pub mod HeaderLemmas
pub mod LoopLemmas
pub mod BytesLemmas
pub mod LawLemmas
pub mod WrittenLemmas
