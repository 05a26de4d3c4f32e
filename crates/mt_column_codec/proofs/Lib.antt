pub mod FixedLemmas
pub mod KindLemmas
pub mod NullLemmas
pub mod ArrayLemmas
pub mod WrittenLemmas
