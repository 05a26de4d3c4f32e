pub mod WrittenLemmas
pub mod ReadingLemmas
pub mod CompactLawLemmas
