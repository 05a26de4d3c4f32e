pub mod StreamLemmas
pub mod CountLemmas
pub mod ReadingLemmas
pub mod StreamLawLemmas
pub mod EncodedCountLemmas
pub mod ColumnLawLemmas
pub mod WideLawLemmas
