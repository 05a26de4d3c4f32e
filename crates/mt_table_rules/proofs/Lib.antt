pub mod TypeTextLemmas
pub mod ColumnLemmas
pub mod KeyLemmas
