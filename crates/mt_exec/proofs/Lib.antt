pub mod ColumnLemmas
mod PlainLemmas
