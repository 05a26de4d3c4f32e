pub mod LeafLemmas
pub mod NestLemmas
pub mod PushLemmas
pub mod RangeLemmas
pub mod CompareLemmas
pub mod ColumnLemmas
pub mod ShapeLemmas
