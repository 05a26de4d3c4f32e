mod KeyReadingLemmas
mod KeyLemmas
pub mod PlainLemmas
mod ListedLemmas
mod ColumnsLaw
mod ColumnsLemmas
mod OrderLemmas
mod LineLemmas
mod ListingLemmas
mod SplitLemmas
mod CountLemmas
mod MonthLemmas
mod Casts
mod BestLemmas
mod ItemFacts
pub mod PartitionLemmas
mod PartitionLaw
mod KeyLaw
pub mod DefinitionLemmas
pub mod InnerLemmas
