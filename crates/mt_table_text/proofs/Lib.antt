pub mod JudgeLemmas
pub mod KeepingLemmas
pub mod PlacesDiffer
pub mod ReadLemmas
pub mod ColumnsKept
pub mod PartitionKept
pub mod ProjectionsKept
pub mod TextReadingLemmas
