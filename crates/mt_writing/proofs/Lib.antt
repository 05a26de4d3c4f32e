pub mod PartitionLemmas
mod WriteLemmas
pub mod WrittenParts
