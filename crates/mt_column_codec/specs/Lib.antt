pub mod FixedItems
pub mod Results
