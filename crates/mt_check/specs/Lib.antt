pub mod PartitionReading
pub mod RowGroups
pub mod FolderChecks
pub mod Results
pub mod PartFiles
pub mod ListedChecks
pub mod ShelfResults
