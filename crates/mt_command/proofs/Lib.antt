pub mod CellLemmas
pub mod DoneLemmas
pub mod FolderLemmas
pub mod PartLemmas
pub mod ProjectionParts
pub mod RefusedLemmas
pub mod ReportedLemmas
