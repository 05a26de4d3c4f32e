pub mod InputLemmas
pub mod PresenceLemmas
pub mod RoomLemmas
pub mod RowLemmas
pub mod StepLemmas
