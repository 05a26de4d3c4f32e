pub mod Entries
pub mod Positions
pub mod Recut
pub mod MarkReading
pub mod Results
