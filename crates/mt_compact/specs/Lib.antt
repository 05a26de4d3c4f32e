pub mod CompactReading
pub mod HeldRows
