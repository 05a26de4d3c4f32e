pub mod HeldRows
pub mod StreamFiles
pub mod WideReading
pub mod StreamView
