pub mod StreamOrder
pub mod Runs
pub mod ColumnReading
pub mod Results
pub mod Cursor
pub mod UnderNull
