pub mod ItemTypes
pub mod ItemReading
pub mod Results
