pub mod Intervals
pub mod Masks
pub mod Keys
pub mod Cover
pub mod Views
