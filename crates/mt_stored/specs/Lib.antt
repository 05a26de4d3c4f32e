pub mod Placed
pub mod Needed
pub mod Merged
