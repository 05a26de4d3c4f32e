pub mod Rooms
pub mod Inputs
pub mod Merge
