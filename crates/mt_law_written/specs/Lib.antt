pub mod Layouts
pub mod Stored
pub mod Sizes
