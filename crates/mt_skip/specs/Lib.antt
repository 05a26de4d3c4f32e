pub mod Seen
pub mod Gathering
pub mod Extremes
pub mod Items
pub mod Groups
