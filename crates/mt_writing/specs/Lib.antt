pub mod Partitions
pub mod Write
