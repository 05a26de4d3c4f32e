pub mod Finding
pub mod Granules
pub mod Known
