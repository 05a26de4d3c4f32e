pub mod Endings
pub mod Tables
pub mod Parts
pub mod Published
