pub mod Answer
pub mod Gathered
pub mod Steps
