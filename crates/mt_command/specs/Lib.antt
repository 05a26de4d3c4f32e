pub mod Status
pub mod Outcomes
pub mod Plans
pub mod Steps
pub mod Tables
pub mod Parts
pub mod Targets
pub mod Commands
