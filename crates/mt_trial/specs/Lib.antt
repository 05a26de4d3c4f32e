pub mod Rows
pub mod Words
pub mod Tables
pub mod KeptRules
pub mod TrialTable
pub mod Queries
pub mod Trial
pub mod Steps
