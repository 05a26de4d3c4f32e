pub mod Definitions
pub mod SkipFiles
