pub mod Strays
pub mod NameSets
