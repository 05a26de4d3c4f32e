pub mod Suffixes
pub mod ProjectionFolders
