pub mod Listed
pub mod Readable
