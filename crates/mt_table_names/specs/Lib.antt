pub mod NameSets
pub mod Sentence
pub mod SentenceNames
pub mod OwnNames
pub mod Present
pub mod Places
