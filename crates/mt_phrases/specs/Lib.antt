pub mod Terminals
pub mod NameRules
pub mod Phrases
pub mod Readers
pub mod Answers
pub mod Selections
