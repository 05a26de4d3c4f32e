pub mod ClauseLoop
pub mod TokenTests
pub mod ClauseLaws
pub mod SentenceLaws
pub mod FormedLemmas
