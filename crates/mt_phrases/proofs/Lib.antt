pub mod LoopLemmas
pub mod PhraseLaws
pub mod ListLaws
pub mod TokenTests
pub mod SelectionLaws
pub mod TextLaws
pub mod PhrasesHold
