pub mod TokenTests
pub mod ElementLaws
pub mod ProjectionLaws
pub mod FormedLemmas
