pub mod Ranks
pub mod RankedOnce
pub mod RankedTwice
pub mod InOrder
pub mod References
