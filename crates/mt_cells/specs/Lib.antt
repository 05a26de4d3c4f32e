pub mod Kinds
pub mod Seen
pub mod Pieces
pub mod Items
