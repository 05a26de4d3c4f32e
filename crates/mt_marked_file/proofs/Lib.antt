pub mod CountLemmas
pub mod TakenLemmas
pub mod OpeningLemmas
pub mod CheckLemmas
pub mod ShelfLemmas
pub mod LawLemmas
