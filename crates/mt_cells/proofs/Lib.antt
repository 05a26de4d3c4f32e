pub mod Chunks
pub mod NumberLemmas
pub mod CellLemmas
pub mod SeenLemmas
pub mod SizeLemmas
pub mod CutLemmas
pub mod FitLemmas
