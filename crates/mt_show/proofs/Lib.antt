pub mod ShapeLemmas
pub mod ShowLemmas
pub mod SizeLemmas
pub mod TextLemmas
