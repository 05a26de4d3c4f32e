pub mod PlaceLemmas
pub mod KeptLemmas
pub mod StoredLemmas
pub mod FormLemmas
pub mod NumbersKept
pub mod PointwiseLemmas
pub mod WidthLemmas
