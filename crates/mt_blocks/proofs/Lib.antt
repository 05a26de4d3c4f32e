pub mod SortedLemmas
pub mod RankLemmas
pub mod SortLemmas
pub mod RowLemmas
pub mod BlockLemmas
pub mod SeenLemmas
