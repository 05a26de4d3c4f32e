mod SentenceLemmas
mod TableLemmas
mod AskedLemmas
mod QueryLemmas
mod RowLemmas
mod TrialRows
mod CellLemmas
mod ItemLemmas
mod GroupRows
mod RowItems
mod FlatLemmas
mod TextSizes
mod WidthLemmas
mod FolderLemmas
mod StorableLemmas
mod HalfLemmas
mod AnswerLemmas
mod MergedLemmas
mod CauseLemmas
pub mod OnlyLemmas
mod FreeLemmas
pub mod PartLemmas
pub mod MergeOnly
mod AnswersOnly
mod TrialOnly
mod ReadyLemmas
mod UnrefusedLemmas
