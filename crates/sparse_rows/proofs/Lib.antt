pub mod Below
pub mod RowLemmas
pub mod PairedRows
pub mod MergeLemmas
pub mod SearchLemmas
pub mod SortLemmas
