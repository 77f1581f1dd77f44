pub mod LatestLemmas
pub mod Printable
pub mod ReportLemmas
pub mod RowLemmas
pub mod ShownLemmas
pub mod TableLemmas
