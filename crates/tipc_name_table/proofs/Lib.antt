pub mod TableLaws
pub mod Counts
