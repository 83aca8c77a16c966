pub mod Clear
pub mod Load
pub mod Spelling
