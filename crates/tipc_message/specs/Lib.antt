pub mod ItemWords
pub mod Wire
