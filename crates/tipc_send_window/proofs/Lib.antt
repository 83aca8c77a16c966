pub mod Keeping
pub mod WindowLaws
