pub mod InnerLaws
pub mod Rows
pub mod Places
pub mod Bundling
pub mod Walks
