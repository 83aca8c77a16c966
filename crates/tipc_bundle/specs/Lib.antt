pub mod Bundles
pub mod Splitting
