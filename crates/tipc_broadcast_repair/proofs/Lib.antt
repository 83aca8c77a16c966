pub mod Going
pub mod Mending
