pub mod Views
pub mod Paired
pub mod Deeds
pub mod Facts
