pub mod Choosing
pub mod Fair
pub mod Turns
