pub mod Indexed
pub mod Names
pub mod Order
pub mod Places
pub mod Same
