pub mod Laws
pub mod Receiving
