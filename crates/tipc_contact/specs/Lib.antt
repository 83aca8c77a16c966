pub mod Sides
pub mod Peers
pub mod Order
