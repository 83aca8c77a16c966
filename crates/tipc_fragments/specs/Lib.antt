pub mod Cutting
pub mod Joining
pub mod Laws
pub mod Streams
