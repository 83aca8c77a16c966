pub mod Carried
pub mod Causes
pub mod Frames
pub mod Memory
