pub mod Lines
pub mod Table
pub mod Packets
pub mod Frames
pub mod Digits
