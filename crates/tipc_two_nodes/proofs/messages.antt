-- The messages behind the packets: what was put, what was given, and what is begun.
pub mod Packets
pub mod Slots
pub mod Talking
pub mod Talks
pub mod Posted
pub mod Begun
pub mod Crossing
pub mod Listing
