-- What one bearer has of a node's sight of its peer: frames, epochs, and the sessions that were.
pub mod Fronts
pub mod Frames
pub mod Wires
pub mod Growing
pub mod Turns
pub mod Ends
pub mod Sides
pub mod WireDeeds
pub mod EpochsKept
