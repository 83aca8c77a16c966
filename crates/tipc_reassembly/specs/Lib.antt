pub mod Opening
pub mod Slots
pub mod Tracing
