-- The receiver: its records stand for those of the state, and what it takes is next.
pub mod Taking
pub mod Tunnelling
pub mod Unwrapping
pub mod Opening
pub mod Coming
pub mod Remaining
pub mod BegunKept
pub mod Received
pub mod Hearing
pub mod Rising
pub mod Quiet
pub mod Activating
pub mod Preserving
pub mod Landing
