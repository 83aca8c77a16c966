-- How a broadcast packet that was lost comes to each member while a world settles.
pub mod Links
pub mod Events
pub mod Law
pub mod Going
pub mod Telling
pub mod Hearing
pub mod Standing
pub mod Heard
pub mod Rows
pub mod Repeating
pub mod Taking
pub mod Joined
pub mod Releasing
