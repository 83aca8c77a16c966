pub mod Events
pub mod Groups
pub mod Law
pub mod Lines
pub mod Listening
pub mod Promises
pub mod Steps
