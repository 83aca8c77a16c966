mod Calling
mod Carrying
mod Crewing
mod Jobs
mod Locking
mod Sending
pub mod ShowingLaws
