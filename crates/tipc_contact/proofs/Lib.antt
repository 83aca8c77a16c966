pub mod Calls
pub mod Speaking
pub mod Knowing
pub mod Sessions
pub mod Ordering
