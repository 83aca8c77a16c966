pub mod Changing
pub mod Transitions
pub mod Watchers
