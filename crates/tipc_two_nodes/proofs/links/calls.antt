-- The calls of a pair, as events of the sender.
pub mod States
pub mod FollowingOn
pub mod Releasing
pub mod Freeing
pub mod Acted
pub mod Ending
pub mod Stepping
pub mod Reacting
pub mod Ticking
pub mod Noticing
pub mod Listening
pub mod Carrying
pub mod Arrived
pub mod Posting
pub mod Leaving
pub mod Founding
