-- What crosses between two nodes in one contact: how it begins at either, goes on and ends.
pub mod Outset
pub mod Lasting
pub mod Counting
pub mod Standing
pub mod Stale
pub mod Choosing
pub mod Entering
pub mod Sending
pub mod Leaving
pub mod Hearing
pub mod Numbered
pub mod Recorded
pub mod Fronts
pub mod AllTaken
