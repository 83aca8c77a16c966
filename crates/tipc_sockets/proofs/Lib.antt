-- Lemmas on the sockets of a node.
pub mod Closing
pub mod Counting
pub mod Entries
pub mod FatesTold
pub mod Hearers
pub mod Keeping
pub mod Learning
pub mod LearntNames
pub mod Placing
pub mod StepsTold
pub mod Subscribers
pub mod ToldNames
pub mod Waiting
pub mod Watched
