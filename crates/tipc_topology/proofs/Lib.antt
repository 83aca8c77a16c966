-- Lemmas on subscriptions.
pub mod Counts
pub mod Each
pub mod Following
pub mod Keeping
pub mod Kept
pub mod Order
pub mod Ranks
pub mod Removable
pub mod Removing
pub mod Taken
pub mod Telling
