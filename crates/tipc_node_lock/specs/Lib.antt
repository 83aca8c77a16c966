pub mod Advances
pub mod Inboxes
pub mod Journals
pub mod Locked
pub mod Locks
pub mod Moves
pub mod Passes
pub mod Sections
