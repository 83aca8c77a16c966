-- Each two nodes are two that talk, through every event.
pub mod Contacts
pub mod Pairings
pub mod Counts
pub mod Turning
pub mod LastSessions
pub mod Standing
pub mod Bringing
pub mod PairedStarts
pub mod PairedTurns
pub mod PairedEvents
pub mod Outward
