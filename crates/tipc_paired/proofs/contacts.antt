-- What happens to all sessions of a node together: a contact ends, a node restarts; and what a node tells its peer.
pub mod Mutual
pub mod TellDeeds
pub mod ContactDeeds
pub mod RestartDeeds
