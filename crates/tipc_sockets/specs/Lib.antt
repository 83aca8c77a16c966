-- What the sockets of one node hold, what is published at them, what becomes of a message, and what subscribers are told.
pub mod Entries
pub mod Fates
pub mod Learning
pub mod Publishing
pub mod SocketTables
pub mod Telling
pub mod Watched
