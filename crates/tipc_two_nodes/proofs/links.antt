-- Each call of a pair is events of the law of two links.
pub mod calls
pub mod receiver
pub mod sender
