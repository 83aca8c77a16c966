-- What calls come to, and the journals in which they are recorded.
pub mod Calls
pub mod Outcomes
pub mod Journals
pub mod Singles
