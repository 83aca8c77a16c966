-- Each call of a pair as a run of acts, and what is shown of all of them once it is shown of each act.
pub mod Acts
pub mod Walks
pub mod Acting
pub mod Takings
