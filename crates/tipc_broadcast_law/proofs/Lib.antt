pub mod CasterEvents
pub mod Consequences
pub mod Lining
pub mod Listening
pub mod MemberEvents
pub mod Places
pub mod calls
