-- The STATEs among the frames of a turn.
pub mod Reading
pub mod Plain
pub mod Shown
pub mod InContact
pub mod TurnSays
pub mod Each
pub mod PlainKept
pub mod EndsKept
pub mod CastLinksKept
pub mod StatesArrive
