-- What a course of a pair tells of links and contact.
pub mod Acquainting
pub mod Calm
pub mod EndsStay
pub mod Packed
pub mod Strangers
pub mod Sound
pub mod Low
pub mod RightEnds
pub mod Mended
pub mod Standing
pub mod Rising
pub mod Originals
pub mod Sessions
pub mod Bringing
pub mod SessionFrames
pub mod Numbers
