-- What happens to a session and to the link end that has it.
pub mod SessionDeeds
pub mod SessionPackets
pub mod CallDeeds
pub mod RiseDeeds
pub mod BesideDeeds
pub mod SessionFrames
