-- The journals stay lawful, and what they tell was brought by arrivals.
pub mod Kept
pub mod KeptWorlds
pub mod Parted
pub mod Stepping
pub mod TunnelsTaken
pub mod TurnCasts
pub mod TurnCastsTraced
pub mod TurnContacts
pub mod TurnKept
pub mod TurnMessages
pub mod TurnTimed
pub mod TurnTraced
