-- What was accepted and delivered, over all boots of a node.
pub mod Histories
pub mod TurnStreams
pub mod StreamsKept
pub mod StreamsEvents
pub mod Flows
pub mod Within
pub mod Entered
