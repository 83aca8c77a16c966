-- A node shares its names with its peers.
pub mod SharedNames
pub mod SharingArrivals
pub mod SharingCalls
pub mod SharingCasts
pub mod SharingDelivered
pub mod SharingEntries
pub mod SharingFlows
pub mod SharingHeard
pub mod SharingNaming
pub mod SharingPeers
pub mod SharingSteps
pub mod SharingUnused
pub mod SharingWork
