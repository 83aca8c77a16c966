pub mod arrivals
pub mod calls
pub mod contacts
pub mod deeds
pub mod links
pub mod messages
pub mod sights
pub mod steps
