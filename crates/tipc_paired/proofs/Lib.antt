pub mod wires
pub mod sessions
pub mod contacts
pub mod PairedLaw
pub mod Facts
