pub mod Casting
pub mod Contacts
pub mod Deeds
pub mod Frames
pub mod Laws
pub mod Pieces
