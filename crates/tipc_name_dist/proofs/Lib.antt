pub mod Applied
pub mod Bulks
pub mod Agreeing
pub mod Agreed
pub mod Fronts
