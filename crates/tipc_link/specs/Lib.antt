pub mod Records
pub mod Sessions
pub mod Links
pub mod Hearings
pub mod Direction
pub mod Laws
pub mod Outliving
pub mod Parts
