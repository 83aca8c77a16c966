-- What each deed of a node leaves of what the two nodes are to each other.
pub mod WireSteps
pub mod ContactSteps
pub mod RiseSteps
pub mod BesideSteps
pub mod TwinSteps
pub mod Carrying
pub mod Deeds
