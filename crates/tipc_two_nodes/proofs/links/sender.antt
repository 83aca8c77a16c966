-- The sender: the lines and windows of its links stand for the slots of a state of two links and their tunnels.
pub mod Lists
pub mod Grown
pub mod Happening
pub mod Numbering
pub mod Calls
pub mod Travelling
pub mod Changing
pub mod Turning
pub mod Joining
pub mod PairSteps
pub mod LinkSteps
pub mod Wrapping
