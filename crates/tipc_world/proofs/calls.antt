-- The recorded calls of all nodes: their answers, numbers and stamps, and all of them in order of their stamps.
pub mod Sums
pub mod Merging
pub mod Adding
pub mod Quiet
pub mod Recording
pub mod Orderly
pub mod Merged
