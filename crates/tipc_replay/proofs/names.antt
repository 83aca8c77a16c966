-- What nodes hold of one another's publications.
pub mod Shown
pub mod Rising
pub mod Sharing
pub mod Agreed
