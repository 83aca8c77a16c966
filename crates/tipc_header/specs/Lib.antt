pub mod Users
pub mod Contents
pub mod Spelling
pub mod Grammar
pub mod Reading
pub mod Faults
pub mod Frames
