pub mod Answering
pub mod Closing
pub mod Live
pub mod Telling
pub mod Text
