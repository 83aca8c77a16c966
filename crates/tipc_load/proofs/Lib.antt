pub mod ClearLines
pub mod Drawing
pub mod LoadLines
pub mod Sound
pub mod Words
