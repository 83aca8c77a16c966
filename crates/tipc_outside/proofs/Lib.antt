pub mod Adding
mod Boxes
mod Reaching
