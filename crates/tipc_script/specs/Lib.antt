pub mod Faults
pub mod Grammar
pub mod Kinds
pub mod Shapes
pub mod Spelling
pub mod Splitting
pub mod Values
