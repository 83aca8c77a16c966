-- The calls of the broadcast link are events of the law.
pub mod Calls
pub mod Crediting
pub mod Numbering
pub mod Stating
