pub mod Places
pub mod PositionLaws
