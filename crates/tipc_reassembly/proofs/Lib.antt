pub mod AnswerLaws
pub mod FrontLaws
pub mod InnerSizes
pub mod OnePacket
pub mod Outcomes
pub mod Packets
pub mod SlotLaws
pub mod TraceLaws
