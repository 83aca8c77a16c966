pub mod CutLaws
pub mod Fronts
pub mod ItemLaws
pub mod JoinLaws
pub mod RunLaws
pub mod StreamLaws
