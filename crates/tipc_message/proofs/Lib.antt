pub mod ItemLaws
pub mod WireLaws
