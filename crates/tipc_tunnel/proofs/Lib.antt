pub mod InnerLaws
pub mod TunnelLaws
pub mod UnwrapLaws
