-- Publications and withdrawals as they travel from node to node.
pub mod Agreeing
pub mod Applying
pub mod Items
pub mod Told
