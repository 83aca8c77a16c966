-- The calls of a pair as deeds of the two nodes.
pub mod Arriving
pub mod Laws
pub mod PairDeeds
