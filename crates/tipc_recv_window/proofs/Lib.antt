pub mod ArrivalLaws
pub mod Comings
pub mod Holding
pub mod Runs
