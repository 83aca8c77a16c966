-- The frames in the air: their senders, their age, and what they tell.
pub mod Ages
pub mod Agings
pub mod Released
pub mod Emissions
pub mod Senders
pub mod Reaching
pub mod Truth
pub mod Coming
pub mod Messages
pub mod Fitting
pub mod Routes
pub mod Lasting
pub mod AgedKept
pub mod Recent
