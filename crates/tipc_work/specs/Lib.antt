pub mod Called
pub mod Jobs
pub mod Moved
pub mod Plans
pub mod Showing
pub mod Shown
pub mod Worked
