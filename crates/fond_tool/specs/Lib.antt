pub mod Bests
pub mod Decided
pub mod Demos
pub mod Ends
pub mod Jobs
pub mod Plans
