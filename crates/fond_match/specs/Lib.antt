pub mod Lies
pub mod Visits
pub mod Runs
pub mod Matchers
pub mod Lying
pub mod Besides
pub mod Blocks
