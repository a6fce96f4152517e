pub mod Decisions
pub mod Planners
pub mod Walks
pub mod Seeks
pub mod Finds
pub mod Ends
