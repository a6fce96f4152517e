pub mod Actions
pub mod Steps
pub mod Successors
pub mod Stands
pub mod Games
pub mod Solutions
pub mod Traces
pub mod Laws
