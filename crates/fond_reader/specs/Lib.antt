pub mod Forms
pub mod Typed
pub mod Sorts
pub mod Bodies
pub mod Files
pub mod Nodes
pub mod Laws
pub mod Sides
