pub mod Select
pub mod Belongs
pub mod Groups
pub mod Targets
pub mod Laws
pub mod Leans
pub mod Tables
