pub mod Parents
pub mod Forests
pub mod Growth
pub mod Kinds
pub mod Tables
pub mod Faults
