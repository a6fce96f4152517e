pub mod Choices
pub mod Graphs
