pub mod Pairs
pub mod Numbering
pub mod Graphs
pub mod Choosing
