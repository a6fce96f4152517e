pub mod Rows
pub mod Below
pub mod Matrices
pub mod Rivals
