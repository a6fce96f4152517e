pub mod Verdicts
pub mod Texts
pub mod Laws
