pub mod Adding
pub mod Digits
pub mod Earliest
pub mod Numerals
pub mod Lowered
pub mod Outs
