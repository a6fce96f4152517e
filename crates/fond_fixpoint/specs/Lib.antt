pub mod Moves
pub mod Heads
pub mod Fates
pub mod Rounds
pub mod Begun
pub mod Cascades
