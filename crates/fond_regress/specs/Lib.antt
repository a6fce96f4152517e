pub mod Taken
pub mod Named
pub mod Barred
pub mod Stable
pub mod Weaker
pub mod Guesses
pub mod Laws
