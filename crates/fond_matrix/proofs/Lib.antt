pub mod Bits
pub mod Below
pub mod Literals
pub mod Opposed
pub mod Cubes
pub mod Noted
pub mod Soles
