pub mod Certificates
pub mod Ratings
pub mod Texts
pub mod Laws
