pub mod Read
pub mod Lifted
pub mod Alike
pub mod Same
pub mod Stuck
pub mod Replies
pub mod PolicyLaws
