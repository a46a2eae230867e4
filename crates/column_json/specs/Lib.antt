pub mod Children
pub mod Puts
