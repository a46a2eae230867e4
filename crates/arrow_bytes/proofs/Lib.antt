pub mod Carried
pub mod Windows
