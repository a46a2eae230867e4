pub mod Dictionaries
pub mod Unions
