pub mod Distincts
pub mod Lists
pub mod Made
pub mod Met
pub mod Plans
pub mod Types
