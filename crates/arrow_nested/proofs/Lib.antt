pub mod FixedSizeLists
pub mod Lists
pub mod NonNull
pub mod Nulls
pub mod Structs
