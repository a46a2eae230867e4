pub mod FixedSizeLists
pub mod Lists
pub mod NullLaws
pub mod Nulls
pub mod Structs
