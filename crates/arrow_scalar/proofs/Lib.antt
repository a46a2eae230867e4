pub mod Assembled
pub mod Chosen
pub mod KeyLists
pub mod Lists
pub mod SameViews
pub mod Short
pub mod Slots
pub mod Spelled
