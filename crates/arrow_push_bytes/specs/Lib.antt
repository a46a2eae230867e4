pub mod BuiltOffsets
pub mod BuiltSized
pub mod BuiltStrings
pub mod BuiltViews
pub mod Laws
pub mod Parts
pub mod Strings
