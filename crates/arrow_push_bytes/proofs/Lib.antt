pub mod BuiltOffsets
pub mod BuiltSized
pub mod BuiltStrings
pub mod BuiltViews
pub mod PartsPushed
pub mod Strings
pub mod ViewsPacked
