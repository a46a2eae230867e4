pub mod Borders
pub mod Checks
pub mod Packed
pub mod Packing
pub mod TextRanges
pub mod Windows
