pub mod Appended
pub mod Bare
pub mod SlotParts
pub mod Spellings
