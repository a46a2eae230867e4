pub mod Reads
pub mod Texts
pub mod TypeJson
pub mod Values
