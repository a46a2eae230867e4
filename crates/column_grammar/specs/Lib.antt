pub mod Laws
pub mod Reads
pub mod Values
pub mod Writes
