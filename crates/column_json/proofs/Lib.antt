pub mod Octets
pub mod Offsets
pub mod Parts
pub mod Tokens
pub mod ViewParts
