pub mod Packing
pub mod ViewArrays
pub mod ViewBytes
pub mod ViewParts
pub mod TextEnds
