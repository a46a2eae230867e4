pub mod Chosen
pub mod OtherKinds
pub mod Ranges
pub mod Slots
