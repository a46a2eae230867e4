pub mod Cloned
pub mod Finished
pub mod Flat
pub mod Later
pub mod MaskedTakes
pub mod Masks
pub mod Nulls
pub mod Takes
