pub mod Arrays
pub mod Flat
pub mod Items
pub mod Laws
pub mod Masks
pub mod Nulls
pub mod State
