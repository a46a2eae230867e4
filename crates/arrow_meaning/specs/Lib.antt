pub mod FlatSlots
pub mod Nodes
pub mod NodesFall
pub mod NullParts
pub mod Refusals
pub mod Storable
