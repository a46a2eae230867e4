pub mod Equal
pub mod Numbers
pub mod SlotAt
pub mod SlotParts
