pub mod Answered
pub mod Columns
pub mod Depths
pub mod Equal
pub mod Jobs
pub mod JobTexts
pub mod Readings
pub mod Refused
