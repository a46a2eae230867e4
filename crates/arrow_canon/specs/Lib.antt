pub mod Canonical
pub mod Picks
pub mod Runs
pub mod Steps
