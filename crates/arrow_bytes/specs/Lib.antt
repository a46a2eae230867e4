pub mod Binaries
pub mod FixedSizeBinaries
