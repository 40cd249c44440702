pub mod Counts
pub mod Values
pub mod Takes
