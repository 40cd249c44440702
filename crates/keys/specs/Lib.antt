pub mod Deadlines
pub mod Bands
