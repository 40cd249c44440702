pub mod Counts
pub mod Answered
pub mod Gated
pub mod Ranges
pub mod Ranks
pub mod Bounds
pub mod Fresh
