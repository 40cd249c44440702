pub mod Tallies
pub mod Demands
pub mod Ranking
pub mod Passes
pub mod Ticks
pub mod Kept
pub mod Made
