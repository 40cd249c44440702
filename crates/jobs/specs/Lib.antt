pub mod Ranks
pub mod Jobs
pub mod Powers
pub mod States
