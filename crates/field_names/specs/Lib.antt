pub mod Names
pub mod Patterns
