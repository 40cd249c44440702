pub mod Entries
pub mod Outputs
pub mod Taking
pub mod Files
