pub mod Kinds
pub mod Files
