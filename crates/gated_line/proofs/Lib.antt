pub mod Made
pub mod Lines
pub mod Sim
