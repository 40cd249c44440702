pub mod Edits
pub mod Taking
pub mod Holding
pub mod Running
pub mod Waiting
