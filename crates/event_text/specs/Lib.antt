pub mod Faults
pub mod Files
pub mod Grammar
pub mod Places
pub mod Headers
pub mod Events
