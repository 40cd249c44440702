pub mod Counting
pub mod Orders
pub mod Services
pub mod Gating
pub mod Refusals
pub mod Bounds
