pub mod Refusals
pub mod Histories
pub mod Steps
pub mod Guarantee
