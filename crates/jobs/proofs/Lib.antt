pub mod Counting
pub mod Leads
pub mod Powers
