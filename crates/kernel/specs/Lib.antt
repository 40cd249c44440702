pub mod Views
pub mod Promises
