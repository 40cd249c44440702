pub mod Boards
pub mod Settling
pub mod Calls
pub mod Events
