pub mod Requesting
pub mod Tickets
pub mod Using
pub mod Named
