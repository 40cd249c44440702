pub mod Turns
pub mod Inversions
pub mod Looks
pub mod Entering
pub mod Leaving
pub mod Made
pub mod Whole
