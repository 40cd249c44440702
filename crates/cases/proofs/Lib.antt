pub mod Answers
pub mod Release
