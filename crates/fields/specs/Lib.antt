pub mod Words
pub mod Numbers
pub mod Cutting
pub mod Tokens
