pub mod Tokens
pub mod Naming
pub mod Faces
