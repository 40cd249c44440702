pub mod Gatesteps
