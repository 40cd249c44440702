pub mod Lined
pub mod Cutout
pub mod Sofar
pub mod There
