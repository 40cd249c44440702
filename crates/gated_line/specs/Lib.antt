pub mod GatedLine
pub mod Standings
