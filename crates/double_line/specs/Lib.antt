pub mod Doubled
pub mod Doubling
